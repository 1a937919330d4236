use Rattle.std.proofs.Common.{sym, ap, ◌∙◌, ℕ}
use Rattle.std.specs.Prelude.{Option}
use Rattle.hfsc_model.specs.RealTime.{has_come}
use Rattle.hfsc_eligible.proofs.Picks.{none_picked}
use Rattle.hfsc_eligible.proofs.Eligible.picked.Goals as goal

pub returns-then-not-has_come : goal.returns-then-not-has_come
returns-then-not-has_come c =
    sym (none_picked c.args.self.now c.args.now (ap (λ (k : Option ℕ). has_come k c.args.now) (sym c.first_moment.ensures) ∙ sym c.has_come.ensures ∙ c.if-not-has_come.true))
