use Rattle.std.proofs.Common.{sym, subst, ℕ, ◌∙◌, ap}
use Rattle.std.specs.Prelude.{Option, MatchOption}
use Rattle.hfsc_model.specs.RealTime.{IsRealPick, NoneIsEligible}
use Rattle.hfsc_eligible.specs.Eligible.{pick_now}
use Rattle.hfsc_eligible.proofs.Picks.{pick_is_real}
use Rattle.hfsc_eligible.proofs.Eligible.pick.Goals as goal

pub returns-clause-pick : goal.returns-clause-pick
returns-clause-pick c = λ curves h stands by.
    let is = c.picked.ensures ∙ ap (λ n. pick_now c.args.self.now n) c.from.ensures in
    subst (λ (o : Option ℕ). MatchOption o (NoneIsEligible curves h c.args.now) (IsRealPick curves h c.args.now)) (sym is)
    (pick_is_real c.args.self.now curves h c.args.now stands by)
