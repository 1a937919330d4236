use Rattle.std.proofs.Common.{sym, subst, ℕ}
use Rattle.std.specs.Prelude.{Option}
use Rattle.hfsc_eligible.specs.Eligible.{IsLeastSoonest}
use Rattle.hfsc_eligible.proofs.Picks.{soonest_is_least}
use Rattle.hfsc_eligible.proofs.Eligible.soonest.Goals as goal

pub returns-clause-least : goal.returns-clause-least
returns-clause-least c = λ curves h stands.
    subst (λ (o : Option ℕ). IsLeastSoonest curves h o) (sym c.first_moment.ensures) (soonest_is_least c.args.self.now curves h stands)
