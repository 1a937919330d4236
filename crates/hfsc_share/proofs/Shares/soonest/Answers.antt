use Rattle.std.proofs.Common.{sym, subst, ℕ}
use Rattle.std.specs.Prelude.{Option}
use Rattle.hfsc_groups.specs.Classes.{IsSoonest}
use Rattle.hfsc_share.specs.Shares.{last_wake}
use Rattle.hfsc_share.proofs.Picks.{soonest_is}
use Rattle.hfsc_share.proofs.Shares.soonest.Goals as goal

pub returns-clause-least : goal.returns-clause-least
returns-clause-least c = λ cs h stands.
    subst (λ (o : Option ℕ). IsSoonest cs h (last_wake c.args.self.now) o) (sym c.soonest_moment.ensures) (soonest_is c.args.self.now cs h stands)
