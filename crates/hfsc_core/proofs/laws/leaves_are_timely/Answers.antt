use Rattle.std.proofs.Common.{subst}
use Rattle.altq_model.specs.History.{unlabelled}
use Rattle.altq_model.specs.Play.{Policy}
use Rattle.discipline.specs.Moments.{IsOrderly}
use Rattle.hfsc_policy.proofs.Orderly.{timely_in_order}
use Rattle.hfsc_core.proofs.laws.leaves_are_timely.Goals as goal

pub returns : goal.returns
returns g c = λ cs answer same tree rate some fit h stood ends busy.
    timely_in_order cs answer rate (unlabelled h) some tree (subst (λ (p : Policy). IsOrderly p (unlabelled h)) same stood.orderly) ends busy fit
