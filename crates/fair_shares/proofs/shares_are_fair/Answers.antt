use Rattle.hfsc_policy.specs.Events.{hfsc_history}
use Rattle.fair_shares.proofs.Chosen.{orderly_choices}
use Rattle.fair_shares.proofs.Stretches.{is_fair}
use Rattle.fair_shares.proofs.shares_are_fair.Goals as goal

pub returns-clause-choices : goal.returns-clause-choices
returns-clause-choices c = is_fair

pub returns-clause-histories : goal.returns-clause-histories
returns-clause-histories c = λ cs answer h alone o. is_fair cs (hfsc_history h) alone (orderly_choices cs answer h alone.tree o)
