use Rattle.hfsc_policy.specs.Events.{hfsc_history}
use Rattle.fair_shares.proofs.Chosen.{orderly_choices}
use Rattle.fair_shares.proofs.Spread.{are_close}
use Rattle.fair_shares.proofs.active_siblings_stay_close.Goals as goal

pub returns-clause-choices : goal.returns-clause-choices
returns-clause-choices c = are_close

pub returns-clause-histories : goal.returns-clause-histories
returns-clause-histories c = λ cs answer h alone o. are_close cs (hfsc_history h) alone (orderly_choices cs answer h alone.tree o)
