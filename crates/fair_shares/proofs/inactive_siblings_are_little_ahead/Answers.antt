use Rattle.hfsc_policy.specs.Events.{hfsc_history}
use Rattle.fair_shares.proofs.Chosen.{orderly_choices}
use Rattle.fair_shares.proofs.Spread.{are_little_ahead}
use Rattle.fair_shares.proofs.inactive_siblings_are_little_ahead.Goals as goal

pub returns-clause-choices : goal.returns-clause-choices
returns-clause-choices c = are_little_ahead

pub returns-clause-histories : goal.returns-clause-histories
returns-clause-histories c = λ cs answer h alone o. are_little_ahead cs (hfsc_history h) alone (orderly_choices cs answer h alone.tree o)
