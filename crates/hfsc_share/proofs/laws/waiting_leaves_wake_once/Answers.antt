use Rattle.hfsc_share.proofs.Steps.{kept_more}
use Rattle.hfsc_share.proofs.laws.waiting_leaves_wake_once.Goals as goal

pub returns : goal.returns
returns c = kept_more
