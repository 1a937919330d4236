use Rattle.hfsc_laws.proofs.Activity.{activated_time}
use Rattle.hfsc_laws.proofs.share.classes_begin_at_their_activation.Goals as goal

pub returns : goal.returns
returns c = activated_time
