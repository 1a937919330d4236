use Rattle.frame_classes.proofs.Queues.{class_is_a_queue}
use Rattle.frame_classes.proofs.laws.flows_have_classes.Goals as goal

pub returns : goal.returns
returns c = λ text interfaces h k i at flow. class_is_a_queue i flow (c.interfaces_have_queues.ensures text interfaces h k i at)
