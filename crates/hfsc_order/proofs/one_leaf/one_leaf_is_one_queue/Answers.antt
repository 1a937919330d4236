use Rattle.hfsc_order.proofs.Policies.{one_queue}
use Rattle.hfsc_order.proofs.one_leaf.one_leaf_is_one_queue.Goals as goal

pub returns : goal.returns
returns c = one_queue
