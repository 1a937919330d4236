use Rattle.fate_judge.proofs.Passing.{have_classes, numbered}
use Rattle.fate_judge.proofs.judge.judge_each.Goals as goal

pub first_again-requires : goal.first_again-requires
first_again-requires c = numbered c.args.classes.now c.args.arrived.now c.args.rows.now c.in_default.ensures

pub first_out_of_order-requires : goal.first_out_of_order-requires
first_out_of_order-requires c = have_classes c.args.classes.now c.args.arrived.now c.args.rows.now c.in_default.ensures
