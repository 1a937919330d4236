use Rattle.std.proofs.Common.{◌≡◌, arith}
use Rattle.cbq_model.proofs.way_rows.worked_ways.Goals as goal

pub returns-clause-parent_left_out : goal.returns-clause-parent_left_out
returns-clause-parent_left_out c = λ x. let e : 0 ≡ 1 = x.1.0 in omega (arith, e)
