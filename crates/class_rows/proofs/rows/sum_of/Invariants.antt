use Rattle.std.proofs.Common.{◌≡◌, ◌≤◌, ◌*◌, take}
use Rattle.class_rows.specs.Rows.{limits_of, limits_sum}
use Rattle.class_rows.proofs.rows.sum_of.Given as goal

abbrev pub invariant-loop-place : goal.invariant-loop-place
invariant-loop-place g l = record {
  sum : l.sum ≡ limits_sum (limits_of g.Q.QueueRule.most (take l.place l.queues) (take l.place l.holds));
  bound : l.sum ≤ 10000 * l.place;
}
