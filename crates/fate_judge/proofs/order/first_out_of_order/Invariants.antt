use Rattle.std.proofs.Common.{◌≡◌, List, [], vec_len}
use Rattle.altq_model.specs.History.{Arrival}
use Rattle.fate_judge.specs.Order.{RowIsInOrder, IsOrder}
use Rattle.fate_judge.specs.Reading.{IsRead}
use Rattle.fate_judge.specs.Walk.{EachRow}
use Rattle.fate_judge.specs.declared.given.Allowed.{Allowed}
use Rattle.fate_judge.proofs.Walking.{EachBelow, before_at}
use Rattle.fate_judge.proofs.order.first_out_of_order.Given as goal

abbrev pub invariant-loop-i : goal.invariant-loop-i
invariant-loop-i l = record {
  count : vec_len l.order.sent ≡ l.count;
  stands : (classes : List Allowed) (arrived : List Arrival) → EachRow (IsRead classes arrived) [] l.rows
      → IsOrder arrived (before_at l.rows l.i) l.order.sent.items l.order.start l.order.drop l.order.moment;
  each : (classes : List Allowed) (arrived : List Arrival) → EachRow (IsRead classes arrived) [] l.rows → EachBelow (RowIsInOrder arrived) l.rows l.i;
}
