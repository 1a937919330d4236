use Rattle.std.proofs.Common.{◌≤◌, ◌*◌, ◌^◌, List, []}
use Rattle.altq_model.specs.History.{Arrival}
use Rattle.fate_judge.specs.Ends.{HasEnd, IsLink}
use Rattle.fate_judge.specs.Reading.{IsRead}
use Rattle.fate_judge.specs.Walk.{EachRow}
use Rattle.fate_judge.specs.declared.given.Allowed.{Allowed}
use Rattle.fate_judge.proofs.Walking.{EachBelow, before_at}
use Rattle.fate_judge.proofs.ends.first_other_end.Given as goal

abbrev pub invariant-loop-i : goal.invariant-loop-i
invariant-loop-i l = record {
  few : l.run.sent ≤ l.rate * 2 ^ 64;
  stands : (classes : List Allowed) (arrived : List Arrival) → EachRow (IsRead classes arrived) [] l.rows → IsLink l.rate arrived (before_at l.rows l.i) l.run;
  each : (classes : List Allowed) (arrived : List Arrival) → EachRow (IsRead classes arrived) [] l.rows → EachBelow (HasEnd l.rate arrived) l.rows l.i;
}
