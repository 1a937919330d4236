use Rattle.std.proofs.Common.{List, []}
use Rattle.altq_model.specs.History.{Arrival}
use Rattle.fate_judge.specs.Reading.{IsRead}
use Rattle.fate_judge.specs.Tests.{IsFree, IsInTime}
use Rattle.fate_judge.specs.Walk.{EachRow}
use Rattle.fate_judge.specs.declared.given.Allowed.{Allowed}
use Rattle.fate_judge.proofs.Walking.{EachBelow, before_at}
use Rattle.fate_judge.proofs.moments.first_early.Given as goal

abbrev pub invariant-loop-i : goal.invariant-loop-i
invariant-loop-i l = record {
  stands : IsFree (before_at l.rows l.i) l.free.end;
  each : (classes : List Allowed) (arrived : List Arrival) → EachRow (IsRead classes arrived) [] l.rows → EachBelow (IsInTime arrived) l.rows l.i;
}
