use Rattle.fate_judge.specs.Given.{bare_arrivals}
use Rattle.fate_judge.specs.Reading.{IsRead}
use Rattle.fate_judge.proofs.Walking.{EachBelow}
use Rattle.fate_judge.proofs.reading.first_unread.Given as goal

abbrev pub invariant-loop-i : goal.invariant-loop-i
invariant-loop-i l = EachBelow (IsRead l.classes (bare_arrivals l.arrived)) l.rows l.i
