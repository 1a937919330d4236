use Rattle.std.proofs.Common.{length}
use Rattle.fate_judge.specs.All.{AreTold, HaveRoom, PassesEach}
use Rattle.fate_judge.specs.Given.{bare_arrivals}
use Rattle.fate_judge.proofs.Walking.{EachBelow, before_at}
use Rattle.fate_judge.proofs.all.all_pass.Given as goal

abbrev pub invariant-loop-row : goal.invariant-loop-row
invariant-loop-row l = record {
  room : HaveRoom l.rate (length l.arrived) (length l.classes) l.tests;
  told : AreTold l.rate (bare_arrivals l.arrived) (before_at l.rows l.row-index) l.tests;
  each : EachBelow (PassesEach l.rate l.classes (bare_arrivals l.arrived)) l.rows l.row-index;
}
