use Rattle.std.proofs.Common.{◌≡◌, map, take}
use Rattle.file_judge.specs.Given.{curve_in}
use Rattle.file_judge.proofs.due.curves.Given as goal

-- those of the classes so far
abbrev pub invariant-loop-class : goal.invariant-loop-class
invariant-loop-class l = l.all.items ≡ map curve_in (take l.class-index l.classes)
