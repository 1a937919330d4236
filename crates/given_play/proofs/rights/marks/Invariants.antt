use Rattle.std.proofs.Common.{◌≡◌, map, take}
use Rattle.given_play.specs.Rights.{marks_by}
use Rattle.given_play.proofs.rights.marks.Given as goal

-- those of the classes so far
abbrev pub invariant-loop-class : goal.invariant-loop-class
invariant-loop-class l = l.all.items ≡ map marks_by (take l.class-index l.classes)
