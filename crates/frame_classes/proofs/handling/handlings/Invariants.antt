use Rattle.std.proofs.Common.{◌≡◌, map, take}
use Rattle.frame_classes.specs.Handlings.{handling_of}
use Rattle.frame_classes.proofs.handling.handlings.Given as goal

-- those of the classes so far
abbrev pub invariant-loop-class : goal.invariant-loop-class
invariant-loop-class l = l.found.items ≡ map handling_of (take l.class-index l.classes)
