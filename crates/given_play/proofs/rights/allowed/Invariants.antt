use Rattle.std.proofs.Common.{◌≡◌, map, take}
use Rattle.given_play.specs.Rights.{allowed_in}
use Rattle.given_play.proofs.rights.allowed.Given as goal

-- those of the classes so far
abbrev pub invariant-loop-class : goal.invariant-loop-class
invariant-loop-class l = l.all.items ≡ map (allowed_in l.interface.kind) (take l.class-index l.classes)
