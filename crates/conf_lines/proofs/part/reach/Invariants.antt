use Rattle.std.proofs.Common.{◌≡◌, length}
use Rattle.conf_lines.specs.Parts.{reach}
use Rattle.conf_lines.proofs.part.reach.Given as goal

abbrev pub invariant-loop-part : goal.invariant-loop-part
invariant-loop-part l = reach l.stands l.left l.word ≡ reach l.fn.stands l.fn.parts l.word

abbrev pub decreases-loop-part : goal.decreases-loop-part
decreases-loop-part l = length l.left
