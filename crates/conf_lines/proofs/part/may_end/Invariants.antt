use Rattle.std.proofs.Common.{◌≡◌, drop}
use Rattle.conf_lines.specs.Parts.{may_end}
use Rattle.conf_lines.proofs.part.may_end.Given as goal

abbrev pub invariant-loop-part : goal.invariant-loop-part
invariant-loop-part l = may_end (drop l.part-index l.parts) ≡ may_end l.parts
