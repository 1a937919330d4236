use Rattle.std.proofs.Common.{◌≡◌, take}
use Rattle.std.specs.Prelude.{string_bytes}
use Rattle.std.specs.List.{flat_map}
use Rattle.verify_command.specs.Lines.{late_line}
use Rattle.verify_command.proofs.lines.verdict_text.Given as goal

-- the lines so far
abbrev pub invariant-loop-one : goal.invariant-loop-one
invariant-loop-one l = string_bytes l.text ≡ flat_map (late_line l.interface) (take l.one-index l.late)
