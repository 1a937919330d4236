use Rattle.std.proofs.Common.{◌≡◌, ◌++◌, drop}
use Rattle.std.specs.Prelude.{flat_map, string_bytes}
use Rattle.shares_command.specs.Lines.{gap_line}
use Rattle.shares_command.proofs.lines.gap_lines.Given as goal

abbrev pub invariant-loop-gap : goal.invariant-loop-gap
invariant-loop-gap l = string_bytes l.text ++ flat_map (gap_line l.classes) (drop l.gap-index l.gaps) ≡ flat_map (gap_line l.classes) l.gaps
