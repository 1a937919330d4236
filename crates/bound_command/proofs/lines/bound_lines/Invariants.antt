use Rattle.std.proofs.Common.{◌≡◌, ◌++◌, drop}
use Rattle.std.specs.Prelude.{string_bytes}
use Rattle.bound_command.specs.Lines.{bound_lines, lines_from}
use Rattle.bound_command.proofs.LineLemmas.{line_in}
use Rattle.bound_command.proofs.lines.bound_lines.Given as goal

abbrev pub invariant-loop-number : goal.invariant-loop-number
invariant-loop-number l =
    string_bytes l.text ++ lines_from (line_in l.fits l.interface (record { longest = l.longest; burst = l.burst })) l.classes l.number (drop l.number l.classes)
    ≡ bound_lines l.fits l.interface (record { longest = l.longest; burst = l.burst })
