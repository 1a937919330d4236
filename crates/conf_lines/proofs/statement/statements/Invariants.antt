use Rattle.std.proofs.Common.{◌≡◌, ◌+◌, ◌-◌, ◌≤◌, ◌++◌, length, drop}
use Rattle.conf_lines.specs.Texts.{statements_in, statements_of}
use Rattle.conf_lines.proofs.statement.statements.Given as goal

abbrev pub invariant-loop-line : goal.invariant-loop-line
invariant-loop-line l = record {
  within : l.from ≤ length l.text;
  numbered : l.number ≤ l.from + 1;
  found : l.found.items ++ statements_in (length l.text - l.from) l.number (drop l.from l.text) ≡ statements_of l.text;
}

abbrev pub decreases-loop-line : goal.decreases-loop-line
decreases-loop-line l = length l.text - l.from
