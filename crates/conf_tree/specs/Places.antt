-- The places of faults: at a word of a line or of a statement.
use Rattle.std.specs.Prelude.{ℕ, Option, Some, None}
use Rattle.conf_lines.specs.declared.fault.ConfKind.{ConfKind}
use Rattle.conf_lines.specs.declared.fault.ConfKind.TheVariants.{MissingWord}
use Rattle.conf_lines.specs.declared.fault.ConfPlace.{ConfPlace}
use Rattle.conf_lines.specs.declared.statement.Statement.{Statement}

-- the fault of a kind at a word of a line
abbrev pub fault_at : ℕ → ℕ → ConfKind → ConfPlace
fault_at line word kind = record { line = line; word = word; kind = kind }

-- the fault of a kind at a word of a statement
abbrev pub at_word : Statement → ℕ → ConfKind → ConfPlace
at_word statement word kind = fault_at statement.line word kind

-- the fault of a statement that lacks a word that it needs: its own first fault, or a word is missing at its end
abbrev pub own_or_end : Statement → Option ConfPlace → ConfPlace
own_or_end statement (Some fault) = fault
own_or_end statement None = at_word statement statement.end MissingWord

abbrev pub own_fault : Statement → ConfPlace
own_fault statement = own_or_end statement statement.fault
