-- Why a text is no rows.
use Rattle.std.specs.Prelude.{ℕ}
use Rattle.fate_check.specs.declared.reading.RowFault.{RowFault}
use Rattle.fate_check.specs.declared.reading.RowFault.TheVariants.{At, NoMemory}

-- a fact of the row of a fault
abbrev pub IfAt : (ℕ → Type 0) → RowFault → Type 0
IfAt P (At row) = P row
IfAt P NoMemory = Unit {0}
