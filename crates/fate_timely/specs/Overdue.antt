-- The first packet that ends too late.
use Rattle.std.specs.Prelude.{ℕ}
use Rattle.fate_timely.specs.declared.given.Overdue.{Overdue}
use Rattle.fate_timely.specs.declared.given.Overdue.TheVariants.{At, NoMemory}

-- a fact of the row
abbrev pub IfAt : (ℕ → Type 0) → Overdue → Type 0
IfAt P (At row) = P row
IfAt P NoMemory = Unit {0}
