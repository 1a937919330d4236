-- Which faults a run may meet.
use Rattle.std.specs.Prelude.{◌≤◌, ◌<◌, ℕ}
use Rattle.play_base.specs.View.{View, Rose}

-- a read of a file of this part met a fault, its opening too; a write did, a creation too
abbrev pub ReadFailed : View → View → (part : ℕ) → Type 0
ReadFailed old new part = Rose (old.read_faults part) (new.read_faults part)

abbrev pub WriteFailed : View → View → (part : ℕ) → Type 0
WriteFailed old new part = Rose (old.write_faults part) (new.write_faults part)

-- no count of faults of a part below 16 rose, but perhaps that of texts that could not be printed: the write faults of part 0
abbrev pub IsQuiet : View → View → Type 0
IsQuiet old new = (part : ℕ) → part < 16 → (ReadFailed old new part → ⊥) × (1 ≤ part → WriteFailed old new part → ⊥)
