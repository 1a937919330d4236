-- What holds of an answer `Exceeds`.
use Rattle.std.specs.Prelude.{ℕ}
use Rattle.admission.specs.declared.Fit.{Fit}
use Rattle.admission.specs.declared.Fit.TheVariants.{Fits, Exceeds}

abbrev pub IfExceeds : Fit → (ℕ → ℕ → Type 0) → Type 0
IfExceeds Fits P = Unit {0}
IfExceeds (Exceeds at by) P = P at by
