-- Arrivals that a capture may hold.
use Rattle.std.specs.Prelude.{◌≡◌, ◌≤◌, ℕ, List, [], ◌∷◌, length}
use Rattle.altq_model.specs.declared.Placed.{Placed}
use Rattle.altq_model.specs.Arrivals.{Captured}

-- an arrival has the class of its bytes, is within the lengths of a capture, and no shorter than its bytes
pub record IsFit (place : List ℕ → Placed) (a : Captured) : Type 0 where
  pub class : a.class ≡ (place a.bytes).class
  pub some : 1 ≤ a.len
  pub short : a.len ≤ 262144
  pub fits : length a.bytes ≤ a.len

abbrev pub AreFit : (List ℕ → Placed) → List Captured → Type 0
AreFit place [] = Unit {0}
AreFit place (a ∷ rest) = IsFit place a × AreFit place rest
