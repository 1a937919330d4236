-- The way from a class up.
use Rattle.std.specs.Prelude.{◌≡◌, ◌≤◌, ◌<◌, ℕ, List, [], ◌∷◌, length, Option, None, Some}
use Rattle.cbq_model.specs.declared.CbqClass.{CbqClass}
use Rattle.cbq_model.specs.Tree.{class_of, lender_of}

-- each class of the list is the parent of the one before it, and the last has none
abbrev pub IsWay : List CbqClass → Option ℕ → List ℕ → Type 0
IsWay cs None [] = Unit {0}
IsWay cs None (d ∷ up) = ⊥
IsWay cs (Some c) [] = ⊥
IsWay cs (Some c) (d ∷ up) = (d ≡ c) × IsWay cs (class_of cs c).parent up

-- each may lend to the one before it, and nobody may lend to the last
abbrev pub IsWayOfLoans : List CbqClass → Option ℕ → List ℕ → Type 0
IsWayOfLoans cs None [] = Unit {0}
IsWayOfLoans cs None (d ∷ up) = ⊥
IsWayOfLoans cs (Some c) [] = ⊥
IsWayOfLoans cs (Some c) (d ∷ up) = (d ≡ c) × IsWayOfLoans cs (lender_of (class_of cs c)) up

-- each parent stands earlier in the file, and no class's way to the root has more than 8 classes, itself and the root among them
pub record IsEightDeep (cs : List CbqClass) : Type 0 where
  pub earlier : (c p : ℕ) → (class_of cs c).parent ≡ Some p → p < c
  pub levels : (c : ℕ) (way : List ℕ) → IsWay cs (Some c) way → length way ≤ 8
