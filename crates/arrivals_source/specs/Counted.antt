-- What is told through files of which the bytes are counted that are taken of one.
use Rattle.std.specs.Prelude.{◌≡◌, ◌≢◌, ◌≤◌, ◌+◌, ℕ, Bool, true, eqb, List, ◌∷◌, length, Option, Some, IsSome, IsTrue}
use Rattle.std.specs.List.{list_any}
use Rattle.play_base.specs.View.{View}

abbrev pub is_output : (file : ℕ) → List ℕ → Bool
is_output f outputs = list_any (λ g. eqb g f) outputs

-- the outputs are there, under other names than the file
abbrev pub AreApart : View → (file : ℕ) → (outputs : List ℕ) → Type 0
AreApart v file outputs = (f : ℕ) → is_output f outputs ≡ true → IsSome (v.part f) × (IsTrue v.tells → v.name f ≢ v.name file)

-- the bytes that were taken and those that are left, where the files tell
abbrev pub count_of : (tells : Bool) → (taken : ℕ) → Option (List ℕ) → ℕ
count_of true taken (Some rest) = taken + length rest
count_of tells taken left = 0

-- all as the files tell, with that count fixed
abbrev pub counted_view : View → (reference file taken : ℕ) → View
counted_view v reference file taken = record v { fixed = reference ∷ file ∷ count_of v.tells taken (v.left file) ∷ v.fixed }

-- what the file has left is no longer than it was
abbrev pub IsNoLonger : View → View → (file : ℕ) → Type 0
IsNoLonger v w file = IsTrue v.tells → (all : List ℕ) → v.left file ≡ Some all → (rest : List ℕ) × (w.left file ≡ Some rest) × (length rest ≤ length all)
