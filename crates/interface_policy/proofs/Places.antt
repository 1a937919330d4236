-- What stands at each place of a list that was made of another one.
use Rattle.std.proofs.Common.{◌≡◌, ◌≤◌, ℕ, zero, suc, List, [], ◌∷◌, Some, length, map, get_or, refl, arith}
use Rattle.std.specs.Prelude.{All, slice_get}
use Rattle.std.proofs.lemmas.List.Elements.{All-nil, All-cons, All-map}

-- at a number there is what was made of the element there, and else what stands for none
pub by_place : {X Y : Type 0} (f : X → Y) (d : Y) (P : Y → Type 0) (xs : List X) (c : ℕ) → (length xs ≤ c → P d)
    → ((x : X) → slice_get xs c ≡ Some x → P (f x)) → P (get_or (map f xs) c d)
by_place f d P [] c none some = none (omega arith)
by_place f d P (x ∷ xs) zero none some = some x refl
by_place f d P (x ∷ xs) (suc c) none some = by_place f d P xs c (λ l. none (omega (arith, l))) some

pub all_at : {X : Type 0} (P : X → Type 0) (xs : List X) → ((k : ℕ) (x : X) → slice_get xs k ≡ Some x → P x) → All P xs
all_at P [] each = All-nil P
all_at P (x ∷ xs) each = All-cons P x xs (each 0 x refl) (all_at P xs (λ k. each (suc k)))

pub all_of : {X Y : Type 0} (f : X → Y) (P : Y → Type 0) (xs : List X) → ((k : ℕ) (x : X) → slice_get xs k ≡ Some x → P (f x)) → All P (map f xs)
all_of f P xs each = All-map P f xs (all_at (λ x. P (f x)) xs each)
