-- The place of a name among names, and among what has them.
use Rattle.std.proofs.Common.{◌≡◌, ℕ, ◌+◌, ◌≤◌, Bool, false, cond, not, List, [], ◌∷◌, map, length, None, position, bytes_eq, refl, ap, arith}
use Rattle.std.proofs.lemmas.Bool.Decides.{nat_tests}
use Rattle.std.proofs.lemmas.List.{length-map}
use Rattle.std.specs.List.{list_any, position_or_len}

position_or_len_map : {X Y : Type 0} (f : X → Y) (p : Y → Bool) (xs : List X) → position_or_len p (map f xs) ≡ position_or_len (λ x. p (f x)) xs
position_or_len_map f p [] = refl
position_or_len_map f p (x ∷ xs) = ap (λ n. cond (not (p (f x))) (1 + n) 0) (position_or_len_map f p xs)

pub position_map : {X Y : Type 0} (f : X → Y) (p : Y → Bool) (xs : List X) → position p (map f xs) ≡ position (λ x. p (f x)) xs
position_map f p xs = rw (position_or_len_map f p xs, length-map) refl

none_of : {X : Type 0} (p : X → Bool) (xs : List X) → length xs ≤ position_or_len p xs → list_any p xs ≡ false
none_of p [] h = refl
none_of p (x ∷ xs) h = let rest = none_of p xs in grind (arith, nat_tests)

-- what has no place is not there
pub list_any_absent : {X : Type 0} (p : X → Bool) (xs : List X) → position p xs ≡ None → list_any p xs ≡ false
list_any_absent p xs h = none_of p xs (grind (arith, nat_tests))

pub number_names : {X : Type 0} (f : X → List ℕ) (name : List ℕ) (names : List (List ℕ)) (xs : List X) → names ≡ map f xs
    → position (bytes_eq name) names ≡ position (λ x. bytes_eq name (f x)) xs
number_names f name names xs h = rw h (position_map f (bytes_eq name) xs)
