-- Lists in order of which one has only classes that stand in the other.
use Rattle.std.proofs.Common.{◌≡◌, ◌≤◌, ◌⊎◌, inl, inr, ℕ, Bool, true, false, List, [], ◌∷◌, length, refl, ap, arith, ◌∙◌}
use Rattle.std.specs.Prelude.{◌==◌, if◌then◌else◌, Option}
use Rattle.std.proofs.lemmas.Bool.Decides.{nat_tests}
use Rattle.ranking.specs.Order.{is_in, without}
use Rattle.ranking.specs.Search.{IsRanked}
use Rattle.ranking.proofs.Ranks.{in_more, not_behind, same_test, without_in, without_length, without_ranked}
use Rattle.ranking.proofs.Orders.{behind}

abbrev pub IsSubset : List ℕ → List ℕ → Type 0
IsSubset xs ys = (d : ℕ) → is_in d xs ≡ true → is_in d ys ≡ true

-- without a class that the other list lacks
stays : (key : List (Option ℕ)) (xs ys : List ℕ) (c : ℕ) → IsRanked key ys → is_in c xs ≡ false → IsSubset xs ys → IsSubset xs (without ys c)
stays key xs ys c r absent f d i = without_in key ys c d r ∙ go (c == d) refl
  where
    go : (b : Bool) → (c == d) ≡ b → (if b then false else is_in d ys) ≡ true
    go true e =
        let same : c ≡ d = grind (arith, nat_tests, e) in
        let yes : is_in c xs ≡ true = ap (λ n. is_in n xs) same ∙ i in
        absurd cc
    go false e = f d i

short : (kx ky : List (Option ℕ)) (xs ys : List ℕ) → IsRanked kx xs → IsRanked ky ys → IsSubset xs ys → length xs ≤ length ys
short kx ky [] ys r q f = omega arith
short kx ky (x ∷ xs) ys r q f =
    let one = without_length ys x (f x (rw (same_test x) refl)) in
    let rest = short kx ky xs (without ys x) r.1 (without_ranked ky ys x q)
    (stays ky xs ys x q (not_behind kx x xs (is_in x xs) refl r.0) (λ d i. f d (in_more x d xs i))) in
    omega arith

-- a class that one list has and the other lacks
pub record IsMore (xs ys : List ℕ) : Type 0 where
  pub class : ℕ
  pub there : is_in class ys ≡ true
  pub absent : is_in class xs ≡ false

compared : (xs ys : List ℕ) → IsMore xs ys ⊎ IsSubset ys xs
compared xs [] = inr (λ d i. absurd cc)
compared xs (y ∷ ys) = go (is_in y xs) refl (compared xs ys)
  where
    both : (d : ℕ) → is_in y xs ≡ true → IsSubset ys xs → is_in d (y ∷ ys) ≡ true → (b : Bool) → (y == d) ≡ b → is_in d xs ≡ true
    both d e f i true g = let same : d ≡ y = grind (arith, nat_tests, g) in ap (λ n. is_in n xs) same ∙ e
    both d e f i false g = f d (behind y d ys i (λ s. grind (arith, nat_tests, g, s)))

    go : (b : Bool) → is_in y xs ≡ b → IsMore xs ys ⊎ IsSubset ys xs → IsMore xs (y ∷ ys) ⊎ IsSubset (y ∷ ys) xs
    go false e r = inl (record { class = y; there = rw (same_test y) refl; absent = e })
    go true e (inl o) = inl (record { class = o.class; there = in_more y o.class ys o.there; absent = o.absent })
    go true e (inr f) = inr (λ d i. both d e f i (y == d) refl)

-- as long, the one list has all classes of the other
pub all_within : (kx ky : List (Option ℕ)) (xs ys : List ℕ) → IsRanked kx xs → IsRanked ky ys → IsSubset xs ys → length xs ≡ length ys → IsSubset ys xs
all_within kx ky xs ys r q f e = go (compared xs ys)
  where
    go : IsMore xs ys ⊎ IsSubset ys xs → IsSubset ys xs
    go (inl o) =
        let one = without_length ys o.class o.there in
        let less = short kx ky xs (without ys o.class) r (without_ranked ky ys o.class q) (stays ky xs ys o.class q o.absent f) in
        absurd (omega arith)
    go (inr g) = g

-- shorter, it lacks one
pub one_more : (kx ky : List (Option ℕ)) (xs ys : List ℕ) → IsRanked kx xs → IsRanked ky ys → IsSubset xs ys → (length xs ≡ length ys → ⊥) → IsMore xs ys
one_more kx ky xs ys r q f n = go (compared xs ys)
  where
    go : IsMore xs ys ⊎ IsSubset ys xs → IsMore xs ys
    go (inl o) = o
    go (inr g) =
        let one = short kx ky xs ys r q f in
        let two = short ky kx ys xs q r g in
        absurd (n (omega arith))
