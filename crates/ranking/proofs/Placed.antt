-- At the place that a search finds a class is put in, and taken out.
use Rattle.std.proofs.Common.{◌≡◌, ◌<◌, ◌≤◌, ℕ, zero, suc, Bool, true, false, List, [], ◌∷◌, length, refl, sym, ap, arith, get_or, ◌∙◌}
use Rattle.std.specs.Prelude.{◌==◌, if◌then◌else◌, Option}
use Rattle.std.specs.List.{insert, remove}
use Rattle.std.proofs.lemmas.Bool.Decides.{nat_tests}
use Rattle.ranking.specs.Order.{key_of, is_before, is_in, with_class, without}
use Rattle.ranking.specs.Search.{IsFound, IsBeforeAll, IsRanked}
use Rattle.ranking.proofs.Ordered.{goes_not}

pub put_at : (keys : List (Option ℕ)) (xs : List ℕ) (c k : ℕ) → k ≤ length xs
    → ((j : ℕ) → j < k → is_before keys (get_or xs j 0) c ≡ true)
    → ((j : ℕ) → k ≤ j → j < length xs → is_before keys (get_or xs j 0) c ≡ false)
    → insert xs k c ≡ with_class keys xs c
put_at keys [] c zero h f g = refl
put_at keys [] c (suc k) h f g = absurd (omega arith)
put_at keys (x ∷ xs) c zero h f g = go (is_before keys x c) refl
  where
    go : (b : Bool) → is_before keys x c ≡ b → c ∷ x ∷ xs ≡ (if b then x ∷ with_class keys xs c else c ∷ x ∷ xs)
    go true e = absurd (let no : is_before keys x c ≡ false = g 0 (omega arith) (omega arith) in cc)
    go false e = refl
put_at keys (x ∷ xs) c (suc k) h f g =
    go (is_before keys x c) refl (put_at keys xs c k (omega arith) (λ j a. f (suc j) (omega arith)) (λ j a b. g (suc j) (omega arith) (omega arith)))
  where
    go : (b : Bool) → is_before keys x c ≡ b → insert xs k c ≡ with_class keys xs c
        → x ∷ insert xs k c ≡ (if b then x ∷ with_class keys xs c else c ∷ x ∷ xs)
    go true e r = ap (λ (l : List ℕ). x ∷ l) r
    go false e r = absurd (let yes : is_before keys x c ≡ true = f 0 (omega arith) in cc)

pub before_in : (keys : List (Option ℕ)) (x c : ℕ) (xs : List ℕ) → IsBeforeAll keys x xs → is_in c xs ≡ true → is_before keys x c ≡ true
before_in keys x c [] r i = absurd cc
before_in keys x c (y ∷ ys) r i = go (y == c) refl i (before_in keys x c ys r.1)
  where
    go : (b : Bool) → (y == c) ≡ b → (if b then true else is_in c ys) ≡ true → (is_in c ys ≡ true → is_before keys x c ≡ true) → is_before keys x c ≡ true
    go true e i rest = let same : y ≡ c = grind (arith, nat_tests, e) in ap (λ n. is_before keys x n) (sym same) ∙ r.0
    go false e i rest = rest i

pub record IsTakenAt (xs : List ℕ) (c k : ℕ) : Type 0 where
  pub there : k < length xs
  pub rest : remove xs k ≡ without xs c

pub taken_at : (keys : List (Option ℕ)) (xs : List ℕ) (c k : ℕ) → IsRanked keys xs → is_in c xs ≡ true
    → ((j : ℕ) → j < k → is_before keys (get_or xs j 0) c ≡ true)
    → ((j : ℕ) → k ≤ j → j < length xs → is_before keys (get_or xs j 0) c ≡ false)
    → IsTakenAt xs c k
taken_at keys [] c k r i f g = absurd cc
taken_at keys (x ∷ xs) c zero r i f g = go (x == c) refl i
  where
    go : (b : Bool) → (x == c) ≡ b → (if b then true else is_in c xs) ≡ true → IsTakenAt (x ∷ xs) c zero
    go true e i = record { there = omega arith; rest = rw e refl }
    go false e i =
        let yes : is_before keys x c ≡ true = before_in keys x c xs r.0 i in
        let no : is_before keys x c ≡ false = g 0 (omega arith) (omega arith) in
        absurd cc
taken_at keys (x ∷ xs) c (suc k) r i f g =
    go (x == c) refl i (taken_at keys xs c k r.1)
  where
    go : (b : Bool) → (x == c) ≡ b → (if b then true else is_in c xs) ≡ true
        → (is_in c xs ≡ true → ((j : ℕ) → j < k → is_before keys (get_or xs j 0) c ≡ true)
        → ((j : ℕ) → k ≤ j → j < length xs → is_before keys (get_or xs j 0) c ≡ false) → IsTakenAt xs c k)
        → IsTakenAt (x ∷ xs) c (suc k)
    go true e i rest =
        let same : x ≡ c = grind (arith, nat_tests, e) in
        let yes : is_before keys x c ≡ true = f 0 (omega arith) in
        let no : is_before keys c c ≡ false = goes_not (key_of keys c) c in
        let both : is_before keys x c ≡ is_before keys c c = ap (λ n. is_before keys n c) same in
        absurd cc
    go false e i rest =
        let t = rest i (λ j a. f (suc j) (omega arith)) (λ j a b. g (suc j) (omega arith) (omega arith)) in
        record { there = let h : k < length xs = t.there in omega arith; rest = rw e (ap (λ (l : List ℕ). x ∷ l) t.rest) }

-- the same of what a search found
pub put_found : (keys : List (Option ℕ)) (xs : List ℕ) (c k : ℕ) → IsFound keys xs c k k → insert xs k c ≡ with_class keys xs c
put_found keys xs c k found = put_at keys xs c k found.within found.before found.from

pub taken_found : (keys : List (Option ℕ)) (xs : List ℕ) (c k : ℕ) → IsRanked keys xs → is_in c xs ≡ true → IsFound keys xs c k k → IsTakenAt xs c k
taken_found keys xs c k r i found = taken_at keys xs c k r i found.before found.from
