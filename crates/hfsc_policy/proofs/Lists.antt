-- Classes that pass a test.
use Rattle.std.proofs.Common.{◌≡◌, ◌≤◌, ◌<◌, ◌+◌, ◌⊎◌, inl, inr, ℕ, zero, suc, Bool, true, false, cond, List, [], ◌∷◌, refl, ap, sym, arith, ◌∙◌}
use Rattle.std.specs.Prelude.{◌==◌, ◌||◌}
use Rattle.std.specs.List.{filter, list_any, range_with_len}
use Rattle.std.proofs.lemmas.Bool.{cases_lt}
use Rattle.std.proofs.lemmas.Bool.Decides.{nat_tests}
use Rattle.altq_model.specs.Laws.{occurs}
use Rattle.altq_model.specs.Play.{IsOneOf}

pub kept_is : (f : ℕ → Bool) (xs : List ℕ) (c : ℕ) → IsOneOf c (filter f xs) → (f c ≡ true) × IsOneOf c xs
kept_is f [] c i = absurd i
kept_is f (x ∷ xs) c i = go (f x) refl i (kept_is f xs c)
  where
    go : (b : Bool) → f x ≡ b → IsOneOf c (cond b (x ∷ filter f xs) (filter f xs)) → (IsOneOf c (filter f xs) → (f c ≡ true) × IsOneOf c xs)
        → (f c ≡ true) × IsOneOf c (x ∷ xs)
    go true e (inl s) rest = (ap f (sym s) ∙ e, inl s)
    go true e (inr j) rest = let y = rest j in (y.0, inr y.1)
    go false e j rest = let y = rest j in (y.0, inr y.1)

pub is_kept : (f : ℕ → Bool) (xs : List ℕ) (c : ℕ) → f c ≡ true → IsOneOf c xs → IsOneOf c (filter f xs)
is_kept f [] c e i = absurd i
is_kept f (x ∷ xs) c e i = go (f x) refl i (is_kept f xs c e)
  where
    go : (b : Bool) → f x ≡ b → IsOneOf c (x ∷ xs) → (IsOneOf c xs → IsOneOf c (filter f xs)) → IsOneOf c (cond b (x ∷ filter f xs) (filter f xs))
    go true g (inl s) rest = inl s
    go true g (inr j) rest = inr (rest j)
    go false g (inl s) rest = let both : f x ≡ f c = ap f s in absurd cc
    go false g (inr j) rest = rest j

pub in_range : (a n c : ℕ) → a ≤ c → c < a + n → IsOneOf c (range_with_len a n)
in_range a zero c h k = absurd (omega arith)
in_range a (suc n) c h k = go (cases_lt a c) (in_range (a + 1) n c)
  where
    go : (a < c) ⊎ (c ≤ a) → (a + 1 ≤ c → c < a + 1 + n → IsOneOf c (range_with_len (a + 1) n)) → (a ≡ c) ⊎ IsOneOf c (range_with_len (a + 1) n)
    go (inl l) rest = inr (rest (omega arith) (omega arith))
    go (inr l) rest = inl (omega arith)

pub range_in : (a n c : ℕ) → IsOneOf c (range_with_len a n) → (a ≤ c) × (c < a + n)
range_in a zero c i = absurd i
range_in a (suc n) c (inl s) = (omega (arith, s), omega (arith, s))
range_in a (suc n) c (inr i) = let y = range_in (a + 1) n c i in (omega (arith, y.0), omega (arith, y.1))

pub one_any : (xs : List ℕ) (c : ℕ) → IsOneOf c xs → list_any (λ x. x == c) xs ≡ true
one_any [] c i = absurd i
one_any (x ∷ xs) c i = go (x == c) refl i (one_any xs c)
  where
    go : (b : Bool) → (x == c) ≡ b → IsOneOf c (x ∷ xs) → (IsOneOf c xs → list_any (λ y. y == c) xs ≡ true) → (b || list_any (λ y. y == c) xs) ≡ true
    go true e j rest = refl
    go false e (inl s) rest = absurd (grind (arith, nat_tests, e, s))
    go false e (inr j) rest = rest j

-- no class is twice among those of a range that pass a test
none_before : (f : ℕ → Bool) (a n c : ℕ) → c < a → occurs c (filter f (range_with_len a n)) ≡ 0
none_before f a zero c h = refl
none_before f a (suc n) c h = go (f a) (a == c) refl (none_before f (a + 1) n c (omega arith))
  where
    go : (b e : Bool) → (a == c) ≡ e → occurs c (filter f (range_with_len (a + 1) n)) ≡ 0
        → occurs c (cond b (a ∷ filter f (range_with_len (a + 1) n)) (filter f (range_with_len (a + 1) n))) ≡ 0
    go true true e rest = absurd (grind (arith, nat_tests, e, h))
    go true false e rest = rw e (omega (arith, rest))
    go false k e rest = rest

pub once : (f : ℕ → Bool) (a n c : ℕ) → occurs c (filter f (range_with_len a n)) ≤ 1
once f a zero c = omega arith
once f a (suc n) c = go (f a) (a == c) refl (once f (a + 1) n c)
  where
    go : (b e : Bool) → (a == c) ≡ e → occurs c (filter f (range_with_len (a + 1) n)) ≤ 1
        → occurs c (cond b (a ∷ filter f (range_with_len (a + 1) n)) (filter f (range_with_len (a + 1) n))) ≤ 1
    go true true e rest =
        let none = none_before f (a + 1) n c (grind (arith, nat_tests, e)) in
        rw e (omega (arith, none))
    go true false e rest = rw e (omega (arith, rest))
    go false k e rest = rest
