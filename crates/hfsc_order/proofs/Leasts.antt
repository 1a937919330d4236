-- The first of the least of some numbers.
use Rattle.std.proofs.Common.{◌≡◌, ◌≤◌, ◌<◌, ◌+◌, inl, inr, ℕ, zero, suc, Bool, true, false, cond, List, [], ◌∷◌, None, Some, refl, ap, subst, arith}
use Rattle.std.specs.Prelude.{Option, nat_le, MatchOption, if◌then◌else◌}
use Rattle.std.specs.List.{filter, range_with_len}
use Rattle.std.proofs.lemmas.Bool.Decides.{nat_tests}
use Rattle.altq_model.specs.Play.{IsOneOf}
use Rattle.hfsc_model.specs.Limit.{least_by}
use Rattle.hfsc_policy.proofs.Lists.{kept_is, range_in}

-- each is less than all that follow it
abbrev pub AreRising : List ℕ → Type 0
AreRising [] = Unit {0}
AreRising (x ∷ xs) = ((e : ℕ) → IsOneOf e xs → x < e) × AreRising xs

range_rising : (a n : ℕ) → AreRising (range_with_len a n)
range_rising a zero = tt
range_rising a (suc n) = ((λ e i. let y = range_in (a + 1) n e i in omega (arith, y.0)), range_rising (a + 1) n)

pub filter_rising : (f : ℕ → Bool) (xs : List ℕ) → AreRising xs → AreRising (filter f xs)
filter_rising f [] r = tt
filter_rising f (x ∷ xs) r = go (f x) (filter_rising f xs r.1)
  where
    go : (b : Bool) → AreRising (filter f xs) → AreRising (cond b (x ∷ filter f xs) (filter f xs))
    go true s = ((λ e i. r.0 e (kept_is f xs e i).1), s)
    go false s = s

pub numbers_rising : (n : ℕ) → AreRising (range_with_len 0 n)
numbers_rising n = range_rising 0 n

pub record IsFirstLeast (f : ℕ → ℕ) (xs : List ℕ) (d : ℕ) : Type 0 where
  pub there : IsOneOf d xs
  pub least : (e : ℕ) → IsOneOf e xs → f d ≤ f e
  pub first : (e : ℕ) → IsOneOf e xs → f e ≡ f d → d ≤ e

abbrev pub IsLeastIn : (f : ℕ → ℕ) → List ℕ → Option ℕ → Type 0
IsLeastIn f xs o = MatchOption o (xs ≡ []) (λ d. IsFirstLeast f xs d)

pub least_in : (f : ℕ → ℕ) (xs : List ℕ) → AreRising xs → IsLeastIn f xs (least_by f xs)
least_in f [] r = refl
least_in f (x ∷ xs) r = go (least_by f xs) (least_in f xs r.1)
  where
    alone_least : xs ≡ [] → (e : ℕ) → IsOneOf e (x ∷ xs) → f x ≤ f e
    alone_least none e (inl s) = let same : f x ≡ f e = ap f s in omega (arith, same)
    alone_least none e (inr i) = absurd (subst (λ (ys : List ℕ). IsOneOf e ys) none i)

    front : (e : ℕ) → IsOneOf e (x ∷ xs) → x ≤ e
    front e (inl s) = omega (arith, s)
    front e (inr i) = let lt = r.0 e i in omega (arith, lt)

    new_least : (d : ℕ) → f x ≤ f d → IsFirstLeast f xs d → (e : ℕ) → IsOneOf e (x ∷ xs) → f x ≤ f e
    new_least d le k e (inl s) = let same : f x ≡ f e = ap f s in omega (arith, same)
    new_least d le k e (inr i) = let more = k.least e i in omega (arith, le, more)

    old_least : (d : ℕ) → f d < f x → IsFirstLeast f xs d → (e : ℕ) → IsOneOf e (x ∷ xs) → f d ≤ f e
    old_least d lt k e (inl s) = let same : f x ≡ f e = ap f s in omega (arith, same, lt)
    old_least d lt k e (inr i) = k.least e i

    old_first : (d : ℕ) → f d < f x → IsFirstLeast f xs d → (e : ℕ) → IsOneOf e (x ∷ xs) → f e ≡ f d → d ≤ e
    old_first d lt k e (inl s) g = let same : f x ≡ f e = ap f s in absurd (omega (arith, same, lt, g))
    old_first d lt k e (inr i) g = k.first e i g

    go : (o : Option ℕ) → IsLeastIn f xs o → IsLeastIn f (x ∷ xs) (elim o [ None ↦ Some x | Some d ↦ if nat_le (f x) (f d) then Some x else Some d ])
    go None none = record { there = inl refl; least = alone_least none; first = λ e i g. front e i }
    go (Some d) k = test (nat_le (f x) (f d)) refl
      where
        test : (b : Bool) → nat_le (f x) (f d) ≡ b → IsLeastIn f (x ∷ xs) (if b then Some x else Some d)
        test true e = record { there = inl refl; least = new_least d (grind (arith, nat_tests, e)) k; first = λ z i g. front z i }
        test false e = record { there = inr k.there; least = old_least d (grind (arith, nat_tests, e)) k; first = old_first d (grind (arith, nat_tests, e)) k }
