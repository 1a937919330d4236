-- Members of lists: what a filter keeps, which pass a test, and which is the least.
use Rattle.std.proofs.Common.{◌≡◌, ◌≤◌, ◌<◌, ◌∙◌, ◌⊎◌, inl, inr, ℕ, Bool, true, false, List, [], ◌∷◌, refl, ap, sym, arith}
use Rattle.std.specs.Prelude.{nat_le, ◌||◌, cond}
use Rattle.std.specs.List.{filter, list_any}
use Rattle.std.proofs.lemmas.Bool.Decides.{nat_tests}
use Rattle.altq_model.specs.Play.{IsOneOf}
use Rattle.cbq_model.specs.Choice.{least_of}

pub kept_by : (test : ℕ → Bool) (x : ℕ) (xs : List ℕ) (b : Bool) → test x ≡ b → (c : ℕ) → test c ≡ true → (x ≡ c) ⊎ IsOneOf c (filter test xs)
    → IsOneOf c (cond b (x ∷ filter test xs) (filter test xs))
kept_by test x xs true e c t m = m
kept_by test x xs false e c t (inl same) = let f : test c ≡ false = ap test (sym same) ∙ e in absurd (cc)
kept_by test x xs false e c t (inr m) = m

pub kept : (test : ℕ → Bool) (c : ℕ) (xs : List ℕ) → IsOneOf c xs → test c ≡ true → IsOneOf c (filter test xs)
kept test c [] m t = m
kept test c (x ∷ xs) (inl same) t = kept_by test x xs (test x) refl c t (inl same)
kept test c (x ∷ xs) (inr m) t = kept_by test x xs (test x) refl c t (inr (kept test c xs m t))

pub record IsKept (test : ℕ → Bool) (c : ℕ) (xs : List ℕ) : Type 0 where
  pub there : IsOneOf c xs
  pub passes : test c ≡ true

was_kept_by : (test : ℕ → Bool) (x : ℕ) (xs : List ℕ) (b : Bool) (c : ℕ) → test x ≡ b → IsOneOf c (cond b (x ∷ filter test xs) (filter test xs))
    → (IsOneOf c (filter test xs) → IsKept test c xs) → IsKept test c (x ∷ xs)
was_kept_by test x xs true c e (inl same) f = record { there = inl same; passes = ap test (sym same) ∙ e }
was_kept_by test x xs true c e (inr m) f = record { there = inr (f m).there; passes = (f m).passes }
was_kept_by test x xs false c e m f = record { there = inr (f m).there; passes = (f m).passes }

pub was_kept : (test : ℕ → Bool) (c : ℕ) (xs : List ℕ) → IsOneOf c (filter test xs) → IsKept test c xs
was_kept test c [] m = absurd m
was_kept test c (x ∷ xs) m = was_kept_by test x xs (test x) c refl m (λ n. was_kept test c xs n)

-- some member passes a test
pub record HasOne (test : ℕ → Bool) (xs : List ℕ) : Type 0 where
  pub one : ℕ
  pub there : IsOneOf one xs
  pub passes : test one ≡ true

some_by : (test : ℕ → Bool) (x : ℕ) (xs : List ℕ) (b : Bool) → test x ≡ b → (b || list_any test xs) ≡ true
    → (list_any test xs ≡ true → HasOne test xs) → HasOne test (x ∷ xs)
some_by test x xs true e a f = record { one = x; there = inl refl; passes = e }
some_by test x xs false e a f = let y = f a in record { one = y.one; there = inr y.there; passes = y.passes }

pub some_passes : (test : ℕ → Bool) (xs : List ℕ) → list_any test xs ≡ true → HasOne test xs
some_passes test [] a = absurd (cc)
some_passes test (x ∷ xs) a = some_by test x xs (test x) refl a (λ e. some_passes test xs e)

or_right : (a b : Bool) → b ≡ true → (a || b) ≡ true
or_right true b e = refl
or_right false b e = e

or_left : (a b : Bool) → a ≡ true → (a || b) ≡ true
or_left true b e = refl
or_left false b e = absurd (cc)

pub passes_some : (test : ℕ → Bool) (c : ℕ) (xs : List ℕ) → IsOneOf c xs → test c ≡ true → list_any test xs ≡ true
passes_some test c [] m t = absurd m
passes_some test c (x ∷ xs) (inl e) t = or_left (test x) (list_any test xs) (ap test e ∙ t)
passes_some test c (x ∷ xs) (inr m) t = or_right (test x) (list_any test xs) (passes_some test c xs m t)

-- the least of some numbers is one of them, and no more than each
pub record IsLeastOf (f : ℕ → ℕ) (c : ℕ) (ps : List ℕ) : Type 0 where
  pub one : ℕ
  pub there : IsOneOf one (c ∷ ps)
  pub is : least_of f c ps ≡ f one

least_by : (f : ℕ → ℕ) (c p : ℕ) (ps : List ℕ) (b : Bool) → nat_le (f c) (least_of f p ps) ≡ b → IsLeastOf f p ps → IsLeastOf f c (p ∷ ps)
least_by f c p ps true e r =
    let le : f c ≤ least_of f p ps = grind (arith, nat_tests) in
    record { one = c; there = inl refl; is = omega (arith, le) }
least_by f c p ps false e r =
    let lt : least_of f p ps < f c = grind (arith, nat_tests) in
    record { one = r.one; there = inr r.there; is = omega (arith, lt, r.is) }

pub least_is : (f : ℕ → ℕ) (c : ℕ) (ps : List ℕ) → IsLeastOf f c ps
least_is f c [] = record { one = c; there = inl refl; is = refl }
least_is f c (p ∷ ps) = least_by f c p ps (nat_le (f c) (least_of f p ps)) refl (least_is f p ps)

pub least_most : (f : ℕ → ℕ) (c d : ℕ) (ps : List ℕ) → IsOneOf d (c ∷ ps) → least_of f c ps ≤ f d
least_most f c d [] (inl e) = let same : f c ≡ f d = ap f e in omega (arith, same)
least_most f c d [] (inr m) = absurd m
least_most f c d (p ∷ ps) (inl e) = let same : f c ≡ f d = ap f e in omega (arith, same)
least_most f c d (p ∷ ps) (inr m) = omega (arith, least_most f p d ps m)
