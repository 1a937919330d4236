-- What CBQ keeps of its classes at first.
use Rattle.std.proofs.Common.{◌≡◌, ◌≤◌, ◌<◌, ◌^◌, inl, inr, ℕ, zero, suc, Bool, true, false, None, Some, List, [], ◌∷◌, All, length, get_or, map, replicate, refl, ap, sym, subst, arith}
use Rattle.std.specs.Prelude.{if◌then◌else◌, unwrap_or}
use Rattle.std.proofs.lemmas.Bool.{cases_lt}
use Rattle.cbq_estimator.specs.Estimate.{Estimate}
use Rattle.cbq_model.specs.declared.CbqClass.{CbqClass}
use Rattle.cbq_model.specs.Tree.{class_of, lender_of, no_class}
use Rattle.cbq_sharing.specs.Fresh.{HasEarlierParents, IsClass, fresh_estimate}
use Rattle.cbq_sharing.specs.Shared.{IsShared, fixed_of, no_estimate}
use Rattle.cbq_sharing.specs.declared.fixed.Fixed.{Fixed}
use Rattle.cbq_sharing.proofs.Places.{has_parent, past_end}

priority_bound : (cs : List CbqClass) (c : ℕ) → All IsClass cs → (get_or cs c no_class).priority ≤ 7
priority_bound cs c a = elim (cases_lt c (length cs)) [
  | inl l ↦ (a c no_class l).priority
  | inr l ↦
      let none : (get_or cs c no_class).priority ≡ 0 = ap (λ (k : CbqClass). k.priority) (past_end cs c no_class l) in
      omega (arith, none)
]

rate_bound : (cs : List CbqClass) (c : ℕ) → All IsClass cs → (get_or cs c no_class).rate ≤ 10 ^ 12
rate_bound cs c a = elim (cases_lt c (length cs)) [
  | inl l ↦ (a c no_class l).most_rate
  | inr l ↦
      let none : (get_or cs c no_class).rate ≡ 0 = ap (λ (k : CbqClass). k.rate) (past_end cs c no_class l) in
      omega (arith, none)
]

lender_parent : (k : CbqClass) (p : ℕ) (borrow : Bool) → (if borrow then k.parent else None) ≡ Some p → k.parent ≡ Some p
lender_parent k p true e = e
lender_parent k p false e = absurd (cc)

-- a class that may lend is one of the tree's
pub lender_below : (cs : List CbqClass) (c p : ℕ) → HasEarlierParents cs → lender_of (class_of cs c) ≡ Some p → p < length cs
lender_below cs c p parents e =
    let parent = lender_parent (class_of cs c) p (class_of cs c).borrow e in
    omega (arith, parents c p parent, has_parent cs c p parent)

none_yet : (n c : ℕ) → ◌≡◌ {A = ℕ} (get_or {A = ℕ} (replicate {A = ℕ} n 0) c 0) 0
none_yet zero c = refl
none_yet (suc n) zero = refl
none_yet (suc n) (suc c) = none_yet n c

never_sent : (cs : List CbqClass) (c : ℕ) → unwrap_or (get_or (map fresh_estimate cs) c no_estimate).last 0 ≡ 0
never_sent [] c = refl
never_sent (k ∷ ks) zero = refl
never_sent (k ∷ ks) (suc c) = never_sent ks c

count_map : (cs : List CbqClass) → length (map fresh_estimate cs) ≡ length cs
count_map [] = refl
count_map (k ∷ ks) = let more = count_map ks in omega (arith, more)

pub count_copies : (n : ℕ) → length {A = ℕ} (replicate {A = ℕ} n 0) ≡ n
count_copies zero = refl
count_copies (suc n) = let more = count_copies n in omega (arith, more)

pub fresh_is_shared : (rate : ℕ) (cs : List CbqClass) → 1000 ≤ rate → rate ≤ 10 ^ 12 → length cs ≤ 256 → HasEarlierParents cs → All IsClass cs
    → IsShared rate cs (map fresh_estimate cs) (map (fixed_of rate cs) cs) (replicate (length cs) 0) (replicate 8 0) 0
fresh_is_shared rate cs least most few parents classes = record {
  least_rate = least;
  most_rate = most;
  few = few;
  tree = record { earlier = parents; priorities = λ c. priority_bound cs c classes; rates = λ c. rate_bound cs c classes };
  estimate_each = count_map cs;
  fixed_each = refl;
  credit_each = count_copies (length cs);
  cursor_each = refl;
  credit_bound = λ c. omega (arith, none_yet (length cs) c);
  ends = λ c. omega (arith, never_sent cs c);
}

-- the same of lists that are these
pub is_shared : (rate : ℕ) (cs ks : List CbqClass) (es : List Estimate) (fixed : List Fixed) (credits cursors : List ℕ) → 1000 ≤ rate → rate ≤ 10 ^ 12
    → length cs ≤ 256 → HasEarlierParents cs
    → All IsClass cs → ks ≡ cs → es ≡ map fresh_estimate cs → fixed ≡ map (fixed_of rate cs) cs → credits ≡ replicate (length cs) 0
    → cursors ≡ replicate 8 0
    → IsShared rate ks es fixed credits cursors 0
is_shared rate cs ks es fixed credits cursors least most few parents classes k e q c u =
    let P1 : List CbqClass → Type 0 = λ x. IsShared rate x es fixed credits cursors 0 in
    let P2 : List Estimate → Type 0 = λ x. IsShared rate cs x fixed credits cursors 0 in
    let P3 : List Fixed → Type 0 = λ x. IsShared rate cs (map fresh_estimate cs) x credits cursors 0 in
    let P4 : List ℕ → Type 0 = λ x. IsShared rate cs (map fresh_estimate cs) (map (fixed_of rate cs) cs) x cursors 0 in
    let P5 : List ℕ → Type 0 = λ x. IsShared rate cs (map fresh_estimate cs) (map (fixed_of rate cs) cs) (replicate (length cs) 0) x 0 in
    subst P1 (sym k) (subst P2 (sym e) (subst P3 (sym q) (subst P4 (sym c) (subst P5 (sym u) (fresh_is_shared rate cs least most few parents classes)))))
