-- What stands at a place, and the least over lenders.
use Rattle.std.proofs.Common.{◌≡◌, ◌≤◌, ◌<◌, ◌+◌, ◌-◌, ◌*◌, ◌/◌, ◌^◌, ◌∙◌, inl, inr, ℕ, zero, suc, List, [], ◌∷◌, None, Some, length, get_or, map, min, refl, ap, sym, arith}
use Rattle.std.proofs.Math.Nat.{div-le_of_le-mul}
use Rattle.std.proofs.lemmas.Bool.{cases_lt}
use Rattle.std.proofs.lemmas.List.{get_or-map}
use Rattle.cbq_model.specs.declared.CbqClass.{CbqClass}
use Rattle.cbq_model.specs.Tree.{class_of, lender_of, lenders_up, no_class, quantum_of}
use Rattle.cbq_sharing.specs.declared.fixed.Fixed.{Fixed}
use Rattle.cbq_sharing.specs.Shared.{IsTree, fixed_of, least_with}

pub at_any : {X : Type 0} (xs : List X) (i : ℕ) (d e : X) → i < length xs → get_or xs i d ≡ get_or xs i e
at_any [] i d e l = absurd (omega arith)
at_any (x ∷ xs) zero d e l = refl
at_any (x ∷ xs) (suc i) d e l = at_any xs i d e (omega arith)

pub past_end : {X : Type 0} (xs : List X) (i : ℕ) (d : X) → length xs ≤ i → get_or xs i d ≡ d
past_end [] i d l = refl
past_end (x ∷ xs) zero d l = absurd (omega arith)
past_end (x ∷ xs) (suc i) d l = past_end xs i d (omega arith)

-- a class that has a parent is one of the tree's
pub has_parent : (cs : List CbqClass) (c p : ℕ) → (class_of cs c).parent ≡ Some p → c < length cs
has_parent cs c p e = elim (cases_lt c (length cs)) [
  | inl l ↦ l
  | inr l ↦
      let none : (class_of cs c).parent ≡ None = ap (λ (k : CbqClass). k.parent) (past_end cs c no_class l) in
      absurd (cc)
]

-- a parent is one of the tree's
pub parent_below : (cs : List CbqClass) (c p : ℕ) (k : CbqClass) → IsTree cs → c < length cs → k ≡ get_or cs c k → k.parent ≡ Some p → p < length cs
parent_below cs c p k t l e f =
    let same : k ≡ class_of cs c = e ∙ at_any cs c k no_class l in
    let parent : (class_of cs c).parent ≡ Some p = ap (λ (x : CbqClass). x.parent) (sym same) ∙ f in
    omega (arith, t.earlier c p parent)

-- what never changes of a class, as it is kept
pub fixed_is : (rate : ℕ) (cs : List CbqClass) (fs : List Fixed) (c : ℕ) (v : Fixed) → fs ≡ map (fixed_of rate cs) cs → c < length cs → v ≡ get_or fs c v
    → v ≡ fixed_of rate cs (class_of cs c)
fixed_is rate cs fs c v all l e = e ∙ ap (λ (xs : List Fixed). get_or xs c v) all ∙ get_or-map (fixed_of rate cs) cs c no_class v l

pub some_quantum : (rate : ℕ) (k : CbqClass) → 1 ≤ quantum_of rate k
some_quantum rate k = omega arith

pub most_quantum : (rate : ℕ) (k : CbqClass) → 1000 ≤ rate → k.rate ≤ 10 ^ 12 → quantum_of rate k ≤ 2 ^ 41
most_quantum rate k least most =
    let room : 1500 * k.rate + (rate - 1) ≤ rate * 2 ^ 41 = omega arith in
    let part : (1500 * k.rate + (rate - 1)) / rate ≤ 2 ^ 41 = div-le_of_le-mul rate room in
    omega (arith, part)

-- one lender more
pub one_lender : (f : ℕ → ℕ) (t levels class : ℕ) (cs : List CbqClass) → 0 < levels
    → least_with f t (lenders_up levels cs (Some class)) ≡ least_with f (min t (f class)) (lenders_up (levels - 1) cs (lender_of (class_of cs class)))
one_lender f t zero class cs l = absurd (omega arith)
one_lender f t (suc n) class cs l =
    let same : n ≡ suc n - 1 = omega arith in
    ap (λ (m : ℕ). least_with f (min t (f class)) (lenders_up m cs (lender_of (class_of cs class)))) same
