-- The computed choice by real time is the pick.
use Rattle.std.proofs.Common.{◌≡◌, ◌≤◌, ◌<◌, ◌+◌, ◌⊎◌, inl, inr, ℕ, zero, suc, Bool, true, false, List, [], ◌∷◌, None, Some, length, refl, ap, sym, arith, ◌∙◌}
use Rattle.std.specs.Prelude.{Option, ◌==◌, cond, MatchOption, if◌then◌else◌}
use Rattle.std.specs.List.{filter, range_with_len}
use Rattle.std.proofs.lemmas.Bool.{cases_lt}
use Rattle.std.proofs.lemmas.Bool.Decides.{nat_tests}
use Rattle.service_curve.specs.declared.Curve.{Curve}
use Rattle.ranking.specs.Order.{is_in}
use Rattle.ranking.proofs.Ordered.{goes_trans, goes_other}
use Rattle.ranking.proofs.Ranks.{same_test, in_more}
use Rattle.ranking.proofs.Orders.{behind}
use Rattle.hfsc_model.specs.Event.{HfscHistory}
use Rattle.hfsc_model.specs.Leaf.{leaf}
use Rattle.hfsc_model.specs.RealTime.{curve_of, is_eligible, head_deadline, goes_first, before, first_by, real_pick, IsEligible, IsRealPick, NoneIsEligible}

-- of a list the one that goes before all others
pub record GoesFirst (goes : ℕ → ℕ → Bool) (xs : List ℕ) (c : ℕ) : Type 0 where
  pub there : is_in c xs ≡ true
  pub first : (d : ℕ) → is_in d xs ≡ true → (d ≡ c → ⊥) → goes c d ≡ true

-- a strict and total order
pub record IsOrder (goes : ℕ → ℕ → Bool) : Type 0 where
  pub trans : (x y z : ℕ) → goes x y ≡ true → goes y z ≡ true → goes x z ≡ true
  pub other : (x y : ℕ) → goes x y ≡ false → (x ≡ y → ⊥) → goes y x ≡ true

abbrev FirstIs : (ℕ → ℕ → Bool) → List ℕ → Option ℕ → Type 0
FirstIs goes xs o = MatchOption o ((c : ℕ) → is_in c xs ≡ true → ⊥) (λ c. GoesFirst goes xs c)

first_is : (goes : ℕ → ℕ → Bool) (xs : List ℕ) → IsOrder goes → FirstIs goes xs (first_by goes xs)
first_is goes [] o = λ c i. cc
first_is goes (x ∷ xs) o = go (first_by goes xs) (first_is goes xs o)
  where
    apart : (c d : ℕ) → (c ≡ d) ⊎ (c ≡ d → ⊥)
    apart c d = test (c == d) refl
      where
        test : (b : Bool) → (c == d) ≡ b → (c ≡ d) ⊎ (c ≡ d → ⊥)
        test true e = inl (grind (arith, nat_tests, e))
        test false e = inr (λ s. grind (arith, nat_tests, e, s))

    head : is_in x (x ∷ xs) ≡ true
    head = rw (same_test x) refl

    ahead : (y d : ℕ) → goes x y ≡ true → GoesFirst goes xs y → (d ≡ x → ⊥) → (y ≡ d) ⊎ (y ≡ d → ⊥) → is_in d xs ≡ true → goes x d ≡ true
    ahead y d e g n (inl s) i = ap (λ m. goes x m) (sym s) ∙ e
    ahead y d e g n (inr s) i = o.trans x y d e (g.first d i (λ w. s (sym w)))

    last : (y d : ℕ) → goes x y ≡ false → GoesFirst goes xs y → (d ≡ y → ⊥) → (x ≡ d) ⊎ (x ≡ d → ⊥) → is_in d (x ∷ xs) ≡ true → goes y d ≡ true
    last y d e g n (inl s) i = ap (λ m. goes y m) (sym s) ∙ o.other x y e (λ w. n (sym s ∙ w))
    last y d e g n (inr s) i = g.first d (behind x d xs i s) n

    go : (k : Option ℕ) → FirstIs goes xs k → FirstIs goes (x ∷ xs) (elim k [ None ↦ Some x | Some d ↦ if goes x d then Some x else Some d ])
    go None f = record { there = head; first = λ d i n. absurd (f d (behind x d xs i (λ s. n (sym s)))) }
    go (Some y) g = test (goes x y) refl
      where
        test : (b : Bool) → goes x y ≡ b → FirstIs goes (x ∷ xs) (if b then Some x else Some y)
        test true e = record { there = head; first = λ d i n. ahead y d e g n (apart y d) (behind x d xs i (λ s. n (sym s))) }
        test false e = record { there = in_more x y xs g.there; first = λ d i n. last y d e g n (apart x d) i }

-- the classes whose heads are eligible
kept_in : (f : ℕ → Bool) (xs : List ℕ) (c : ℕ) → is_in c (filter f xs) ≡ true → f c ≡ true
kept_in f [] c i = absurd cc
kept_in f (x ∷ xs) c i = go (f x) refl i (kept_in f xs c)
  where
    here : (b : Bool) → (x == c) ≡ b → f x ≡ true → (if b then true else is_in c (filter f xs)) ≡ true → (is_in c (filter f xs) ≡ true → f c ≡ true) → f c ≡ true
    here true e g i rest = let same : x ≡ c = grind (arith, nat_tests, e) in ap f (sym same) ∙ g
    here false e g i rest = rest i

    go : (b : Bool) → f x ≡ b → is_in c (cond b (x ∷ filter f xs) (filter f xs)) ≡ true → (is_in c (filter f xs) ≡ true → f c ≡ true) → f c ≡ true
    go true g i rest = here (x == c) refl g i rest
    go false g i rest = rest i

in_kept : (f : ℕ → Bool) (xs : List ℕ) (c : ℕ) → is_in c xs ≡ true → f c ≡ true → is_in c (filter f xs) ≡ true
in_kept f [] c i e = absurd cc
in_kept f (x ∷ xs) c i e = go (f x) refl (x == c) refl i (in_kept f xs c)
  where
    go : (b : Bool) → f x ≡ b → (a : Bool) → (x == c) ≡ a → (if a then true else is_in c xs) ≡ true
        → (is_in c xs ≡ true → f c ≡ true → is_in c (filter f xs) ≡ true) → is_in c (cond b (x ∷ filter f xs) (filter f xs)) ≡ true
    go true g true h i rest = rw h refl
    go true g false h i rest = in_more x c (filter f xs) (rest i e)
    go false g true h i rest = let same : x ≡ c = grind (arith, nat_tests, h) in let both : f x ≡ f c = ap f same in absurd cc
    go false g false h i rest = rest i e

in_range : (a n c : ℕ) → a ≤ c → c < a + n → is_in c (range_with_len a n) ≡ true
in_range a zero c h k = absurd (omega arith)
in_range a (suc n) c h k = go (a == c) refl (in_range (a + 1) n c)
  where
    go : (b : Bool) → (a == c) ≡ b → (a + 1 ≤ c → c < a + 1 + n → is_in c (range_with_len (a + 1) n) ≡ true) → (if b then true else is_in c (range_with_len (a + 1) n)) ≡ true
    go true e rest = refl
    go false e rest = rest (grind (arith, nat_tests, e, h)) (omega arith)

no_curve : (curves : List (Option Curve)) (c : ℕ) → length curves ≤ c → curve_of curves c ≡ None
no_curve [] c h = refl
no_curve (o ∷ os) zero h = absurd (omega arith)
no_curve (o ∷ os) (suc c) h = no_curve os c (omega arith)

within : (curves : List (Option Curve)) (h : HfscHistory) (now c : ℕ) → IsEligible curves h now c → c < length curves
within curves h now c e = go (cases_lt c (length curves))
  where
    go : (c < length curves) ⊎ (length curves ≤ c) → c < length curves
    go (inl k) = k
    go (inr k) =
        let none : is_eligible (curve_of curves c) (leaf h c) now ≡ false = ap (λ (o : Option Curve). is_eligible o (leaf h c) now) (no_curve curves c k) in
        absurd cc

before_order : (curves : List (Option Curve)) (h : HfscHistory) → IsOrder (before curves h)
before_order curves h = record {
  trans = λ x y z e f. goes_trans (head_deadline (curve_of curves x) (leaf h x)) (head_deadline (curve_of curves y) (leaf h y)) (head_deadline (curve_of curves z) (leaf h z)) x y z e f;
  other = λ x y e n. goes_other (head_deadline (curve_of curves x) (leaf h x)) (head_deadline (curve_of curves y) (leaf h y)) x y e n;
}

pub computed : (curves : List (Option Curve)) (h : HfscHistory) (now : ℕ)
    → MatchOption (real_pick curves h now) (NoneIsEligible curves h now) (IsRealPick curves h now)
computed curves h now = go (real_pick curves h now) (first_is (before curves h) all (before_order curves h))
  where
    all : List ℕ
    all = filter (λ c. is_eligible (curve_of curves c) (leaf h c) now) (range_with_len 0 (length curves))

    in_all : (c : ℕ) → IsEligible curves h now c → is_in c (filter (λ c. is_eligible (curve_of curves c) (leaf h c) now) (range_with_len 0 (length curves))) ≡ true
    in_all c e =
        let low = within curves h now c e in
        in_kept (λ d. is_eligible (curve_of curves d) (leaf h d) now) (range_with_len 0 (length curves)) c (in_range 0 (length curves) c (omega arith) (omega arith)) e

    go : (o : Option ℕ) → FirstIs (before curves h) (filter (λ c. is_eligible (curve_of curves c) (leaf h c) now) (range_with_len 0 (length curves))) o
        → MatchOption o (NoneIsEligible curves h now) (IsRealPick curves h now)
    go None f = λ c e. f c (in_all c e)
    go (Some c) g = record {
      eligible = kept_in (λ d. is_eligible (curve_of curves d) (leaf h d) now) (range_with_len 0 (length curves)) c g.there;
      first = λ d e n. g.first d (in_all d e) n;
    }

-- there is one pick
both_first : (a b : Option ℕ) (x y : ℕ) → goes_first a x b y ≡ true → goes_first b y a x ≡ true → ⊥
both_first None None x y e f = grind (arith, nat_tests, e, f)
both_first None (Some v) x y e f = cc
both_first (Some u) None x y e f = cc
both_first (Some u) (Some v) x y e f = grind (arith, nat_tests, e, f)

pub one_pick : (curves : List (Option Curve)) (h : HfscHistory) (now c d : ℕ) → IsRealPick curves h now c → IsRealPick curves h now d → c ≡ d
one_pick curves h now c d x y = go (c == d) refl
  where
    go : (b : Bool) → (c == d) ≡ b → c ≡ d
    go true e = grind (arith, nat_tests, e)
    go false e =
        let other : c ≡ d → ⊥ = λ s. grind (arith, nat_tests, e, s) in
        absurd (both_first (head_deadline (curve_of curves c) (leaf h c)) (head_deadline (curve_of curves d) (leaf h d)) c d
        (x.first d y.eligible (λ s. other (sym s))) (y.first c x.eligible other))
