-- Where the virtual time of a class that becomes active lies.
use Rattle.std.proofs.Common.{◌≡◌, ◌≤◌, ℕ, true, List, [], ◌∷◌, map, refl, ap, sym, arith, ◌∙◌}
use Rattle.std.specs.List.{filter}
use Rattle.ranking.specs.Order.{is_in}
use Rattle.ranking.proofs.Ranks.{same_test}
use Rattle.hfsc_model.specs.declared.HfscClass.{HfscClass}
use Rattle.hfsc_model.specs.Event.{HfscHistory}
use Rattle.hfsc_model.specs.Share.{active, activation, activation_time, activations, greatest, least, siblings, virtual_time}
use Rattle.hfsc_model.specs.Tree.{class_of, is_child, numbers}
use Rattle.hfsc_laws.proofs.Tree.{and_true, parent_of, true_and}
use Rattle.hfsc_share.proofs.Starting.{active_child_in, child_in, greatest_at, greatest_up, least_low}
use Rattle.fair_shares.specs.Fairness.{IsActiveChild}

-- it is no less than what no active sibling is below
low_of : (f : ℕ → ℕ) (own high low : ℕ) (xs : List ℕ) → low ≤ high → ((z : ℕ) → is_in z xs ≡ true → low ≤ f z) → low ≤ activation own (map f xs) high
low_of f own high low [] under each = omega (arith, under)
low_of f own high low (x ∷ xs) under each =
    let first = each x (let i : is_in x (x ∷ xs) ≡ true = rw (same_test x) refl in i) in
    let least_is = least_low f x xs low each in
    omega (arith, first, least_is)

-- and no greater than what none is above, if there is one
high_of : (f : ℕ → ℕ) (own high most c : ℕ) (xs : List ℕ) → is_in c xs ≡ true → own ≤ most → ((z : ℕ) → is_in z xs ≡ true → f z ≤ most)
    → activation own (map f xs) high ≤ most
high_of f own high most c [] there le each = absurd cc
high_of f own high most c (x ∷ xs) there le each =
    let greatest_is = greatest_up f (x ∷ xs) most each in
    let least_is = low_is (f x) (map f xs) in
    omega (arith, le, greatest_is, least_is)
  where
    low_is : (v : ℕ) (ws : List ℕ) → least v ws ≤ v
    low_is v [] = omega arith
    low_is v (w ∷ ws) = omega arith

abbrev family : List HfscClass → ℕ → List ℕ
family cs p = filter (is_child cs p) (numbers cs)

in_family : (cs : List HfscClass) (h : HfscHistory) (p z : ℕ) → is_in z (filter (active cs h) (family cs p)) ≡ true → IsActiveChild cs h p z
in_family cs h p z i = let both = and_true (is_child cs p z) (active cs h z) (sym (active_child_in cs h p z) ∙ i) in record { child = both.0; is_active = both.1 }

family_in : (cs : List HfscClass) (h : HfscHistory) (p z : ℕ) → IsActiveChild cs h p z → is_in z (filter (active cs h) (family cs p)) ≡ true
family_in cs h p z x = active_child_in cs h p z ∙ true_and (is_child cs p z) (active cs h z) x.child x.is_active

among : (cs : List HfscClass) (h : HfscHistory) (p c : ℕ) → is_child cs p c ≡ true
    → activation_time cs h (activations cs h) c ≡ activation (virtual_time cs h c) (map (virtual_time cs h) (filter (active cs h) (family cs p))) (greatest (map (virtual_time cs h) (family cs p)))
among cs h p c k =
    ap (λ (xs : List ℕ). activation (virtual_time cs h c) (map (virtual_time cs h) (filter (active cs h) xs)) (greatest (map (virtual_time cs h) xs)))
    (ap (siblings cs c) (parent_of cs p c k))

pub starts_above : (cs : List HfscClass) (h : HfscHistory) (p c d low : ℕ) → is_child cs p c ≡ true → is_child cs p d ≡ true → low ≤ virtual_time cs h d
    → ((z : ℕ) → IsActiveChild cs h p z → low ≤ virtual_time cs h z) → low ≤ activation_time cs h (activations cs h) c
starts_above cs h p c d low k m under each =
    let high = greatest_at (virtual_time cs h) (family cs p) d (child_in cs p d ∙ m) in
    let got = low_of (virtual_time cs h) (virtual_time cs h c) (greatest (map (virtual_time cs h) (family cs p))) low (filter (active cs h) (family cs p))
    (omega (arith, high, under)) (λ z i. each z (in_family cs h p z i)) in
    let same = among cs h p c k in
    omega (arith, got, same)

pub starts_below : (cs : List HfscClass) (h : HfscHistory) (p c d most : ℕ) → is_child cs p c ≡ true → IsActiveChild cs h p d → virtual_time cs h c ≤ most
    → ((z : ℕ) → IsActiveChild cs h p z → virtual_time cs h z ≤ most) → activation_time cs h (activations cs h) c ≤ most
starts_below cs h p c d most k x le each =
    let got = high_of (virtual_time cs h) (virtual_time cs h c) (greatest (map (virtual_time cs h) (family cs p))) most d (filter (active cs h) (family cs p))
    (family_in cs h p d x) le (λ z i. each z (in_family cs h p z i)) in
    let same = among cs h p c k in
    omega (arith, got, same)

pub starts_from_own : (cs : List HfscClass) (h : HfscHistory) (c : ℕ) → virtual_time cs h c ≤ activation_time cs h (activations cs h) c
starts_from_own cs h c =
    own_first (virtual_time cs h c) (greatest (map (virtual_time cs h) (siblings cs c (class_of cs c).parent)))
    (map (virtual_time cs h) (filter (active cs h) (siblings cs c (class_of cs c).parent)))
  where
    own_first : (own high : ℕ) (vs : List ℕ) → own ≤ activation own vs high
    own_first own high [] = omega arith
    own_first own high (v ∷ vs) = omega arith
