-- The picks and the least moment, from the lists.
use Rattle.std.proofs.Common.{◌≡◌, ◌≤◌, ◌<◌, ℕ, Bool, true, false, List, [], ◌∷◌, None, Some, length, refl, sym, ap, arith, ◌∙◌}
use Rattle.std.specs.Prelude.{Option, ◌==◌, MatchOption}
use Rattle.std.specs.List.{find}
use Rattle.std.proofs.lemmas.Bool.Decides.{nat_tests}
use Rattle.service_curve.specs.declared.Curve.{Curve}
use Rattle.ranking.specs.Order.{is_in, key_of, GoesBefore, AreInOrder, IsOrderOf}
use Rattle.ranking.specs.Ranking.{keys_of, order_of}
use Rattle.ranking.proofs.Ranks.{same_test}
use Rattle.ranking.proofs.Orders.{goes, behind, found_first, found_none, find_none, in_below, is_order}
use Rattle.hfsc_model.specs.Event.{HfscHistory}
use Rattle.hfsc_model.specs.Leaf.{Leaf, leaf, is_waiting}
use Rattle.hfsc_model.specs.RealTime.{curve_of, has_come, has_head, head_deadline, soonest_of, is_eligible, goes_first, IsRealPick, NoneIsEligible, AreOpenBy}
use Rattle.hfsc_model.proofs.Soonest.{eligible_from_soonest}
use Rattle.hfsc_eligible.specs.declared.Eligible.{Eligible}
use Rattle.hfsc_eligible.specs.Slot.{slot_deadline, slot_soonest}
use Rattle.hfsc_eligible.specs.Eligible.{Represents, IsLeastOf, IsLeastSoonest, first_key, pick_now, soonest_now}
use Rattle.hfsc_eligible.proofs.Slots.{slot_deadline_is, slot_soonest_is}
use Rattle.hfsc_eligible.proofs.Lists.{AllStand, ordered, key_is, no_slot}

-- the first of a list in the order of a key has the least of the keys
first_none : (key : ℕ → Option ℕ) (x c u : ℕ) (xs : List ℕ) → key x ≡ None → GoesBefore key x xs → is_in c (x ∷ xs) ≡ true → key c ≡ Some u → ⊥
first_none key x c u xs e r i f = go (x == c) refl
  where
    no : (a b : Option ℕ) → a ≡ None → b ≡ Some u → goes_first a x b c ≡ true → ⊥
    no None (Some v) g h t = cc
    no None None g h t = cc
    no (Some v) b g h t = cc

    go : (b : Bool) → (x == c) ≡ b → ⊥
    go true g = let same : x ≡ c = grind (arith, nat_tests, g) in let both : key x ≡ key c = ap key same in cc
    go false g = no (key x) (key c) e f (goes key x c xs r (behind x c xs i (λ s. grind (arith, nat_tests, g, s))))

first_some : (key : ℕ → Option ℕ) (x c t u : ℕ) (xs : List ℕ) → key x ≡ Some t → GoesBefore key x xs → is_in c (x ∷ xs) ≡ true → key c ≡ Some u → t ≤ u
first_some key x c t u xs e r i f = go (x == c) refl
  where
    no : (a b : Option ℕ) → a ≡ Some t → b ≡ Some u → goes_first a x b c ≡ true → t ≤ u
    no None b g h w = absurd cc
    no (Some v) None g h w = absurd cc
    no (Some v) (Some z) g h w = let one : v ≡ t = cc in let two : z ≡ u = cc in grind (arith, nat_tests, w, one, two)

    go : (b : Bool) → (x == c) ≡ b → t ≤ u
    go true g = let same : x ≡ c = grind (arith, nat_tests, g) in let both : key x ≡ key c = ap key same in let equal : t ≡ u = cc in omega arith
    go false g = no (key x) (key c) e f (goes key x c xs r (behind x c xs i (λ s. grind (arith, nat_tests, g, s))))

least_of_order : (key : ℕ → Option ℕ) (passes : ℕ → Bool) (keys : List (Option ℕ)) (xs : List ℕ) → IsOrderOf key passes xs
    → ((c : ℕ) → passes c ≡ true → key_of keys c ≡ key c) → ((c u : ℕ) → key c ≡ Some u → passes c ≡ true) → IsLeastOf key (first_key keys xs)
least_of_order key passes keys [] o f g = λ c. go c (key c) refl
  where
    go : (c : ℕ) (k : Option ℕ) → key c ≡ k → k ≡ None
    go c None e = refl
    go c (Some u) e = let yes = g c u e in let no = o.exactly c in absurd cc
least_of_order key passes keys (x ∷ xs) o f g = go (key_of keys x) (f x there)
  where
    there : passes x ≡ true
    there = sym (o.exactly x) ∙ rw (same_test x) refl

    in_list : (c u : ℕ) → key c ≡ Some u → is_in c (x ∷ xs) ≡ true
    in_list c u e = o.exactly c ∙ g c u e

    none : (c : ℕ) → key x ≡ None → (k : Option ℕ) → key c ≡ k → k ≡ None
    none c e None h = refl
    none c e (Some u) h = absurd (first_none key x c u xs e o.in_order.0 (in_list c u h) h)

    go : (k : Option ℕ) → k ≡ key x → IsLeastOf key k
    go None e = λ c. none c (sym e) (key c) refl
    go (Some t) e = record { one = (x, sym e); least = λ c u h. first_some key x c t u xs (sym e) o.in_order.0 (in_list c u h) h }

-- a class with a moment has a head
has_moment : (o : Option Curve) (l : Leaf) (u : ℕ) → soonest_of o l ≡ Some u → has_head o l ≡ true
has_moment None l u e = absurd cc
has_moment (Some s) l u e = go (is_waiting l.waiting) refl
  where
    go : (b : Bool) → is_waiting l.waiting ≡ b → is_waiting l.waiting ≡ true
    go true f = f
    go false f = let none : soonest_of (Some s) l ≡ None = rw f refl in absurd cc

all_stand : (e : Eligible) (curves : List (Option Curve)) (h : HfscHistory) → Represents e curves h → AllStand e.slots.items curves h
all_stand e curves h x = record { classes = x.classes; each = x.each }

pub soonest_is_least : (e : Eligible) (curves : List (Option Curve)) (h : HfscHistory) → Represents e curves h → IsLeastSoonest curves h (soonest_now e)
soonest_is_least e curves h x =
    least_of_order (λ c. soonest_of (curve_of curves c) (leaf h c)) (λ c. has_head (curve_of curves c) (leaf h c)) (keys_of e.moments) (order_of e.moments)
    (ordered slot_soonest soonest_of e.slots.items e.moments curves h slot_soonest_is e.by_moment (all_stand e curves h x))
    (key_is slot_soonest soonest_of e.slots.items e.moments curves h slot_soonest_is e.by_moment (all_stand e curves h x))
    (λ c u f. has_moment (curve_of curves c) (leaf h c) u f)

-- the pick
come_head : (o : Option Curve) (l : Leaf) (now : ℕ) → has_come (soonest_of o l) now ≡ true → has_head o l ≡ true
come_head o l now e = go (soonest_of o l) refl e
  where
    go : (k : Option ℕ) → soonest_of o l ≡ k → has_come k now ≡ true → has_head o l ≡ true
    go None f e = absurd cc
    go (Some u) f e = has_moment o l u f

pub pick_is_real : (e : Eligible) (curves : List (Option Curve)) (h : HfscHistory) (now : ℕ) → Represents e curves h → AreOpenBy h now
    → MatchOption (pick_now e now) (NoneIsEligible curves h now) (IsRealPick curves h now)
pick_is_real e curves h now x by = go (find test (order_of e.deadlines)) refl
  where
    test : ℕ → Bool
    test c = has_come (key_of (keys_of e.moments) c) now

    soon : ℕ → Option ℕ
    soon c = soonest_of (curve_of curves c) (leaf h c)

    order : IsOrderOf (λ c. head_deadline (curve_of curves c) (leaf h c)) (λ c. has_head (curve_of curves c) (leaf h c)) (order_of e.deadlines)
    order = ordered slot_deadline head_deadline e.slots.items e.deadlines curves h slot_deadline_is e.by_deadline (all_stand e curves h x)

    moment : (c : ℕ) → has_head (curve_of curves c) (leaf h c) ≡ true → key_of (keys_of e.moments) c ≡ soonest_of (curve_of curves c) (leaf h c)
    moment = key_is slot_soonest soonest_of e.slots.items e.moments curves h slot_soonest_is e.by_moment (all_stand e curves h x)

    come : (c : ℕ) → is_eligible (curve_of curves c) (leaf h c) now ≡ true → has_come (soonest_of (curve_of curves c) (leaf h c)) now ≡ true
    come c f = sym (eligible_from_soonest (curve_of curves c) (leaf h c) now (by c)) ∙ f

    head : (c : ℕ) → is_eligible (curve_of curves c) (leaf h c) now ≡ true → has_head (curve_of curves c) (leaf h c) ≡ true
    head c f = come_head (curve_of curves c) (leaf h c) now (come c f)

    passes : (c : ℕ) → is_eligible (curve_of curves c) (leaf h c) now ≡ true → has_come (key_of (keys_of e.moments) c) now ≡ true
    passes c f = ap (λ (k : Option ℕ). has_come k now) (moment c (head c f)) ∙ come c f

    go : (o : Option ℕ) → find (λ c. has_come (key_of (keys_of e.moments) c) now) (order_of e.deadlines) ≡ o
        → MatchOption o (NoneIsEligible curves h now) (IsRealPick curves h now)
    go None f = λ c el. found_none (λ d. has_come (key_of (keys_of e.moments) d) now) (order_of e.deadlines) c f (order.exactly c ∙ head c el) (passes c el)
    go (Some c) f =
        let found = found_first (λ d. head_deadline (curve_of curves d) (leaf h d)) (λ d. has_come (key_of (keys_of e.moments) d) now) (order_of e.deadlines) c order.in_order f in
        let there : has_head (curve_of curves c) (leaf h c) ≡ true = sym (order.exactly c) ∙ found.there in
        record {
          eligible = eligible_from_soonest (curve_of curves c) (leaf h c) now (by c) ∙ ap (λ (k : Option ℕ). has_come k now) (sym (moment c there)) ∙ found.passes;
          first = λ d el n. found.first d (order.exactly d ∙ head d el) (passes d el) n;
        }

-- where the first moment has not come none has
late : (keys : List (Option ℕ)) (x c now : ℕ) (xs : List ℕ) → AreInOrder (key_of keys) (x ∷ xs) → has_come (key_of keys x) now ≡ false → is_in c (x ∷ xs) ≡ true
    → has_come (key_of keys c) now ≡ false
late keys x c now xs r e i = go (x == c) refl
  where
    no : (a b : Option ℕ) → has_come a now ≡ false → goes_first a x b c ≡ true → has_come b now ≡ false
    no a None g w = refl
    no None (Some v) g w = absurd cc
    no (Some u) (Some v) g w = grind (arith, nat_tests, g, w)

    go : (b : Bool) → (x == c) ≡ b → has_come (key_of keys c) now ≡ false
    go true g = let same : x ≡ c = grind (arith, nat_tests, g) in ap (λ n. has_come (key_of keys n) now) (sym same) ∙ e
    go false g = no (key_of keys x) (key_of keys c) e (goes (key_of keys) x c xs r.0 (behind x c xs i (λ s. grind (arith, nat_tests, g, s))))

none_come : (keys : List (Option ℕ)) (now : ℕ) (xs : List ℕ) → AreInOrder (key_of keys) xs → has_come (first_key keys xs) now ≡ false
    → (c : ℕ) → is_in c xs ≡ true → has_come (key_of keys c) now ≡ false
none_come keys now [] r e c i = absurd cc
none_come keys now (x ∷ xs) r e c i = late keys x c now xs r e i

pub none_picked : (e : Eligible) (now : ℕ) → has_come (soonest_now e) now ≡ false → pick_now e now ≡ None
none_picked e now f = find_none (λ c. has_come (key_of (keys_of e.moments) c) now) (order_of e.deadlines) (λ c i. none_come (keys_of e.moments) now (order_of e.moments) order f c (both c i))
  where
    order : AreInOrder (key_of (keys_of e.moments)) (order_of e.moments)
    order = (is_order (keys_of e.moments) (key_of (keys_of e.moments)) (λ c. is_in c (order_of e.moments)) (order_of e.moments) e.moments.ranked (λ c. refl) (λ d i. refl)).in_order

    both : (c : ℕ) → is_in c (order_of e.deadlines) ≡ true → is_in c (order_of e.moments) ≡ true
    both c i =
        let low : c < length (keys_of e.deadlines) = in_below (length (keys_of e.deadlines)) c (order_of e.deadlines) e.deadlines.below i in
        let same = e.by_deadline.classes in
        let k : c < length e.slots.items = omega arith in
        let d = no_slot e.slots.items c k in
        e.by_moment.heads c d k ∙ sym (e.by_deadline.heads c d k) ∙ i
