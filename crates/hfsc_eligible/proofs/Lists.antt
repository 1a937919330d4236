-- The lists of the heads after one class changed, and what they say of the classes.
use Rattle.std.proofs.Common.{◌≡◌, ◌≤◌, ◌<◌, ◌⊎◌, inl, inr, ℕ, zero, suc, Bool, true, false, List, [], ◌∷◌, ◌++◌, None, Some, drop, length, refl, sym, ap, subst, arith, ◌∙◌, get_or}
use Rattle.std.specs.Prelude.{Option, ◌==◌, slice_get, slice_set, if◌then◌else◌}
use Rattle.std.proofs.lemmas.Bool.{cases_lt}
use Rattle.std.proofs.lemmas.Bool.Decides.{nat_tests}
use Rattle.std.proofs.lemmas.List.{length-set, get_or-set_same, get_or-set_other}
use Rattle.service_curve.specs.declared.Curve.{Curve}
use Rattle.ranking.specs.declared.Ranking.{Ranking}
use Rattle.ranking.specs.Order.{is_in, key_of, IsOrderOf}
use Rattle.ranking.specs.Ranking.{HasPlace, IsReplaced, keys_of, order_of}
use Rattle.ranking.proofs.Orders.{is_order, key_in, outside}
use Rattle.hfsc_model.specs.Event.{HfscHistory}
use Rattle.hfsc_model.specs.Event.{Enqueued, Sent}
use Rattle.hfsc_model.specs.Leaf.{Leaf, Waiting, leaf, head_len, is_waiting, opened, after_kept, after_sent}
use Rattle.hfsc_model.specs.RealTime.{curve_of, has_head}
use Rattle.hfsc_eligible.specs.declared.slot.Slot.{Slot}
use Rattle.hfsc_eligible.specs.declared.Eligible.{Eligible}
use Rattle.hfsc_eligible.specs.Real.{RealStands, holds_head}
use Rattle.hfsc_eligible.specs.Eligible.{Represents, head_at, head_in}
use Rattle.runtime_curve.specs.declared.Opening.{Opening}
use Rattle.runtime_curve.specs.declared.Running.{Running}
use Rattle.ranking.proofs.Ranks.{same_test}
use Rattle.std.proofs.lemmas.Option.{slice_get-get_or}
use Rattle.hfsc_eligible.specs.Slot.{head_of, SlotStands, slot_has_head}
use Rattle.hfsc_eligible.specs.Heads.{Holds}
use Rattle.hfsc_eligible.proofs.Slots.{slot_head_is}

pub holds_changed : (f : Slot → Option ℕ) (slots : List Slot) (class : ℕ) (x : Slot) (old new : Ranking) → Holds f slots old → class < length slots
    → IsReplaced class (slot_has_head x) (f x) old new → Holds f (slice_set slots class x) new
holds_changed f slots class x old new holds h r = record {
  first = r.first ∙ holds.first;
  classes = r.count ∙ holds.classes ∙ sym (length-set slots class x);
  heads = λ c d k. r.classes c ∙ heads c d (class == c) refl (subst (λ n. c < n) (length-set slots class x) k);
  keys = λ c d k e. keys c d (class == c) refl (subst (λ n. c < n) (length-set slots class x) k) e;
}
  where
    heads : (c : ℕ) (d : Slot) (b : Bool) → (class == c) ≡ b → c < length slots
        → (if b then slot_has_head x else is_in c (order_of old)) ≡ slot_has_head (get_or (slice_set slots class x) c d)
    heads c d true e k =
        let same : class ≡ c = grind (arith, nat_tests, e) in
        sym (ap slot_has_head (ap (λ n. get_or (slice_set slots class x) n d) (sym same) ∙ get_or-set_same slots class x d h))
    heads c d false e k =
        let other : c ≡ class → ⊥ = λ s. grind (arith, nat_tests, e, s) in
        holds.heads c d k ∙ sym (ap slot_has_head (get_or-set_other slots class c x d other))

    keys : (c : ℕ) (d : Slot) (b : Bool) → (class == c) ≡ b → c < length slots → slot_has_head (get_or (slice_set slots class x) c d) ≡ true
        → key_of (keys_of new) c ≡ f (get_or (slice_set slots class x) c d)
    keys c d true e k g =
        let same : class ≡ c = grind (arith, nat_tests, e) in
        let there : get_or (slice_set slots class x) c d ≡ x = ap (λ n. get_or (slice_set slots class x) n d) (sym same) ∙ get_or-set_same slots class x d h in
        ap (λ n. key_of (keys_of new) n) (sym same) ∙ key_in class (slot_has_head x) (f x) old new r (sym (ap slot_has_head there) ∙ g) ∙ sym (ap f there)
    keys c d false e k g =
        let other : c ≡ class → ⊥ = λ s. grind (arith, nat_tests, e, s) in
        let there : get_or (slice_set slots class x) c d ≡ get_or slots c d = get_or-set_other slots class c x d other in
        r.others c other ∙ holds.keys c d k (sym (ap slot_has_head there) ∙ g) ∙ sym (ap f there)

-- a class that was read stands in a list where it has a head, and has a place for its key
pub was_there : (f : Slot → Option ℕ) (slots : List Slot) (class : ℕ) (x : Slot) (was : Bool) (r : Ranking) → Holds f slots r → class < length slots
    → x ≡ get_or slots class x → was ≡ slot_has_head x → is_in class (order_of r) ≡ was
was_there f slots class x was r holds h e w = holds.heads class x h ∙ sym (ap slot_has_head e) ∙ sym w

pub has_place : (f : Slot → Option ℕ) (slots : List Slot) (class : ℕ) (r : Ranking) → Holds f slots r → class < length slots → HasPlace r class
has_place f slots class r holds h = record {
  from = let zero = holds.first in omega (arith, zero);
  room = let same = holds.classes in omega (arith, same, h);
}

-- the slots stand for the classes
pub record AllStand (slots : List Slot) (curves : List (Option Curve)) (h : HfscHistory) : Type 0 where
  pub classes : length slots ≡ length curves
  pub each : (c : ℕ) (d : Slot) → c < length slots → SlotStands (get_or slots c d) (curve_of curves c) (leaf h c)

pub no_slot : (slots : List Slot) (c : ℕ) → c < length slots → Slot
no_slot [] c h = absurd (omega arith)
no_slot (x ∷ xs) c h = x

past : (curves : List (Option Curve)) (c : ℕ) → length curves ≤ c → curve_of curves c ≡ None
past [] c h = refl
past (o ∷ os) zero h = absurd (omega arith)
past (o ∷ os) (suc c) h = past os c (omega arith)

pub listed : (f : Slot → Option ℕ) (slots : List Slot) (r : Ranking) (curves : List (Option Curve)) (h : HfscHistory) → Holds f slots r → AllStand slots curves h
    → (c : ℕ) → is_in c (order_of r) ≡ has_head (curve_of curves c) (leaf h c)
listed f slots r curves h holds stand c = go (cases_lt c (length slots))
  where
    go : (c < length slots) ⊎ (length slots ≤ c) → is_in c (order_of r) ≡ has_head (curve_of curves c) (leaf h c)
    go (inl k) =
        let d = no_slot slots c k in
        holds.heads c d k ∙ slot_head_is (get_or slots c d) (curve_of curves c) (leaf h c) (stand.each c d k)
    go (inr k) =
        let n = holds.classes in
        let none = past curves c (let m = stand.classes in omega arith) in
        outside (length (keys_of r)) c (order_of r) r.below (omega arith) ∙ sym (ap (λ (o : Option Curve). has_head o (leaf h c)) none)

pub key_is : (f : Slot → Option ℕ) (g : Option Curve → Leaf → Option ℕ) (slots : List Slot) (r : Ranking) (curves : List (Option Curve)) (h : HfscHistory)
    → ((x : Slot) (o : Option Curve) (l : Leaf) → SlotStands x o l → f x ≡ g o l) → Holds f slots r → AllStand slots curves h
    → (c : ℕ) → has_head (curve_of curves c) (leaf h c) ≡ true → key_of (keys_of r) c ≡ g (curve_of curves c) (leaf h c)
key_is f g slots r curves h is holds stand c e = go (cases_lt c (length slots))
  where
    go : (c < length slots) ⊎ (length slots ≤ c) → key_of (keys_of r) c ≡ g (curve_of curves c) (leaf h c)
    go (inl k) =
        let d = no_slot slots c k in
        let x = stand.each c d k in
        holds.keys c d k (slot_head_is (get_or slots c d) (curve_of curves c) (leaf h c) x ∙ e) ∙ is (get_or slots c d) (curve_of curves c) (leaf h c) x
    go (inr k) =
        let none = past curves c (let m = stand.classes in omega arith) in
        let no : has_head (curve_of curves c) (leaf h c) ≡ false = ap (λ (o : Option Curve). has_head o (leaf h c)) none in
        absurd cc

-- the list is that of the heads in the order of the key
pub ordered : (f : Slot → Option ℕ) (g : Option Curve → Leaf → Option ℕ) (slots : List Slot) (r : Ranking) (curves : List (Option Curve)) (h : HfscHistory)
    → ((x : Slot) (o : Option Curve) (l : Leaf) → SlotStands x o l → f x ≡ g o l) → Holds f slots r → AllStand slots curves h
    → IsOrderOf (λ c. g (curve_of curves c) (leaf h c)) (λ c. has_head (curve_of curves c) (leaf h c)) (order_of r)
ordered f g slots r curves h is holds stand =
    is_order (keys_of r) (λ c. g (curve_of curves c) (leaf h c)) (λ c. has_head (curve_of curves c) (leaf h c)) (order_of r) r.ranked
    (listed f slots r curves h holds stand) (key_is f g slots r curves h is holds stand)

-- a class without a head's length has nothing that waits
pub nothing_waits : (ws : List Waiting) → head_len ws ≡ None → ws ≡ []
nothing_waits [] e = refl
nothing_waits (w ∷ ws) e = absurd cc

-- the slots stand for the classes after one of them changed
pub changed : (slots : List Slot) (curves : List (Option Curve)) (h g : HfscHistory) (class : ℕ) (x : Slot) → AllStand slots curves h → class < length slots
    → SlotStands x (curve_of curves class) (leaf g class) → ((c : ℕ) → (class ≡ c → ⊥) → leaf g c ≡ leaf h c) → AllStand (slice_set slots class x) curves g
changed slots curves h g class x stand k y same = record {
  classes = length-set slots class x ∙ stand.classes;
  each = λ c d n. go c d (class == c) refl (subst (λ m. c < m) (length-set slots class x) n);
}
  where
    go : (c : ℕ) (d : Slot) (b : Bool) → (class == c) ≡ b → c < length slots → SlotStands (get_or (slice_set slots class x) c d) (curve_of curves c) (leaf g c)
    go c d true e n =
        let equal : class ≡ c = grind (arith, nat_tests, e) in
        let there : x ≡ get_or (slice_set slots class x) class d = sym (get_or-set_same slots class x d k) in
        subst (λ m. SlotStands (get_or (slice_set slots class x) m d) (curve_of curves m) (leaf g m)) equal
        (subst (λ (z : Slot). SlotStands z (curve_of curves class) (leaf g class)) there y)
    go c d false e n =
        let other : class ≡ c → ⊥ = λ s. grind (arith, nat_tests, e, s) in
        let back : c ≡ class → ⊥ = λ s. other (sym s) in
        subst (λ (l : Leaf). SlotStands (get_or (slice_set slots class x) c d) (curve_of curves c) l) (sym (same c other))
        (subst (λ (z : Slot). SlotStands z (curve_of curves c) (leaf h c)) (sym (get_or-set_other slots class c x d back)) (stand.each c d n))

-- a packet that is kept changes its class alone
pub kept_same : (h : HfscHistory) (class at len c : ℕ) → (class ≡ c → ⊥) → leaf (Enqueued class at len ∷ h) c ≡ leaf h c
kept_same h class at len c n = go (class == c) refl
  where
    go : (b : Bool) → (class == c) ≡ b → (if b then after_kept at len (leaf h c) else leaf h c) ≡ leaf h c
    go true e = absurd (n (grind (arith, nat_tests, e)))
    go false e = refl

pub kept_here : (h : HfscHistory) (class at len : ℕ) → after_kept at len (leaf h class) ≡ leaf (Enqueued class at len ∷ h) class
kept_here h class at len = sym (rw (same_test class) refl)

head_of_slot : (slots : List Slot) (c : ℕ) (d : Slot) → c < length slots → head_in (slice_get slots c) ≡ head_of (get_or slots c d)
head_of_slot slots c d k = ap head_in (slice_get-get_or slots c d k)

-- a packet kept in a class in which nothing waits opens it
pub opened_stands : (e new : Eligible) (curves : List (Option Curve)) (h : HfscHistory) (class at len : ℕ) (old x : Slot) → Represents e curves h
    → class < length e.slots.items → head_at e class ≡ None → old ≡ get_or e.slots.items class old
    → ((o : Option Curve) (l : Leaf) → SlotStands old o l → l.waiting ≡ [] → SlotStands x o (after_kept at len l))
    → new.slots.items ≡ slice_set e.slots.items class x → Represents new curves (Enqueued class at len ∷ h)
opened_stands e new curves h class at len old x stands k empty is opened set =
    let was = subst (λ (z : Slot). SlotStands z (curve_of curves class) (leaf h class)) (sym is) (stands.each class old k) in
    let none : head_len (leaf h class).waiting ≡ None = sym was.head ∙ ap head_of is ∙ sym (head_of_slot e.slots.items class old k) ∙ empty in
    let y = subst (λ (l : Leaf). SlotStands x (curve_of curves class) l) (kept_here h class at len)
    (opened (curve_of curves class) (leaf h class) was (nothing_waits (leaf h class).waiting none)) in
    let all = changed e.slots.items curves h (Enqueued class at len ∷ h) class x (record { classes = stands.classes; each = stands.each }) k y (kept_same h class at len) in
    record {
      classes = ap (λ (xs : List Slot). length xs) set ∙ all.classes;
      each = λ c d n. subst (λ (xs : List Slot). SlotStands (get_or xs c d) (curve_of curves c) (leaf (Enqueued class at len ∷ h) c)) (sym set)
          (all.each c d (subst (λ (xs : List Slot). c < length xs) set n));
    }

-- a packet kept in a class in which another waits changes nothing that is held
more_waits : (ws : List Waiting) (w : Waiting) → is_waiting ws ≡ true → head_len (ws ++ w ∷ []) ≡ head_len ws
more_waits [] w e = absurd cc
more_waits (v ∷ vs) w e = refl

more_openings : (ws : List Waiting) (at count : ℕ) (os : List Opening) → is_waiting ws ≡ true → opened ws at count os ≡ os
more_openings [] at count os e = absurd cc
more_openings (v ∷ vs) at count os e = refl

more_slot : (x : Slot) (o : Option Curve) (l : Leaf) (at len : ℕ) → is_waiting l.waiting ≡ true → SlotStands x o l → SlotStands x o (after_kept at len l)
more_slot x o l at len w y = record {
  real = subst (λ (os : List Opening). RealStands x.real o os) (sym (more_openings l.waiting at l.count l.openings w)) y.real;
  count = y.count;
  head = y.head ∙ sym (more_waits l.waiting (record { at = at; len = len }) w);
}

pub more_stands : (e : Eligible) (curves : List (Option Curve)) (h : HfscHistory) (class at len : ℕ) → Represents e curves h → is_waiting (leaf h class).waiting ≡ true
    → Represents e curves (Enqueued class at len ∷ h)
more_stands e curves h class at len stands w = record {
  classes = stands.classes;
  each = λ c d n. go c d (class == c) refl n;
}
  where
    go : (c : ℕ) (d : Slot) (b : Bool) → (class == c) ≡ b → c < length e.slots.items
        → SlotStands (get_or e.slots.items c d) (curve_of curves c) (if b then after_kept at len (leaf h c) else leaf h c)
    go c d true f n =
        let equal : class ≡ c = grind (arith, nat_tests, f) in
        more_slot (get_or e.slots.items c d) (curve_of curves c) (leaf h c) at len (subst (λ m. is_waiting (leaf h m).waiting ≡ true) equal w) (stands.each c d n)
    go c d false f n = stands.each c d n

-- a head that is sent by share leaves what is held where the next one is as long
shared_slot : (x : Slot) (o : Option Curve) (l : Leaf) (len : ℕ) (head : Option ℕ) → SlotStands x o l → head_of x ≡ Some len → head ≡ Some len
    → head_len (drop 1 l.waiting) ≡ head → SlotStands x o (after_sent len false l)
shared_slot x o l len head y was next h = record { real = y.real; count = y.count; head = was ∙ sym next ∙ sym h }

pub shared_stands : (e : Eligible) (curves : List (Option Curve)) (h : HfscHistory) (class len start : ℕ) (counted : Bool) (head : Option ℕ) → Represents e curves h
    → class < length e.slots.items → head_at e class ≡ Some len → counted ≡ false → head ≡ Some len
    → head_len (leaf (Sent class len counted start ∷ h) class).waiting ≡ head → Represents e curves (Sent class len counted start ∷ h)
shared_stands e curves h class len start counted head stands k waits share next left = record {
  classes = stands.classes;
  each = λ c d n. go c d (class == c) refl n;
}
  where
    here : head_len (drop 1 (leaf h class).waiting) ≡ head
    here = ap (λ b. head_len (if b then after_sent len counted (leaf h class) else leaf h class).waiting) (sym (same_test class)) ∙ left

    go : (c : ℕ) (d : Slot) (b : Bool) → (class == c) ≡ b → c < length e.slots.items
        → SlotStands (get_or e.slots.items c d) (curve_of curves c) (if b then after_sent len counted (leaf h c) else leaf h c)
    go c d true f n =
        let equal : class ≡ c = grind (arith, nat_tests, f) in
        let was : head_of (get_or e.slots.items c d) ≡ Some len = sym (head_of_slot e.slots.items c d n) ∙ ap (λ m. head_at e m) (sym equal) ∙ waits in
        let after : head_len (drop 1 (leaf h c).waiting) ≡ head = ap (λ m. head_len (drop 1 (leaf h m).waiting)) (sym equal) ∙ here in
        subst (λ b. SlotStands (get_or e.slots.items c d) (curve_of curves c) (after_sent len b (leaf h c))) (sym share)
        (shared_slot (get_or e.slots.items c d) (curve_of curves c) (leaf h c) len head (stands.each c d n) was next after)
    go c d false f n = stands.each c d n

-- a class without a head
no_head : (real : Option Running) (head : Option ℕ) → head ≡ None → holds_head real head ≡ false
no_head None head e = refl
no_head (Some r) None e = refl
no_head (Some r) (Some n) e = absurd cc

pub is_absent : (f : Slot → Option ℕ) (e : Eligible) (class : ℕ) (x : Slot) (r : Ranking) → Holds f e.slots.items r → class < length e.slots.items
    → head_at e class ≡ None → is_in class (order_of r) ≡ false
is_absent f e class x r holds h none =
    holds.heads class x h ∙ no_head (get_or e.slots.items class x).real (get_or e.slots.items class x).head (sym (head_of_slot e.slots.items class x h) ∙ none)
