-- The lists of children after one class changed.
use Rattle.std.proofs.Common.{◌≡◌, ◌≤◌, ◌<◌, ℕ, Bool, true, false, List, None, Some, length, refl, sym, ap, subst, arith, ◌∙◌}
use Rattle.std.specs.Prelude.{Option, ◌==◌, ◌&&◌, max, slice_get, slice_set, if◌then◌else◌}
use Rattle.std.proofs.lemmas.Bool.Decides.{nat_tests}
use Rattle.std.proofs.lemmas.List.{length-set}
use Rattle.ranking.specs.declared.Ranking.{Ranking}
use Rattle.ranking.specs.Order.{is_in, key_of}
use Rattle.ranking.specs.Ranking.{IsReplaced, keys_of, order_of}
use Rattle.ranking.proofs.Orders.{key_in}
use Rattle.ranking.proofs.Ranks.{same_test}
use Rattle.hfsc_model.specs.Tree.{is_number}
use Rattle.hfsc_laws.proofs.Tree.{and_true}
use Rattle.hfsc_groups.specs.declared.node.Node.{Node}
use Rattle.hfsc_groups.specs.declared.group.Group.{Group}
use Rattle.hfsc_groups.specs.Curves.{IsBy}
use Rattle.hfsc_groups.specs.Node.{parent_in, active_in, time_in, opens_in, is_child_in, is_active_child, AreParentsFirst, AreLimitsBy}
use Rattle.hfsc_groups.specs.declared.late.LimitedChildren.{LimitedChildren}
use Rattle.hfsc_groups.specs.Late.{IsDelayed, is_late, late_keys, late_order}
use Rattle.hfsc_groups.specs.Group.{Delays, Ranks, IsHigh, GroupHolds, GroupsHold, IsChanged, MayChange, AreRanked, time_key}
use Rattle.hfsc_groups.proofs.Places.{get_here, get_other}

-- one class is put into its place: its parent stays, and its virtual time does not fall
pub record IsPut (nodes : List Node) (class : ℕ) (x : Node) : Type 0 where
  pub within : class < length nodes
  pub parent : x.parent ≡ parent_in (slice_get nodes class)
  pub later : time_in (slice_get nodes class) ≤ x.time

-- a class was taken in, and the moment from which it opens taken anew
pub is_put : (nodes : List Node) (class : ℕ) (x y z : Node) → class < length nodes → slice_get nodes class ≡ Some x → y.parent ≡ x.parent → x.time ≤ y.time
    → z.parent ≡ y.parent → z.time ≡ y.time → IsPut nodes class z
is_put nodes class x y z low at parent later parent_same time_same = record {
  within = low;
  parent = parent_same ∙ parent ∙ sym (ap parent_in at);
  later = let was = ap time_in at in omega arith;
}

-- by its number
pub split : (P : ℕ → Type 0) (class c : ℕ) → P class → ((c ≡ class → ⊥) → P c) → P c
split P class c here there = go (class == c) refl
  where
    go : (b : Bool) → (class == c) ≡ b → P c
    go true e = subst P (grind (arith, nat_tests, e)) here
    go false e = there (λ s. grind (arith, nat_tests, e, s))

pub parents_kept : (nodes : List Node) (class : ℕ) (x : Node) → IsPut nodes class x → (c : ℕ)
    → parent_in (slice_get (slice_set nodes class x) c) ≡ parent_in (slice_get nodes c)
parents_kept nodes class x put c =
    split (λ d. parent_in (slice_get (slice_set nodes class x) d) ≡ parent_in (slice_get nodes d)) class c
    (ap parent_in (get_here nodes class x put.within) ∙ put.parent) (λ n. ap parent_in (get_other nodes class c x n))

child_kept : (nodes : List Node) (class : ℕ) (x : Node) (p c : ℕ) → IsPut nodes class x → is_child_in (slice_set nodes class x) p c ≡ is_child_in nodes p c
child_kept nodes class x p c put = ap (is_number p) (parents_kept nodes class x put c)

-- the lists of its parent
ranks_changed : (key : Option Node → Option ℕ) (nodes : List Node) (class : ℕ) (x : Node) (p : ℕ) (old new : Ranking) → IsPut nodes class x → x.parent ≡ Some p
    → Ranks nodes p key old → IsReplaced class x.active (key (Some x)) old new → Ranks (slice_set nodes class x) p key new
ranks_changed key nodes class x p old new put of ranks r = record {
  places = λ c k.
      let place = ranks.places c (sym (child_kept nodes class x p c put) ∙ k) in
      record {
        from = let from = place.from in let first = r.first in omega (arith, from, first);
        room = let room = place.room in let count = r.count in omega (arith, room, count);
      };
  exactly = λ c. r.classes c ∙ exactly c (class == c) refl;
  keys = keys;
}
  where
    put_in : slice_get (slice_set nodes class x) class ≡ Some x
    put_in = get_here nodes class x put.within

    is_of : is_number p x.parent ≡ true
    is_of = ap (is_number p) of ∙ same_test p

    exactly : (c : ℕ) (b : Bool) → (class == c) ≡ b → (if b then x.active else is_in c (order_of old)) ≡ is_active_child (slice_set nodes class x) p c
    exactly c true e =
        let same : class ≡ c = grind (arith, nat_tests, e) in
        sym (ap (λ n. is_active_child (slice_set nodes class x) p n) (sym same)
        ∙ ap (λ (o : Option Node). is_number p (parent_in o) && active_in o) put_in ∙ ap (λ b. b && x.active) is_of)
    exactly c false e =
        let there = get_other nodes class c x (λ s. grind (arith, nat_tests, e, s)) in
        ranks.exactly c ∙ sym (ap (λ (o : Option Node). is_number p (parent_in o) && active_in o) there)

    keys : (c : ℕ) → is_active_child (slice_set nodes class x) p c ≡ true → key_of (keys_of new) c ≡ key (slice_get (slice_set nodes class x) c)
    keys c = split (λ d. is_active_child (slice_set nodes class x) p d ≡ true → key_of (keys_of new) d ≡ key (slice_get (slice_set nodes class x) d)) class c
        (λ a.
        let is = sym (ap (λ b. b && x.active) is_of) ∙ sym (ap (λ (o : Option Node). is_number p (parent_in o) && active_in o) put_in) ∙ a in
        key_in class x.active (key (Some x)) old new r is ∙ sym (ap key put_in))
        (λ n a. let there = get_other nodes class c x n in
        r.others c n ∙ ranks.keys c (sym (ap (λ (o : Option Node). is_number p (parent_in o) && active_in o) there) ∙ a) ∙ sym (ap key there))

-- the same of the list by moments
delays_changed : (nodes : List Node) (class : ℕ) (x : Node) (p : ℕ) (old new : LimitedChildren) → IsPut nodes class x → x.parent ≡ Some p
    → Delays nodes p old → IsDelayed class x.active x.opens old new → Delays (slice_set nodes class x) p new
delays_changed nodes class x p old new put of delays r = record {
  places = λ c k. r.places c (delays.places c (sym (child_kept nodes class x p c put) ∙ k));
  exactly = λ c. r.classes c ∙ exactly c (class == c) refl;
  keys = keys;
}
  where
    put_in : slice_get (slice_set nodes class x) class ≡ Some x
    put_in = get_here nodes class x put.within

    is_of : is_number p x.parent ≡ true
    is_of = ap (is_number p) of ∙ same_test p

    exactly : (c : ℕ) (b : Bool) → (class == c) ≡ b → (if b then x.active && is_late x.opens else is_in c (late_order old))
        ≡ (is_active_child (slice_set nodes class x) p c && is_late (opens_in (slice_get (slice_set nodes class x) c)))
    exactly c true e =
        let same : class ≡ c = grind (arith, nat_tests, e) in
        sym (ap (λ n. is_active_child (slice_set nodes class x) p n && is_late (opens_in (slice_get (slice_set nodes class x) n))) (sym same)
        ∙ ap (λ (o : Option Node). (is_number p (parent_in o) && active_in o) && is_late (opens_in o)) put_in ∙ ap (λ b. (b && x.active) && is_late x.opens) is_of)
    exactly c false e =
        let there = get_other nodes class c x (λ s. grind (arith, nat_tests, e, s)) in
        delays.exactly c ∙ sym (ap (λ (o : Option Node). (is_number p (parent_in o) && active_in o) && is_late (opens_in o)) there)

    keys : (c : ℕ) → is_active_child (slice_set nodes class x) p c ≡ true → key_of (late_keys new) c ≡ opens_in (slice_get (slice_set nodes class x) c)
    keys c = split (λ d. is_active_child (slice_set nodes class x) p d ≡ true → key_of (late_keys new) d ≡ opens_in (slice_get (slice_set nodes class x) d)) class c
        (λ a. r.keyed ∙ sym (ap opens_in put_in))
        (λ n a. let there = get_other nodes class c x n in
        r.others c n ∙ delays.keys c (sym (ap (λ (o : Option Node). is_number p (parent_in o) && active_in o) there) ∙ a) ∙ sym (ap opens_in there))

high_changed : (nodes : List Node) (class : ℕ) (x : Node) (p high : ℕ) → IsPut nodes class x → x.parent ≡ Some p → IsHigh nodes p high
    → IsHigh (slice_set nodes class x) p (max high x.time)
high_changed nodes class x p high put of h = record {
  highest = λ c. split (λ d. is_child_in (slice_set nodes class x) p d ≡ true → time_in (slice_get (slice_set nodes class x) d) ≤ max high x.time) class c
      (λ k. let here = ap time_in (get_here nodes class x put.within) in omega arith)
      (λ n k. let there = ap time_in (get_other nodes class c x n) in
      let low = h.highest c (sym (child_kept nodes class x p c put) ∙ k) in omega arith);
  least = λ other up.
      let low = h.least other (λ c. split (λ d. is_child_in nodes p d ≡ true → time_in (slice_get nodes d) ≤ other) class c
      (λ k. let here = ap time_in (get_here nodes class x put.within) in
      let most = up class (child_kept nodes class x p class put ∙ k) in
      let more = put.later in omega arith)
      (λ n k. let there = ap time_in (get_other nodes class c x n) in
      let most = up c (child_kept nodes class x p c put ∙ k) in omega arith)) in
      let here = ap time_in (get_here nodes class x put.within) in
      let most = up class (ap (λ (o : Option Node). is_number p (parent_in o)) (get_here nodes class x put.within) ∙ ap (is_number p) of ∙ same_test p) in
      omega arith;
}

pub group_changed : (nodes : List Node) (class : ℕ) (x : Node) (p : ℕ) (old new : Group) → IsPut nodes class x → x.parent ≡ Some p
    → GroupHolds nodes p old → IsChanged class x.active x.time x.opens old new → GroupHolds (slice_set nodes class x) p new
group_changed nodes class x p old new put of holds r = record {
  times = ranks_changed time_key nodes class x p old.times new.times put of holds.times r.times;
  moments = delays_changed nodes class x p old.moments new.moments put of holds.moments r.moments;
  high = subst (λ n. IsHigh (slice_set nodes class x) p n) (sym r.high) (high_changed nodes class x p old.high put of holds.high);
}

-- the lists of another class
no_child : (nodes : List Node) (class : ℕ) (x : Node) (p : ℕ) → IsPut nodes class x → (x.parent ≡ Some p → ⊥) → is_child_in nodes p class ≡ true → ⊥
no_child nodes class x p put other k = other (go x.parent (ap (is_number p) put.parent ∙ k))
  where
    go : (o : Option ℕ) → is_number p o ≡ true → o ≡ Some p
    go None e = absurd cc
    go (Some q) e = let same : q ≡ p = grind (arith, nat_tests, e) in ap (λ n. Some n) same

active_kept : (nodes : List Node) (class : ℕ) (x : Node) (p c : ℕ) → IsPut nodes class x → (x.parent ≡ Some p → ⊥)
    → is_active_child (slice_set nodes class x) p c ≡ is_active_child nodes p c
active_kept nodes class x p c put other =
    split (λ d. is_active_child (slice_set nodes class x) p d ≡ is_active_child nodes p d) class c
    (neither (is_child_in nodes p class) (active_in (slice_get (slice_set nodes class x) class)) (active_in (slice_get nodes class))
    (child_kept nodes class x p class put) (no_child nodes class x p put other))
    (λ n. ap (λ (o : Option Node). is_number p (parent_in o) && active_in o) (get_other nodes class c x n))
  where
    neither : (b d e : Bool) → is_child_in (slice_set nodes class x) p class ≡ b → (b ≡ true → ⊥) → (is_child_in (slice_set nodes class x) p class && d) ≡ (b && e)
    neither true d e f n = absurd (n refl)
    neither false d e f n = rw f refl

ranks_kept : (key : Option Node → Option ℕ) (nodes : List Node) (class : ℕ) (x : Node) (p : ℕ) (r : Ranking) → IsPut nodes class x → (x.parent ≡ Some p → ⊥)
    → Ranks nodes p key r → Ranks (slice_set nodes class x) p key r
ranks_kept key nodes class x p r put other ranks = record {
  places = λ c k. ranks.places c (sym (child_kept nodes class x p c put) ∙ k);
  exactly = λ c. ranks.exactly c ∙ sym (active_kept nodes class x p c put other);
  keys = λ c a.
      let was = sym (active_kept nodes class x p c put other) ∙ a in
      ranks.keys c was ∙ sym (ap key (get_other nodes class c x (λ s. no_child nodes class x p put other (child_of c s was))));
}
  where
    front : (a b : Bool) → (a && b) ≡ true → a ≡ true
    front true b e = refl
    front false b e = absurd cc

    child_of : (c : ℕ) → c ≡ class → is_active_child nodes p c ≡ true → is_child_in nodes p class ≡ true
    child_of c s a = ap (λ n. is_child_in nodes p n) (sym s) ∙ front (is_child_in nodes p c) (active_in (slice_get nodes c)) a

delays_kept : (nodes : List Node) (class : ℕ) (x : Node) (p : ℕ) (r : LimitedChildren) → IsPut nodes class x → (x.parent ≡ Some p → ⊥)
    → Delays nodes p r → Delays (slice_set nodes class x) p r
delays_kept nodes class x p r put other delays = record {
  places = λ c k. delays.places c (sym (child_kept nodes class x p c put) ∙ k);
  exactly = λ c. delays.exactly c ∙ same c (is_active_child nodes p c) refl;
  keys = λ c a.
      let was = sym (active_kept nodes class x p c put other) ∙ a in
      delays.keys c was ∙ sym (ap opens_in (get_other nodes class c x (apart c was)));
}
  where
    apart : (c : ℕ) → is_active_child nodes p c ≡ true → c ≡ class → ⊥
    apart c a s = no_child nodes class x p put other
        (ap (λ n. is_child_in nodes p n) (sym s) ∙ (and_true (is_child_in nodes p c) (active_in (slice_get nodes c)) a).0)

    same : (c : ℕ) (b : Bool) → is_active_child nodes p c ≡ b → (is_active_child nodes p c && is_late (opens_in (slice_get nodes c)))
        ≡ (is_active_child (slice_set nodes class x) p c && is_late (opens_in (slice_get (slice_set nodes class x) c)))
    same c true e =
        ap (λ b. b && is_late (opens_in (slice_get nodes c))) (sym (active_kept nodes class x p c put other))
        ∙ ap (λ (o : Option Node). is_active_child (slice_set nodes class x) p c && is_late (opens_in o)) (sym (get_other nodes class c x (apart c e)))
    same c false e =
        ap (λ b. b && is_late (opens_in (slice_get nodes c))) e
        ∙ sym (ap (λ b. b && is_late (opens_in (slice_get (slice_set nodes class x) c))) (active_kept nodes class x p c put other ∙ e))

high_kept : (nodes : List Node) (class : ℕ) (x : Node) (p high : ℕ) → IsPut nodes class x → (x.parent ≡ Some p → ⊥) → IsHigh nodes p high
    → IsHigh (slice_set nodes class x) p high
high_kept nodes class x p high put other h = record {
  highest = λ c k.
      let was = sym (child_kept nodes class x p c put) ∙ k in
      let there = ap time_in (get_other nodes class c x (apart c was)) in
      let low = h.highest c was in omega arith;
  least = λ most up. h.least most (λ c k.
      let there = ap time_in (get_other nodes class c x (apart c k)) in
      let low = up c (child_kept nodes class x p c put ∙ k) in omega arith);
}
  where
    apart : (c : ℕ) → is_child_in nodes p c ≡ true → c ≡ class → ⊥
    apart c k s = no_child nodes class x p put other (ap (λ n. is_child_in nodes p n) (sym s) ∙ k)

pub group_kept : (nodes : List Node) (class : ℕ) (x : Node) (p : ℕ) (g : Group) → IsPut nodes class x → (x.parent ≡ Some p → ⊥)
    → GroupHolds nodes p g → GroupHolds (slice_set nodes class x) p g
group_kept nodes class x p g put other holds = record {
  times = ranks_kept time_key nodes class x p g.times put other holds.times;
  moments = delays_kept nodes class x p g.moments put other holds.moments;
  high = high_kept nodes class x p g.high put other holds.high;
}

-- a class has a place in the lists of its parent, where it stands if it is active
pub may_change : (nodes : List Node) (class p : ℕ) (g : Group) (was : Bool) → parent_in (slice_get nodes class) ≡ Some p → active_in (slice_get nodes class) ≡ was
    → GroupHolds nodes p g → MayChange class was g
may_change nodes class p g was of is holds = record {
  times = record { place = holds.times.places class child; there = holds.times.exactly class ∙ active };
  moments = record {
    place = holds.moments.places class child;
    there = holds.moments.exactly class ∙ keyed (is_active_child nodes p class) refl ∙ ap (λ b. b && is_late (key_of (late_keys g.moments) class)) active;
  };
}
  where
    child : is_child_in nodes p class ≡ true
    child = ap (is_number p) of ∙ same_test p

    active : is_active_child nodes p class ≡ was
    active = ap (λ b. b && active_in (slice_get nodes class)) child ∙ is

    keyed : (b : Bool) → is_active_child nodes p class ≡ b → (is_active_child nodes p class && is_late (opens_in (slice_get nodes class)))
        ≡ (is_active_child nodes p class && is_late (key_of (late_keys g.moments) class))
    keyed true e = ap (λ (k : Option ℕ). is_active_child nodes p class && is_late k) (sym (holds.moments.keys class e))
    keyed false e =
        ap (λ b. b && is_late (opens_in (slice_get nodes class))) e ∙ sym (ap (λ b. b && is_late (key_of (late_keys g.moments) class)) e)

-- the parents stand first, and no limit knows of a later arrival
pub parents_put : (nodes : List Node) (class : ℕ) (x : Node) → IsPut nodes class x → AreParentsFirst nodes → AreParentsFirst (slice_set nodes class x)
parents_put nodes class x put first = λ c p e. first c p (sym (parents_kept nodes class x put c) ∙ e)

pub limits_put : (woken : ℕ) (nodes : List Node) (class : ℕ) (x : Node) → IsPut nodes class x → IsBy woken x.limit → AreLimitsBy woken nodes → AreLimitsBy woken (slice_set nodes class x)
limits_put woken nodes class x put by limits = λ c.
    split (λ d. (y : Node) → slice_get (slice_set nodes class x) d ≡ Some y → IsBy woken y.limit) class c
    (λ y e. subst (λ (z : Node). IsBy woken z.limit) (same_node x y (sym (get_here nodes class x put.within) ∙ e)) by)
    (λ n y e. limits c y (sym (get_other nodes class c x n) ∙ e))
  where
    same_node : (a b : Node) → Some a ≡ Some b → a ≡ b
    same_node a b e = cc

-- all groups, where the class has a parent, and where it has none
pub held_below : (nodes : List Node) (groups : List Group) (class : ℕ) (x : Node) (p : ℕ) (old new : Group) → IsPut nodes class x → x.parent ≡ Some p
    → p < length groups → slice_get groups p ≡ Some old → GroupsHold nodes groups → IsChanged class x.active x.time x.opens old new
    → GroupsHold (slice_set nodes class x) (slice_set groups p new)
held_below nodes groups class x p old new put of low at holds r = record {
  count = length-set groups p new ∙ holds.count ∙ sym (length-set nodes class x);
  each = λ q. split (λ m. (g : Group) → slice_get (slice_set groups p new) m ≡ Some g → GroupHolds (slice_set nodes class x) m g) p q
      (λ g e. subst (λ (y : Group). GroupHolds (slice_set nodes class x) p y) (some_same new g (sym (get_here groups p new low) ∙ e))
      (group_changed nodes class x p old new put of (holds.each p old at) r))
      (λ n g e. group_kept nodes class x q g put (λ f. n (sym (number_same p q (sym of ∙ f)))) (holds.each q g (sym (get_other groups p q new n) ∙ e)));
}
  where
    some_same : (a b : Group) → Some a ≡ Some b → a ≡ b
    some_same a b e = cc

    number_same : (a b : ℕ) → Some a ≡ Some b → a ≡ b
    number_same a b e = cc

pub held_alone : (nodes : List Node) (groups : List Group) (class : ℕ) (x : Node) → IsPut nodes class x → x.parent ≡ None
    → GroupsHold nodes groups → GroupsHold (slice_set nodes class x) groups
held_alone nodes groups class x put of holds = record {
  count = holds.count ∙ sym (length-set nodes class x);
  each = λ p g e. group_kept nodes class x p g put (λ f. let no : None ≡ Some p = sym of ∙ f in absurd cc) (holds.each p g e);
}

pub is_changed : (class : ℕ) (is : Bool) (time : ℕ) (opens : Option ℕ) (x : Node) (old new : Group) → is ≡ x.active → time ≡ x.time → opens ≡ x.opens
    → IsChanged class is time opens old new → IsChanged class x.active x.time x.opens old new
is_changed class is time opens x old new e f g r =
    subst (λ (b : Bool). IsChanged class b x.time x.opens old new) e
    (subst (λ (n : ℕ). IsChanged class is n x.opens old new) f (subst (λ (o : Option ℕ). IsChanged class is time o old new) g r))

-- a parent has a group
pub parent_within : (nodes : List Node) (groups : List Group) (class p : ℕ) → class < length nodes → AreParentsFirst nodes → GroupsHold nodes groups
    → parent_in (slice_get nodes class) ≡ Some p → p < length groups
parent_within nodes groups class p low first holds of =
    let one = first class p of in
    let count = holds.count in
    omega arith

-- all groups, where a class was put anew into the lists of its parent
pub held_ranked : (nodes : List Node) (groups new : List Group) (class : ℕ) (x : Node) → IsPut nodes class x → AreParentsFirst nodes
    → GroupsHold nodes groups → AreRanked class x groups new → GroupsHold (slice_set nodes class x) new
held_ranked nodes groups new class x put first holds r = go x.parent refl
  where
    go : (o : Option ℕ) → x.parent ≡ o → GroupsHold (slice_set nodes class x) new
    go None e = subst (λ (gs : List Group). GroupsHold (slice_set nodes class x) gs) (sym (r.none e)) (held_alone nodes groups class x put e holds)
    go (Some p) e =
        let s = r.some p e in
        subst (λ (gs : List Group). GroupsHold (slice_set nodes class x) gs) (sym s.set)
        (held_below nodes groups class x p s.old s.changed put e (parent_within nodes groups class p put.within first holds (sym put.parent ∙ e)) s.at holds s.change)
