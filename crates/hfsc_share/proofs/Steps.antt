-- Each class of a walk, its beginning and its end.
use Rattle.std.proofs.Common.{◌≡◌, ◌≤◌, ◌<◌, ℕ, Bool, true, false, List, [], ◌∷◌, None, Some, length, ◌++◌, get_or, refl, ap, sym, subst, arith, ◌∙◌}
use Rattle.std.specs.Prelude.{Option, ◌==◌, ◌&&◌, ◌||◌, nat_lt, not, slice_get, slice_set, if◌then◌else◌}
use Rattle.std.proofs.lemmas.Bool.Decides.{nat_tests}
use Rattle.std.proofs.lemmas.List.{length-set}
use Rattle.play_base.specs.Units.{units}
use Rattle.runtime_curve.specs.declared.Opening.{Opening}
use Rattle.runtime_curve.specs.Opening.{opening}
use Rattle.runtime_curve.specs.Deadline.{later_of}
use Rattle.ranking.specs.Order.{is_in}
use Rattle.ranking.specs.Ranking.{order_of}
use Rattle.ranking.proofs.Ranks.{same_test}
use Rattle.hfsc_model.specs.declared.HfscClass.{HfscClass}
use Rattle.hfsc_model.specs.Event.{HfscHistory, Enqueued, Sent}
use Rattle.hfsc_model.specs.Leaf.{Waiting, leaf, is_waiting, after_kept}
use Rattle.hfsc_model.specs.RealTime.{IsOpenBy}
use Rattle.hfsc_model.specs.Tree.{class_of, is_child, is_leaf, is_number, is_parent, is_under}
use Rattle.hfsc_model.specs.Share.{active, activates, activation_time, activations, has_parent, total}
use Rattle.hfsc_model.specs.Limit.{arrivals_of}
use Rattle.hfsc_laws.proofs.Tree.{and_true, true_and, any_is, under_self, parent_of}
use Rattle.hfsc_groups.specs.declared.node.Node.{Node}
use Rattle.hfsc_groups.specs.declared.group.Group.{Group}
use Rattle.hfsc_groups.specs.Curves.{IsBy, limit_opens}
use Rattle.hfsc_groups.specs.Classes.{AreClasses, AreSmall, waits_in}
use Rattle.hfsc_groups.specs.Node.{active_in, is_child_in, parent_in, AreParentsFirst, IsActivated, IsAwake, IsReopened, IsServed, NodeStands, OpensAt}
use Rattle.hfsc_groups.specs.Group.{GroupsHold, first_moment, ranked_in}
use Rattle.hfsc_groups.proofs.Places.{get_here, get_other, get_read}
use Rattle.hfsc_groups.proofs.Held.{split}
use Rattle.hfsc_groups.proofs.Moments.{open_later}
use Rattle.hfsc_groups.proofs.Opening.{active_is, is_active, is_waits, leaf_alone, waits_is}
use Rattle.hfsc_groups.proofs.Found.{IsGroup, class_is, group_of, limit_is, missing}
use Rattle.hfsc_groups.proofs.Children.{opens_at}
use Rattle.hfsc_share.specs.declared.Shares.{Shares}
use Rattle.hfsc_share.specs.Walk.{has_ranked, has_some, moment_of, start_below, start_of, IsLeafThat, IsOnWay, IsStep, Walks}
use Rattle.hfsc_share.specs.Shares.{Represents, IsLeafAt, IsSameBut, classes_of, is_active_at, last_wake}
use Rattle.hfsc_share.proofs.Off.{AllOff, Off, below_stands, kept_off, off_stands, sent_off}
use Rattle.hfsc_share.proofs.Waking.{NodeHas, reopened_stands, stands_has, start_taken, woken_active, woken_child, woken_root}
use Rattle.hfsc_share.proofs.Serving.{served_active, served_has}
use Rattle.hfsc_share.proofs.Walking.{walked, walks_children, walks_siblings}

-- a class of a walk: the classes and groups as they are before it, its number, and its node before the event, after it,
-- and opened anew
pub record Taking : Type 0 where
  pub nodes : List Node
  pub groups : List Group
  pub class : ℕ
  pub before : Node
  pub after : Node
  pub opened : Node

-- what holds whatever the event is
pub record IsTaking (last : ℕ) (t : Taking) : Type 0 where
  pub holds : GroupsHold t.nodes t.groups
  pub within : t.class < length t.nodes
  pub at : slice_get t.nodes t.class ≡ Some t.before
  pub reopened : IsReopened last (moment_of (slice_get t.groups t.class)) t.after t.opened

-- one class is taken in, whose node has what it has after the event
pub taken : (cs : List HfscClass) (h g : HfscHistory) (last leaf : ℕ) (t : Taking) (next : Option ℕ) → IsTaking last t → Walks cs h g last leaf (Some t.class) t.nodes
    → NodeHas cs g t.class t.after → next ≡ t.before.parent → Walks cs h g last leaf next (slice_set t.nodes t.class t.opened)
taken cs h g last leaf t next s w has n =
    walked cs h g last leaf t.class t.nodes t.opened next w s.within
    (reopened_stands cs g last t.class (moment_of (slice_get t.groups t.class)) t.after t.opened has s.reopened opens)
    (sym (w.before t.class t.before s.at (under_self cs t.class)).parent ∙ sym n)
  where
    c : ℕ
    c = t.class

    group : IsGroup t.groups c
    group = group_of t.groups c (let count = s.holds.count in let low = s.within in omega arith)

    opens : active cs g c ≡ true → OpensAt cs g last c (later_of (limit_opens (class_of cs c).limit (arrivals_of cs g c) (total cs g c)) (moment_of (slice_get t.groups c)))
    opens a =
        subst (λ (o : Option Group). OpensAt cs g last c (later_of (limit_opens (class_of cs c).limit (arrivals_of cs g c) (total cs g c)) (moment_of o))) (sym group.at)
        (opens_at cs g last c t.nodes group.group w.classes.tree (limit_is cs c w.classes) (w.arrivals c)
        (walks_children cs h g last leaf c t.nodes w) (s.holds.each c group.group group.at) a)

-- a packet is kept
pub record IsWakeOf (last : ℕ) (t : Taking) : Type 0 where
  pub taking : IsTaking last t
  pub awake : IsAwake last (start_below t.nodes t.groups t.before.parent) t.before t.after

wake_has : (cs : List HfscClass) (h : HfscHistory) (last leaf len : ℕ) (t : Taking) → IsLeafThat cs h leaf false
    → Walks cs h (Enqueued leaf last len ∷ h) last leaf (Some t.class) t.nodes → IsWakeOf last t → NodeHas cs (Enqueued leaf last len ∷ h) t.class t.after
wake_has cs h last leaf len t l w s = go x.active refl
  where
    c : ℕ
    c = t.class

    x : Node
    x = t.before

    y : Node
    y = t.after

    has : NodeHas cs h c x
    has = stands_has cs h last c x (w.before c x s.taking.at (under_self cs c))

    under : is_under cs c leaf ≡ true
    under = w.on_path c refl

    parent : (o : Option ℕ) → (class_of cs c).parent ≡ o → IsActivated last (start_below t.nodes t.groups o) x y → x.active ≡ false → NodeHas cs (Enqueued leaf last len ∷ h) c y
    parent None of r a = woken_root cs h leaf last len c x y l.leaf_is under has a of r
    parent (Some p) of r a =
        let low = w.classes.tree.earlier c p of in
        let group = group_of t.groups p (let count = s.taking.holds.count in let low2 = s.taking.within in omega arith) in
        let holds = s.taking.holds.each p group.group group.at in
        woken_child cs h leaf last len c p (start_among_of group.group) x y l.leaf_is under w.small has a of
        (start_taken cs h last c p t.nodes group.group of (walks_siblings cs h (Enqueued leaf last len ∷ h) last leaf c p t.nodes w (λ d e. kept_off cs h leaf last len d e) of) holds.times holds.high)
        (subst (λ (o : Option Group). IsActivated last (start_of t.nodes o) x y) group.at r)
      where
        start_among_of : Group → ℕ
        start_among_of g = start_of t.nodes (Some g)

    go : (b : Bool) → x.active ≡ b → NodeHas cs (Enqueued leaf last len ∷ h) c y
    go true a = subst (λ (n : Node). NodeHas cs (Enqueued leaf last len ∷ h) c n) (sym (s.awake.same a)) (woken_active cs h leaf last len c x l.leaf_is under has a)
    go false a =
        parent (class_of cs c).parent refl
        (subst (λ (o : Option ℕ). IsActivated last (start_below t.nodes t.groups o) x y) has.parent (s.awake.begun a)) a

pub wake_step : (cs : List HfscClass) (h : HfscHistory) (last leaf len : ℕ) (t : Taking) (next : Option ℕ) → IsLeafThat cs h leaf false
    → Walks cs h (Enqueued leaf last len ∷ h) last leaf (Some t.class) t.nodes → IsWakeOf last t → next ≡ t.before.parent
    → Walks cs h (Enqueued leaf last len ∷ h) last leaf next (slice_set t.nodes t.class t.opened)
wake_step cs h last leaf len t next l w s n = taken cs h (Enqueued leaf last len ∷ h) last leaf t next s.taking w (wake_has cs h last leaf len t l w s) n

-- a packet is sent
pub record IsServiceOf (last amount : ℕ) (waits : Bool) (t : Taking) : Type 0 where
  pub taking : IsTaking last t
  pub served : IsServed amount (waits || has_ranked (slice_get t.groups t.class)) t.before t.after

pub serve_step : (cs : List HfscClass) (h : HfscHistory) (last leaf len : ℕ) (real : Bool) (start : ℕ) (waits : Bool) (t : Taking) (next : Option ℕ)
    → IsLeafThat cs h leaf true → waits ≡ ((leaf == t.class) && waits_in (Sent leaf len real start ∷ h) leaf)
    → Walks cs h (Sent leaf len real start ∷ h) last leaf (Some t.class) t.nodes → IsServiceOf last (units len) waits t → next ≡ t.before.parent
    → Walks cs h (Sent leaf len real start ∷ h) last leaf next (slice_set t.nodes t.class t.opened)
serve_step cs h last leaf len real start waits t next l f w s n = taken cs h (Sent leaf len real start ∷ h) last leaf t next s.taking w has n
  where
    c : ℕ
    c = t.class

    groups : List Group
    groups = t.groups

    stands : NodeStands cs h last c t.before
    stands = w.before c t.before s.taking.at (under_self cs c)

    under : is_under cs c leaf ≡ true
    under = w.on_path c refl

    was : t.before.active ≡ true
    was =
        let a = active_is cs h leaf l.waits_is in
        let v = waits_is cs h leaf a.one a.waits in
        let same = leaf_alone cs leaf a.one w.classes.tree l.leaf_is v.under in
        sym stands.active ∙ is_active cs h c leaf (is_waits cs h c leaf l.leaf_is under (subst (λ m. waits_in h m ≡ true) same v.waiting))

    group : IsGroup groups c
    group = group_of groups c (let count = s.taking.holds.count in let low = s.taking.within in omega arith)

    now : active cs (Sent leaf len real start ∷ h) c ≡ (waits || has_ranked (slice_get groups c))
    now =
        served_active cs (Sent leaf len real start ∷ h) last leaf c t.nodes group.group w.classes.tree l.leaf_is under
        (walks_children cs h (Sent leaf len real start ∷ h) last leaf c t.nodes w) (s.taking.holds.each c group.group group.at).times
        ∙ ap (λ b. b || has_some (ranked_in group.group)) (sym f)
        ∙ ap (λ (o : Option Group). waits || has_ranked o) (sym group.at)

    has : NodeHas cs (Sent leaf len real start ∷ h) c t.after
    has =
        served_has cs h leaf len real start c (waits || has_ranked (slice_get groups c)) t.before t.after (class_is cs c w.classes) under w.small
        (stands_has cs h last c t.before stands) was s.served now

-- by value: one class after another
pub stepped : (nodes new : List Node) (class : ℕ) (z : Node) → class < length nodes → z.parent ≡ parent_in (slice_get nodes class) → new ≡ slice_set nodes class z → IsStep class nodes new
stepped nodes new class z low of set = record {
  count = ap (λ (xs : List Node). length xs) set ∙ length-set nodes class z;
  parents = λ c. ap (λ (xs : List Node). parent_in (slice_get xs c)) set
      ∙ split (λ d. parent_in (slice_get (slice_set nodes class z) d) ≡ parent_in (slice_get nodes d)) class c
      (ap parent_in (get_here nodes class z low) ∙ of) (λ n. ap parent_in (get_other nodes class c z n));
  others = λ c n. ap (λ (xs : List Node). active_in (slice_get xs c)) set ∙ ap active_in (get_other nodes class c z n);
}

pub set_active : (nodes new : List Node) (class : ℕ) (z : Node) (b : Bool) → class < length nodes → new ≡ slice_set nodes class z → z.active ≡ b → active_in (slice_get new class) ≡ b
set_active nodes new class z b low set e = ap (λ (xs : List Node). active_in (slice_get xs class)) set ∙ ap active_in (get_here nodes class z low) ∙ e

pub on_first : (leaf : ℕ) (b : Bool) (next : Option ℕ) (old new : List Node) → leaf < length old → AreParentsFirst old → IsStep leaf old new → active_in (slice_get new leaf) ≡ b
    → ((p : ℕ) → next ≡ Some p → parent_in (slice_get old leaf) ≡ Some p) → IsOnWay leaf b next old new
on_first leaf b next old new low first s a n = record {
  count = s.count;
  parents = s.parents;
  others = λ c l m. s.others c m;
  here = a;
  low = λ c e. let up = first leaf c (n c e) in let same = s.count in omega arith;
  inner = λ c e l. l leaf (n c e);
}

pub on_next : (leaf class : ℕ) (b : Bool) (next : Option ℕ) (old mid new : List Node) → IsOnWay leaf b (Some class) old mid → ((d : ℕ) → parent_in (slice_get old d) ≡ Some leaf → ⊥)
    → AreParentsFirst mid → IsStep class mid new → ((p : ℕ) → next ≡ Some p → parent_in (slice_get mid class) ≡ Some p) → IsOnWay leaf b next old new
on_next leaf class b next old mid new w l first s n = record {
  count = s.count ∙ w.count;
  parents = λ c. s.parents c ∙ w.parents c;
  others = λ c k m. s.others c (λ e. w.inner class refl (λ d f. k d (f ∙ ap (λ i. Some i) (sym e)))) ∙ w.others c k m;
  here = s.others leaf (λ e. w.inner class refl (λ d f. l d (f ∙ ap (λ i. Some i) (sym e)))) ∙ w.here;
  low = λ c e. let up = first class c (n c e) in let mid_low = w.low class refl in let same = s.count in omega arith;
  inner = λ c e k. k class (sym (w.parents class) ∙ n c e);
}

-- a leaf has no active child
pub none_ranked : (nodes : List Node) (groups : List Group) (c : ℕ) → GroupsHold nodes groups → ((d : ℕ) → parent_in (slice_get nodes d) ≡ Some c → ⊥) → has_ranked (slice_get groups c) ≡ false
none_ranked nodes groups c holds l = go (slice_get groups c) refl
  where
    empty : (g : Group) → slice_get groups c ≡ Some g → (xs : List ℕ) → order_of g.times ≡ xs → has_some xs ≡ false
    empty g e [] f = refl
    empty g e (d ∷ ds) f =
        let i : is_in d (order_of g.times) ≡ true = ap (λ (ys : List ℕ). is_in d ys) f ∙ (let one : is_in d (d ∷ ds) ≡ true = rw (same_test d) refl in one) in
        let a = sym ((holds.each c g e).times.exactly d) ∙ i in
        absurd (l d (number (parent_in (slice_get nodes d)) refl (and_true (is_child_in nodes c d) (active_in (slice_get nodes d)) a).0))
      where
        number : (o : Option ℕ) → parent_in (slice_get nodes d) ≡ o → is_number c o ≡ true → parent_in (slice_get nodes d) ≡ Some c
        number None p q = absurd cc
        number (Some m) p q = p ∙ ap (λ n. Some n) (grind (arith, nat_tests, q))

    go : (o : Option Group) → slice_get groups c ≡ o → has_ranked o ≡ false
    go None e = refl
    go (Some g) e = empty g e (order_of g.times) refl

-- a walk begins at a leaf
at_begin : (cs : List HfscClass) (h g : HfscHistory) (last leaf : ℕ) (nodes : List Node) → AreClasses cs → length nodes ≡ length cs → AreSmall cs g
    → ((c : ℕ) → IsOpenBy (arrivals_of cs g c) last) → ((c : ℕ) (x : Node) → slice_get nodes c ≡ Some x → NodeStands cs h last c x) → AllOff cs h g leaf
    → Walks cs h g last leaf (Some leaf) nodes
at_begin cs h g last leaf nodes classes count small arrivals each off = record {
  classes = classes;
  count = count;
  small = small;
  arrivals = arrivals;
  on_path = λ c e. subst (λ m. is_under cs m leaf ≡ true) (number leaf c e) (under_self cs leaf);
  before = λ c x at u. each c x at;
  after = λ c x at u. off_stands cs h g last leaf c x classes.tree off u (each c x at);
}
  where
    number : (a b : ℕ) → Some a ≡ Some b → a ≡ b
    number a b e = cc

-- a leaf by value is a leaf
leaf_is : (s : Shares) (cs : List HfscClass) (h : HfscHistory) (leaf : ℕ) → Represents s cs h → leaf < classes_of s → IsLeafAt s leaf → is_leaf cs leaf ≡ true
leaf_is s cs h leaf stands low l =
    true_and (nat_lt leaf (length cs)) (not (is_parent cs leaf)) (let count = stands.count in grind (arith, nat_tests, low, count)) (ap not (go (is_parent cs leaf) refl))
  where
    child : (d : ℕ) → d < length cs → is_child cs leaf d ≡ true → ⊥
    child d k e = node (slice_get s.nodes.items d) refl
      where
        node : (o : Option Node) → slice_get s.nodes.items d ≡ o → ⊥
        node None f = missing s.nodes.items d (let count = stands.count in omega arith) f
        node (Some x) f = l d (ap parent_in f ∙ (stands.each d x f).parent ∙ parent_of cs leaf d e)

    go : (b : Bool) → is_parent cs leaf ≡ b → b ≡ false
    go true e = let x = any_is (is_child cs leaf) 0 (length cs) e in absurd (child x.one (let to = x.to in omega arith) x.passes)
    go false e = refl

active_at : (s : Shares) (cs : List HfscClass) (h : HfscHistory) (c : ℕ) (b : Bool) → Represents s cs h → c < classes_of s → is_active_at s c ≡ b → active cs h c ≡ b
active_at s cs h c b stands low e = go (slice_get s.nodes.items c) refl
  where
    go : (o : Option Node) → slice_get s.nodes.items c ≡ o → active cs h c ≡ b
    go None f = absurd (missing s.nodes.items c low f)
    go (Some x) f = (stands.each c x f).active ∙ sym (ap active_in f) ∙ e

pub leaf_that : (s : Shares) (cs : List HfscClass) (h : HfscHistory) (leaf : ℕ) (b : Bool) → Represents s cs h → leaf < classes_of s → IsLeafAt s leaf → is_active_at s leaf ≡ b
    → IsLeafThat cs h leaf b
leaf_that s cs h leaf b stands low l a = record { leaf_is = leaf_is s cs h leaf stands low l; waits_is = active_at s cs h leaf b stands low a }

later_last : (cs : List HfscClass) (h : HfscHistory) (was last c : ℕ) (x : Node) → was ≤ last → NodeStands cs h was c x → NodeStands cs h last c x
later_last cs h was last c x k s = record {
  parent = s.parent;
  share = s.share;
  limit = s.limit;
  total = s.total;
  active = s.active;
  time = s.time;
  opens = λ a. let o = s.opens a in record { some = o.some; from = λ now later. o.from now (omega arith) };
}

pub wake_begins : (s : Shares) (cs : List HfscClass) (h : HfscHistory) (leaf at len : ℕ) → Represents s cs h → last_wake s ≤ at → AreSmall cs (Enqueued leaf at len ∷ h)
    → Walks cs h (Enqueued leaf at len ∷ h) at leaf (Some leaf) s.nodes.items
wake_begins s cs h leaf at len stands later small =
    at_begin cs h (Enqueued leaf at len ∷ h) at leaf s.nodes.items stands.classes stands.count small arrivals
    (λ c x e. later_last cs h s.woken at c x later (stands.each c x e)) (λ c e. kept_off cs h leaf at len c e)
  where
    arrivals : (c : ℕ) → IsOpenBy (arrivals_of cs (Enqueued leaf at len ∷ h) c) at
    arrivals c = go (activates cs h leaf c)
      where
        rest : IsOpenBy (arrivals_of cs h c) at
        rest = open_later (arrivals_of cs h c) s.woken at (stands.arrivals c) later

        go : (b : Bool) → IsOpenBy (if b then opening at (total cs h c) ∷ arrivals_of cs h c else arrivals_of cs h c) at
        go true = (omega arith, rest)
        go false = rest

pub service_begins : (s : Shares) (cs : List HfscClass) (h : HfscHistory) (leaf len : ℕ) (real : Bool) (start : ℕ) → Represents s cs h → AreSmall cs (Sent leaf len real start ∷ h)
    → Walks cs h (Sent leaf len real start ∷ h) (last_wake s) leaf (Some leaf) s.nodes.items
service_begins s cs h leaf len real start stands small =
    at_begin cs h (Sent leaf len real start ∷ h) (last_wake s) leaf s.nodes.items stands.classes stands.count small stands.arrivals stands.each
    (λ c e. sent_off cs h leaf len real start c e)

-- and ends above the root
pub walk_ends : (s : Shares) (cs : List HfscClass) (h g : HfscHistory) (last leaf : ℕ) → Walks cs h g last leaf None s.nodes.items → last_wake s ≡ last → Represents s cs g
walk_ends s cs h g last leaf w e = record {
  classes = w.classes;
  count = w.count;
  each = λ c x at. subst (λ n. NodeStands cs g n c x) (sym e) (w.after c x at refl);
  arrivals = λ c. subst (λ n. IsOpenBy (arrivals_of cs g c) n) (sym e) (w.arrivals c);
}

pub way_ends : (leaf : ℕ) (b : Bool) (old new : Shares) → IsOnWay leaf b None old.nodes.items new.nodes.items → IsSameBut leaf old new
way_ends leaf b old new w = record { classes = w.count; parents = w.parents; others = λ c l n. w.others c l n }

waits_push : (ws : List Waiting) (w : Waiting) → is_waiting (ws ++ w ∷ []) ≡ true
waits_push [] w = refl
waits_push (x ∷ xs) w = refl

-- a packet kept where another waits changes nothing
pub kept_more : (s : Shares) (cs : List HfscClass) (h : HfscHistory) (class at len : ℕ) → Represents s cs h → waits_in h class ≡ true → Represents s cs (Enqueued class at len ∷ h)
kept_more s cs h class at len stands waits = record {
  classes = stands.classes;
  count = stands.count;
  each = λ c x e. below_stands cs h (Enqueued class at len ∷ h) s.woken c x (λ y u. off y) (stands.each c x e);
  arrivals = λ c. subst (λ (os : List Opening). IsOpenBy os s.woken) (sym (off c).arrivals) (stands.arrivals c);
}
  where
    idle : (c : ℕ) → activates cs h class c ≡ false
    idle c = go (is_leaf cs class) (is_under cs c class) refl refl
      where
        go : (a b : Bool) → is_leaf cs class ≡ a → is_under cs c class ≡ b → (a && (b && not (active cs h c))) ≡ false
        go false b e f = refl
        go true false e f = refl
        go true true e f = ap not (is_active cs h c class (is_waits cs h c class e f waits))

    off : (c : ℕ) → Off cs h (Enqueued class at len ∷ h) c
    off c = record {
      acts = ap (λ b. if b then opening (activation_time cs h (activations cs h) c) (total cs h c) ∷ activations cs h c else activations cs h c)
          (none (has_parent cs c) (activates cs h class c) (idle c));
      arrivals = ap (λ b. if b then opening at (total cs h c) ∷ arrivals_of cs h c else arrivals_of cs h c) (idle c);
      units = refl;
      waiting = go (class == c) refl;
    }
      where
        none : (a b : Bool) → b ≡ false → (a && b) ≡ false
        none true b e = e
        none false b e = refl

        go : (b : Bool) → (class == c) ≡ b → is_waiting (if b then after_kept at len (leaf h c) else leaf h c).waiting ≡ is_waiting (leaf h c).waiting
        go true e =
            let same : class ≡ c = grind (arith, nat_tests, e) in
            waits_push (leaf h c).waiting (record { at = at; len = len }) ∙ sym (subst (λ m. is_waiting (leaf h m).waiting ≡ true) same waits)
        go false e = refl

-- a class opens anew over the group that was read
pub reopened_by : (last class : ℕ) (groups : List Group) (g : Group) (x y : Node) → class < length groups → g ≡ get_or groups class g
    → IsReopened last (first_moment g) x y → IsReopened last (moment_of (slice_get groups class)) x y
reopened_by last class groups g x y low e r = subst (λ (o : Option ℕ). IsReopened last o x y) (sym (ap moment_of (get_read groups class g low e))) r

-- each class has a group
pub has_group : (nodes : List Node) (groups : List Group) (class : ℕ) → GroupsHold nodes groups → class < length nodes → class < length groups
has_group nodes groups class holds low = let count = holds.count in omega (arith, count, low)

pub awake_by : (at start other : ℕ) (x y : Node) → (x.active ≡ false → start ≡ other) → IsAwake at start x y → IsAwake at other x y
awake_by at start other x y e a = record {
  parent = a.parent;
  later = a.later;
  by = a.by;
  active = a.active;
  same = a.same;
  begun = λ f. subst (λ n. IsActivated at n x y) (e f) (a.begun f);
}

-- an active class is awake as it is
pub active_awake : (at start : ℕ) (x : Node) → x.active ≡ true → IsBy at x.limit → IsAwake at start x x
active_awake at start x a by = record {
  parent = refl;
  later = omega arith;
  by = by;
  active = a;
  same = λ f. refl;
  begun = λ f. absurd cc;
}

pub served_by : (amount other : ℕ) (b d : Bool) (x y : Node) → amount ≡ other → b ≡ d → IsServed amount b x y → IsServed other d x y
served_by amount other b d x y e f r = subst (λ n. IsServed n d x y) e (subst (λ (a : Bool). IsServed amount a x y) f r)

-- a class of the way that is no leaf is not the leaf
pub not_here : (leaf class : ℕ) (waits b : Bool) (old new : List Node) → IsOnWay leaf b (Some class) old new → ((d : ℕ) → parent_in (slice_get old d) ≡ Some leaf → ⊥)
    → false ≡ ((leaf == class) && waits)
not_here leaf class waits b old new w l = go (leaf == class) refl
  where
    go : (v : Bool) → (leaf == class) ≡ v → false ≡ (v && waits)
    go true e =
        let same : leaf ≡ class = grind (arith, nat_tests, e) in
        absurd (w.inner class refl (λ d f. l d (f ∙ ap (λ n. Some n) (sym same))))
    go false e = refl
