-- A class that was active and opens as before: all above it is as it was, so a walk from a packet that was kept ends there.
use Rattle.std.proofs.Common.{◌≡◌, ◌≤◌, ◌⊎◌, inl, inr, ℕ, Bool, true, false, List, ◌∷◌, None, Some, refl, ap, sym, subst, arith, ◌∙◌}
use Rattle.std.specs.Prelude.{Option, ◌==◌, ◌&&◌, not, slice_get, slice_set, if◌then◌else◌}
use Rattle.std.proofs.lemmas.Bool.Decides.{nat_tests}
use Rattle.runtime_curve.specs.declared.Opening.{Opening}
use Rattle.runtime_curve.specs.Opening.{opening}
use Rattle.hfsc_model.specs.declared.HfscClass.{HfscClass}
use Rattle.hfsc_model.specs.Event.{HfscHistory, Enqueued}
use Rattle.hfsc_model.specs.Leaf.{leaf, is_waiting, after_kept}
use Rattle.hfsc_model.specs.RealTime.{has_come}
use Rattle.hfsc_model.specs.Tree.{class_of, is_leaf, is_under}
use Rattle.hfsc_model.specs.Share.{active, activates, total}
use Rattle.hfsc_model.specs.Limit.{arrivals_of, is_within, within}
use Rattle.hfsc_laws.proofs.Tree.{same_truth, under_self}
use Rattle.hfsc_groups.specs.declared.node.Node.{Node}
use Rattle.hfsc_groups.specs.Classes.{AreClasses, opens_under}
use Rattle.hfsc_groups.specs.Node.{NodeStands, active_in, opens_in}
use Rattle.hfsc_groups.proofs.Under.{under_low, under_trans, in_line, parent_over}
use Rattle.hfsc_groups.proofs.Opening.{Opens, IsOpened, opens_is, is_opens, Waits, waits_is, is_waits, active_is, is_active}
use Rattle.hfsc_groups.proofs.Places.{get_here}
use Rattle.hfsc_share.specs.Walk.{Walks, is_over, IsLeafThat, IsOpenIn}
use Rattle.hfsc_share.proofs.Waking.{NodeHas, stands_has, woken_active}
use Rattle.hfsc_share.proofs.Steps.{Taking, IsTaking}

-- a walk from a leaf in which a packet was kept, and a class on its way
pub record Way : Type 0 where
  pub classes : List HfscClass
  pub history : HfscHistory
  pub leaf : ℕ
  pub at : ℕ
  pub len : ℕ

abbrev pub longer : Way → HfscHistory
longer w = Enqueued w.leaf w.at w.len ∷ w.history

-- what was active is within its limit as before
within_same : (w : Way) (now y : ℕ) → active w.classes w.history y ≡ true → is_within w.classes (longer w) now y ≡ is_within w.classes w.history now y
within_same w now y a = ap (λ (os : List Opening). within (class_of w.classes y).limit os now (total w.classes w.history y)) arrivals
  where
    nothing : (a b : Bool) → (a && (b && false)) ≡ false
    nothing true true = refl
    nothing true false = refl
    nothing false b = refl

    idle : activates w.classes w.history w.leaf y ≡ false
    idle = ap (λ b. is_leaf w.classes w.leaf && (is_under w.classes y w.leaf && not b)) a ∙ nothing (is_leaf w.classes w.leaf) (is_under w.classes y w.leaf)

    arrivals : arrivals_of w.classes (longer w) y ≡ arrivals_of w.classes w.history y
    arrivals = ap (λ b. if b then opening w.at (total w.classes w.history y) ∷ arrivals_of w.classes w.history y else arrivals_of w.classes w.history y) idle

-- a leaf in which a packet waits makes active what stands over it
active_over : (w : Way) (y d : ℕ) → is_leaf w.classes d ≡ true → is_under w.classes y d ≡ true → is_waiting (leaf w.history d).waiting ≡ true → active w.classes w.history y ≡ true
active_over w y d l u v = is_active w.classes w.history y d (is_waits w.classes w.history y d l u v)

-- another leaf waits as before
other_waits : (w : Way) (d : ℕ) → (d ≡ w.leaf → ⊥) → is_waiting (leaf (longer w) d).waiting ≡ is_waiting (leaf w.history d).waiting
other_waits w d n = go (w.leaf == d) refl
  where
    go : (b : Bool) → (w.leaf == d) ≡ b → is_waiting (if b then after_kept w.at w.len (leaf w.history d) else leaf w.history d).waiting ≡ is_waiting (leaf w.history d).waiting
    go true e = absurd (n (grind (arith, nat_tests, e)))
    go false e = refl

-- from an open leaf of before the path is open
from_before : (w : Way) (now d one : ℕ) → (one ≡ w.leaf → ⊥) → Opens w.classes w.history now d one → opens_under w.classes (longer w) now d ≡ true
from_before w now d one n o =
    let v = waits_is w.classes w.history d one o.waits in
    is_opens w.classes (longer w) now d one (record {
      waits = is_waits w.classes (longer w) d one v.leaf_is v.under (other_waits w one n ∙ v.waiting);
      within = λ y u k. within_same w now y (active_over w y one v.leaf_is u v.waiting) ∙ o.within y u k;
    })

-- from another open leaf it was open before
from_other : (w : Way) (now d one : ℕ) → (one ≡ w.leaf → ⊥) → Opens w.classes (longer w) now d one → opens_under w.classes w.history now d ≡ true
from_other w now d one n o =
    let v = waits_is w.classes (longer w) d one o.waits in
    let waiting = sym (other_waits w one n) ∙ v.waiting in
    is_opens w.classes w.history now d one (record {
      waits = is_waits w.classes w.history d one v.leaf_is v.under waiting;
      within = λ y u k. sym (within_same w now y (active_over w y one v.leaf_is u waiting)) ∙ o.within y u k;
    })

-- a class of the way that was active and opens as before
pub record IsSteady (w : Way) (now c : ℕ) : Type 0 where
  pub classes : AreClasses w.classes
  pub leaf_is : IsLeafThat w.classes w.history w.leaf false
  pub on_path : is_under w.classes c w.leaf ≡ true
  pub active : active w.classes w.history c ≡ true
  pub opens : opens_under w.classes (longer w) now c ≡ opens_under w.classes w.history now c

-- from the leaf itself the path is open where it is from one of before under the class
from_leaf : (w : Way) (now c d : ℕ) → IsSteady w now c → is_under w.classes d c ≡ true → Opens w.classes (longer w) now d w.leaf → opens_under w.classes w.history now d ≡ true
from_leaf w now c d s u o =
    is_opens w.classes w.history now d x.one (record {
      waits = is_waits w.classes w.history d x.one v.leaf_is (under_trans w.classes d c x.one s.classes.tree u v.under) v.waiting;
      within = λ y k l. each y k l (in_line w.classes c y x.one s.classes.tree v.under k);
    })
  where
    here : Opens w.classes (longer w) now c w.leaf
    here =
        let a = waits_is w.classes (longer w) d w.leaf o.waits in
        record {
          waits = is_waits w.classes (longer w) c w.leaf a.leaf_is s.on_path a.waiting;
          within = λ y k l. o.within y k (under_trans w.classes d c y s.classes.tree u l);
        }

    x : IsOpened w.classes w.history now c
    x = opens_is w.classes w.history now c (sym s.opens ∙ is_opens w.classes (longer w) now c w.leaf here)

    v : Waits w.classes w.history c x.one
    v = waits_is w.classes w.history c x.one x.opens.waits

    each : (y : ℕ) → is_under w.classes y x.one ≡ true → is_under w.classes d y ≡ true → (is_under w.classes c y ≡ true) ⊎ (is_under w.classes y c ≡ true)
        → is_within w.classes w.history now y ≡ true
    each y k l (inl m) = x.opens.within y k m
    each y k l (inr m) =
        sym (within_same w now y (active_over w y x.one v.leaf_is k v.waiting)) ∙ o.within y (under_trans w.classes y c w.leaf s.classes.tree m s.on_path) l

-- what was open stays so
open_stays : (w : Way) (now d : ℕ) → IsLeafThat w.classes w.history w.leaf false → opens_under w.classes w.history now d ≡ true → opens_under w.classes (longer w) now d ≡ true
open_stays w now d leaf_is e =
    let x = opens_is w.classes w.history now d e in
    let v = waits_is w.classes w.history d x.one x.opens.waits in
    from_before w now d x.one (λ same. idle x.one v.leaf_is v.waiting same) x.opens
  where
    idle : (one : ℕ) → is_leaf w.classes one ≡ true → is_waiting (leaf w.history one).waiting ≡ true → one ≡ w.leaf → ⊥
    idle one l k same =
        let a : active w.classes w.history one ≡ true = active_over w one one l (under_self w.classes one) k in
        let b : active w.classes w.history w.leaf ≡ true = subst (λ m. active w.classes w.history m ≡ true) same a in
        let no = leaf_is.waits_is in
        cc

-- so what stands over the class opens as before
opens_same : (w : Way) (now c d : ℕ) → IsSteady w now c → is_under w.classes d c ≡ true → opens_under w.classes (longer w) now d ≡ opens_under w.classes w.history now d
opens_same w now c d s u = same_truth (opens_under w.classes (longer w) now d) (opens_under w.classes w.history now d) back there
  where
    there : opens_under w.classes w.history now d ≡ true → opens_under w.classes (longer w) now d ≡ true
    there e = open_stays w now d s.leaf_is e

    back : opens_under w.classes (longer w) now d ≡ true → opens_under w.classes w.history now d ≡ true
    back e = go (x.one == w.leaf) refl
      where
        x : IsOpened w.classes (longer w) now d
        x = opens_is w.classes (longer w) now d e

        go : (b : Bool) → (x.one == w.leaf) ≡ b → opens_under w.classes w.history now d ≡ true
        go true f = from_leaf w now c d s u (subst (λ m. Opens w.classes (longer w) now d m) (grind (arith, nat_tests, f)) x.opens)
        go false f = from_other w now d x.one (λ same. grind (arith, nat_tests, f, same)) x.opens

-- the node of the class stands before and after, and opens from the same moment
pub record IsSettled (w : Way) (last c : ℕ) (x y : Node) : Type 0 where
  pub before : NodeStands w.classes w.history last c x
  pub after : NodeStands w.classes (longer w) last c y
  pub was : x.active ≡ true
  pub is : y.active ≡ true
  pub opens : y.opens ≡ x.opens

steady : (w : Way) (last now c : ℕ) (x y : Node) → AreClasses w.classes → IsLeafThat w.classes w.history w.leaf false → is_under w.classes c w.leaf ≡ true
    → IsSettled w last c x y → last ≤ now → IsSteady w now c
steady w last now c x y classes l u s later = record {
  classes = classes;
  leaf_is = l;
  on_path = u;
  active = s.before.active ∙ s.was;
  opens = (s.after.opens s.is).from now later ∙ ap (λ (o : Option ℕ). has_come o now) s.opens ∙ sym ((s.before.opens s.was).from now later);
}

-- a node above stands for the longer history as well
over_stands : (w : Way) (last c d : ℕ) (x y z : Node) → AreClasses w.classes → IsLeafThat w.classes w.history w.leaf false → is_under w.classes c w.leaf ≡ true
    → IsSettled w last c x y → is_under w.classes d c ≡ true → NodeStands w.classes w.history last d z → NodeStands w.classes (longer w) last d z
over_stands w last c d x y z classes l u s o h = record {
  parent = has.parent;
  share = has.share;
  limit = has.limit;
  total = has.total;
  active = has.active;
  time = has.time;
  opens = λ a. let k = h.opens a in record {
    some = k.some;
    from = λ now later. opens_same w now c d (steady w last now c x y classes l u s later) o ∙ k.from now later;
  };
}
  where
    active_is_true : active w.classes w.history d ≡ true
    active_is_true =
        let a = active_is w.classes w.history c (s.before.active ∙ s.was) in
        let v = waits_is w.classes w.history c a.one a.waits in
        active_over w d a.one v.leaf_is (under_trans w.classes d c a.one classes.tree o v.under) v.waiting

    has : NodeHas w.classes (longer w) d z
    has =
        woken_active w.classes w.history w.leaf w.at w.len d z l.leaf_is (under_trans w.classes d c w.leaf classes.tree o u) (stands_has w.classes w.history last d z h)
        (sym h.active ∙ active_is_true)

-- the walk ends there
pub stopped : (w : Way) (last c : ℕ) (next : Option ℕ) (x y : Node) (nodes : List Node) → Walks w.classes w.history (longer w) last w.leaf next nodes
    → IsLeafThat w.classes w.history w.leaf false → is_under w.classes c w.leaf ≡ true → IsSettled w last c x y
    → (class_of w.classes c).parent ≡ next → Walks w.classes w.history (longer w) last w.leaf None nodes
stopped w last c next x y nodes k l u s of = record {
  classes = k.classes;
  count = k.count;
  small = k.small;
  arrivals = k.arrivals;
  on_path = λ p e. absurd cc;
  before = λ d z at o. absurd cc;
  after = λ d z at o. go d z at (is_over w.classes next d) refl;
}
  where
    over : (o : Option ℕ) → (class_of w.classes c).parent ≡ o → (d : ℕ) → is_over w.classes o d ≡ true → is_under w.classes d c ≡ true
    over None e d v = absurd cc
    over (Some p) e d v = parent_over w.classes d c p k.classes.tree e v

    go : (d : ℕ) (z : Node) → slice_get nodes d ≡ Some z → (b : Bool) → is_over w.classes next d ≡ b → NodeStands w.classes (longer w) last d z
    go d z at true v = over_stands w last c d x y z k.classes l u s (over next of d v) (k.before d z at v)
    go d z at false v = k.after d z at v

-- a class that was taken in and is the same to its parent
pub record IsSameTaking (last : ℕ) (t : Taking) : Type 0 where
  pub taking : IsTaking last t
  pub was : t.before.active ≡ true
  pub is : t.opened.active ≡ true
  pub opens : t.opened.opens ≡ t.before.opens

pub stops : (w : Way) (last : ℕ) (t : Taking) → IsLeafThat w.classes w.history w.leaf false → IsSameTaking last t
    → Walks w.classes w.history (longer w) last w.leaf (Some t.class) t.nodes
    → Walks w.classes w.history (longer w) last w.leaf t.before.parent (slice_set t.nodes t.class t.opened)
    → Walks w.classes w.history (longer w) last w.leaf None (slice_set t.nodes t.class t.opened)
stops w last t l s old new =
    stopped w last t.class t.before.parent t.before t.opened (slice_set t.nodes t.class t.opened) new l (old.on_path t.class refl)
    (record {
      before = stands;
      after = new.after t.class t.opened (get_here t.nodes t.class t.opened s.taking.within) (below t.before.parent (sym stands.parent));
      was = s.was;
      is = s.is;
      opens = s.opens;
    })
    (sym stands.parent)
  where
    stands : NodeStands w.classes w.history last t.class t.before
    stands = old.before t.class t.before s.taking.at (under_self w.classes t.class)

    below : (o : Option ℕ) → (class_of w.classes t.class).parent ≡ o → is_over w.classes o t.class ≡ false
    below None e = refl
    below (Some p) e = go (is_under w.classes t.class p) refl
      where
        go : (b : Bool) → is_under w.classes t.class p ≡ b → b ≡ false
        go true u =
            let low = under_low w.classes t.class p old.classes.tree u in
            let high = old.classes.tree.earlier t.class p e in
            absurd (omega arith)
        go false u = refl

-- a class that was active and open already stands for the longer history as it is
open_settled : (w : Way) (last c : ℕ) (x : Node) → IsLeafThat w.classes w.history w.leaf false → is_under w.classes c w.leaf ≡ true
    → NodeStands w.classes w.history last c x → x.active ≡ true → x.opens ≡ Some 0 → IsSettled w last c x x
open_settled w last c x l u h a o = record {
  before = h;
  after = record {
    parent = has.parent;
    share = has.share;
    limit = has.limit;
    total = has.total;
    active = has.active;
    time = has.time;
    opens = λ b. record {
      some = (h.opens a).some;
      from = λ now later. open_stays w now c l (was now later) ∙ sym (come now);
    };
  };
  was = a;
  is = a;
  opens = refl;
}
  where
    has : NodeHas w.classes (longer w) c x
    has = woken_active w.classes w.history w.leaf w.at w.len c x l.leaf_is u (stands_has w.classes w.history last c x h) a

    come : (now : ℕ) → has_come x.opens now ≡ true
    come now = ap (λ (t : Option ℕ). has_come t now) o ∙ zero_come now
      where
        zero_come : (n : ℕ) → has_come (Some 0) n ≡ true
        zero_come n = grind (arith, nat_tests)

    was : (now : ℕ) → last ≤ now → opens_under w.classes w.history now c ≡ true
    was now later = (h.opens a).from now later ∙ come now

-- so the walk ends at such a class
pub open_ends : (w : Way) (last c : ℕ) (nodes : List Node) → IsOpenIn nodes c → IsLeafThat w.classes w.history w.leaf false
    → Walks w.classes w.history (longer w) last w.leaf (Some c) nodes → Walks w.classes w.history (longer w) last w.leaf None nodes
open_ends w last c nodes is_open l k = go (slice_get nodes c) refl
  where
    go : (o : Option Node) → slice_get nodes c ≡ o → Walks w.classes w.history (longer w) last w.leaf None nodes
    go None e = absurd (let no = sym (ap active_in e) ∙ is_open.active in cc)
    go (Some x) e = record {
      classes = k.classes;
      count = k.count;
      small = k.small;
      arrivals = k.arrivals;
      on_path = λ p f. absurd cc;
      before = λ d z at o. absurd cc;
      after = λ d z at o. each d z at (is_under w.classes d c) refl;
    }
      where
        u : is_under w.classes c w.leaf ≡ true
        u = k.on_path c refl

        settled : IsSettled w last c x x
        settled =
            open_settled w last c x l u (k.before c x e (under_self w.classes c)) (sym (ap active_in e) ∙ is_open.active) (sym (ap opens_in e) ∙ is_open.opens)

        each : (d : ℕ) (z : Node) → slice_get nodes d ≡ Some z → (b : Bool) → is_under w.classes d c ≡ b → NodeStands w.classes (longer w) last d z
        each d z at true v = over_stands w last c d x x z k.classes l u settled v (k.before d z at v)
        each d z at false v = k.after d z at v
