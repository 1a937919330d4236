-- An interface as far as its statements are read keeps to its ranges, its limits and its tree: with another class at a place, with a
-- class more, with a filter more, and with a conditioner more. At the end of the text its classes and its filters are a tree, and so are the implied classes.
use Rattle.std.proofs.Common.{rules, ◌≡◌, ◌≢◌, ℕ, zero, suc, ◌+◌, ◌<◌, ◌≤◌, ◌∙◌, Bool, true, false, ◌||◌, List, [], ◌∷◌, ◌++◌, map, length, Option, Some, None, is_some, is_none, slice_get, slice_set, refl, ap, subst, arith, length-append, cond, not, ◌&&◌, codes, bytes_eq, eqb-true}
use Rattle.std.proofs.lemmas.Bool.{both_ways, or_left, or_right, true_from_ne_false, not-false}
use Rattle.std.proofs.lemmas.List.{map-append, length-set, length-map}
use Rattle.std.proofs.lemmas.Option.{slice_get_within}
use Rattle.service_curve.specs.declared.Curve.{Curve}
use Rattle.service_curve.specs.Curve.{straight}
use Rattle.traffic_meter.specs.declared.rule.MeterRule.{MeterRule}
use Rattle.conf_lines.specs.Options.{most_rate}
use Rattle.conf_tree.specs.declared.class.Class.{Class}
use Rattle.conf_tree.specs.declared.filter.Filter.{Filter}
use Rattle.conf_tree.specs.declared.interface.Kind.{Kind}
use Rattle.conf_tree.specs.declared.interface.Kind.TheVariants.{Hfsc, Cbq}
use Rattle.conf_tree.specs.Tree.{Begun, begun, class_name, class_number, as_parent, as_filtered, as_metered, with_parent, add_class, add_filter, add_conditioner}
use Rattle.conf_tree.specs.Meters.{IsMeter, IsMeterIfAny}
use Rattle.conf_tree.specs.Family.{IsOnLevel, root, below}
use Rattle.conf_tree.specs.declared.interface.Interface.{Interface}
use Rattle.conf_tree.specs.Whole.{implied_hfsc, implied_cbq, implied_classes, is_empty, whole}
use Rattle.conf_laws.specs.Fit.{IsName, IsBetween, IsParent, HasParent, IsOfKind, IsClass, IsTree, IsCurve, IsInterface}
use Rattle.conf_laws.proofs.FitItems.{HasParts, straight_fit}
use Rattle.conf_laws.proofs.ListPlaces.{AtEach, HoldsAt, get_pushed, get_front, push_each, push_holds, set_at, set_each, set_holds, map_set_same, map_on, map_back, AreApart, push_apart, apart_by, map_through, not_among}
use Rattle.conf_laws.proofs.Types.{Branch, Conditioner}

abbrev class_in : Branch → Class
class_in c = c.class

abbrev is_default : Branch → Bool
is_default c = c.class.is_default

-- CLASSES AND FILTERS as far as they are read
-- a class that others name as their parent: in HFSC no filter names it
abbrev IsInner : Kind → Branch → Type 0
IsInner kind c = IsParent kind c.class × (kind ≡ Hfsc → c.filtered ≡ false)

pub record IsBranch (kind : Kind) (c : Branch) : Type 0 where
  pub name : IsName c.class.name
  pub eight : c.level ≤ 8
  pub limit : IsBetween 1 10000 c.class.limit
  pub own : IsOfKind kind c.class
  pub meter : IsMeterIfAny c.class.meter
  pub inner : c.inner ≡ true → IsInner kind c

-- the parent of a class on this level
abbrev IsOver : ℕ → Branch → Type 0
IsOver level q = (q.inner ≡ true) × (level ≡ q.level + 1)

-- the place of a class: the root is the first, each other class stands behind its parent and one level below it
abbrev StandsAt : List Branch → ℕ → ℕ → Option ℕ → Type 0
StandsAt classes k level None = (k ≡ 0) × (level ≡ 1)
StandsAt classes k level (Some p) = (p < k) × HoldsAt (IsOver level) classes p

abbrev IsPlaced : Kind → List Branch → ℕ → Branch → Type 0
IsPlaced kind classes k c = IsBranch kind c × StandsAt classes k c.level c.class.parent

-- a class keeps its place where its parent is one still
stands_by : (classes others : List Branch) (k level : ℕ) (parent : Option ℕ) → ((p : ℕ) → HoldsAt (IsOver level) classes p → HoldsAt (IsOver level) others p)
    → StandsAt classes k level parent → StandsAt others k level parent
stands_by classes others k level None keep h = h
stands_by classes others k level (Some p) keep h = (h.0, keep p h.1)

-- a filter and the class that it names
abbrev IsMatched : List Branch → Filter → Type 0
IsMatched classes f = HoldsAt (λ c. c.filtered ≡ true) classes f.class × HasParts f

-- whether there is a default class, which is the only one
abbrev IsChosen : Bool → List Bool → Type 0
IsChosen true defaults = (n : ℕ) × (slice_get defaults n ≡ Some true) × AtEach (λ k is. is ≡ true → k ≡ n) defaults
IsChosen false defaults = AtEach (λ k is. is ≡ false) defaults

chosen_more : (chosen first : Bool) (defaults : List Bool) → (first ≡ true → chosen ≡ false) → IsChosen chosen defaults
    → IsChosen (chosen || first) (defaults ++ first ∷ [])
chosen_more true true defaults one h = let no = one refl in cc
chosen_more true false defaults one h =
    (h.0, get_front defaults (false ∷ []) h.0 true h.1, push_each (λ k is. is ≡ true → k ≡ h.0) defaults false h.2 (λ e. cc))
chosen_more false true defaults one h =
    let n = length defaults in
    (n, get_pushed defaults true [], push_each (λ k is. is ≡ true → k ≡ n) defaults true (λ k is at yes. cc (h k is at)) (λ e. refl))
chosen_more false false defaults one h = push_each (λ k is. is ≡ false) defaults false h refl

-- an interface so far
pub record IsBegun (b : Begun) : Type 0 where
  pub name : IsName b.name
  pub rate : IsBetween 1000 most_rate b.rate
  pub room : length b.classes ≤ 256
  pub few : length b.filters ≤ 1024
  pub rooted : b.rooted ≡ false → length b.classes ≡ 0
  pub class : AtEach (IsPlaced b.kind b.classes) b.classes
  pub filter : AtEach (λ k f. IsMatched b.classes f) b.filters
  pub names : AreApart (map class_name b.classes)
  pub default : IsChosen b.chosen (map is_default b.classes)

pub begun_fit : (line : ℕ) (name : List ℕ) (rate : ℕ) (kind : Kind) → IsName name → IsBetween 1000 most_rate rate → IsBegun (begun line name rate kind)
begun_fit line name rate kind named within = search (rules, arith)

-- ANOTHER CLASS AT A PLACE: it differs in its real-time curve, in its meter, and in whether a class or a filter names it
abbrev marked : Branch → Option Curve → Option MeterRule → Bool → Bool → Branch
marked c real meter inner filtered = record c { class = record c.class { real = real; meter = meter }; inner = inner; filtered = filtered }

class_changed : (b : Begun) (i : ℕ) (c : Branch) (real : Option Curve) (meter : Option MeterRule) (inner filtered : Bool) → IsBegun b
    → slice_get b.classes i ≡ Some c → (c.inner ≡ true → inner ≡ true) → (c.filtered ≡ true → filtered ≡ true)
    → IsBranch b.kind (marked c real meter inner filtered) → IsBegun (record b { classes = slice_set b.classes i (marked c real meter inner filtered) })
class_changed b i c real meter inner filtered h at keep_inner keep_filtered is =
    let d = marked c real meter inner filtered in
    let classes = slice_set b.classes i d in
    let count : length classes ≡ length b.classes = length-set b.classes i d in
    let stands = λ (k : ℕ) (x : Branch). stands_by b.classes classes k x.level x.class.parent
    (set_holds (IsOver x.level) b.classes i c d at (λ e. (keep_inner e.0, e.1))) in
    record {
      name = h.name;
      rate = h.rate;
      room = rw count h.room;
      few = h.few;
      rooted = rw count h.rooted;
      class = set_each (IsPlaced b.kind classes) b.classes i d
          (λ k x there. let old = h.class k x there in (old.0, stands k x old.1)) (is, stands i c (h.class i c at).1);
      filter = λ k f there. let old = h.filter k f there in (set_holds (λ q. q.filtered ≡ true) b.classes i c d at keep_filtered f.class old.0, old.1);
      names = rw (map_set_same class_name b.classes i c d at refl) h.names;
      default = rw (map_set_same is_default b.classes i c d at refl) h.default;
    }

-- A CLASS MORE
-- where it may stand: it is the root, or below a class that may be a parent
abbrev IsAbove : Kind → ℕ → Branch → Type 0
IsAbove kind level q = (level ≡ q.level + 1) × IsInner kind (as_parent q)

abbrev pub MayStand : Begun → ℕ → Option ℕ → Type 0
MayStand b level None = (b.rooted ≡ false) × (level ≡ 1)
MayStand b level (Some p) = HoldsAt (IsAbove b.kind level) b.classes p

pub record IsNewName (kind : Kind) (b : Begun) (c : Branch) : Type 0 where
  pub branch : IsBranch kind c
  pub new : is_some (class_number c.class.name b.classes) ≡ false
  pub room : length b.classes < 256
  pub stands : MayStand b c.level c.class.parent
  pub is_default : c.class.is_default ≡ true → b.chosen ≡ false

-- a class loses its real-time curve
without_real : (kind : Kind) (c : Class) → IsOfKind kind c → IsOfKind kind (record c { real = None })
without_real Hfsc c h = assumption h
without_real Cbq c h = assumption h

-- the classes in front of it, with its parent
record AreReady (b : Begun) (classes : List Branch) (level : ℕ) (parent : Option ℕ) : Type 0 where
  held : IsBegun (record b { classes = classes })
  count : length classes ≡ length b.classes
  names : map class_name classes ≡ map class_name b.classes
  place : StandsAt classes (length classes) level parent
  rooted : (b.rooted || is_none parent) ≡ true

ready : (b : Begun) (level : ℕ) (parent : Option ℕ) → IsBegun b → MayStand b level parent → AreReady b (with_parent b.classes parent) level parent
ready b level None h s = record { held = h; count = refl; names = refl; place = (h.rooted s.0, s.1); rooted = or_right b.rooted true refl }
ready b level (Some p) h s =
    let q = s.0 in
    let old = (h.class p q s.1).0 in
    let parent : IsBranch b.kind (as_parent q) = search (rules, without_real b.kind q.class old.own, s.2, old) in
    let count = length-set b.classes p (as_parent q) in
    let inside : p < length b.classes = slice_get_within b.classes p q s.1 in
    rw s.1 (record {
      held = class_changed b p q None q.class.meter true q.filtered h s.1 (λ yes. refl) (λ yes. yes) parent;
      count = count;
      names = map_set_same class_name b.classes p q (as_parent q) s.1 refl;
      place = (rw count inside, (as_parent q, set_at b.classes p q (as_parent q) s.1, (refl, s.2.0)));
      rooted = or_left b.rooted false (true_from_ne_false b.rooted (λ free. let none = h.rooted free in omega arith));
    })

pub class_added : (b : Begun) (c : Branch) → IsBegun b → IsNewName b.kind b c → IsBegun (add_class b c)
class_added b c h n =
    let classes = with_parent b.classes c.class.parent in
    let r = ready b c.level c.class.parent h n.stands in
    let held = r.held in
    let stands = λ (k : ℕ) (x : Branch). stands_by classes (classes ++ c ∷ []) k x.level x.class.parent (push_holds (IsOver x.level) classes (c ∷ [])) in
    record {
      name = h.name;
      rate = h.rate;
      room = omega (arith, length-append classes (c ∷ []), r.count, n.room);
      few = h.few;
      rooted = λ free. absurd (both_ways (b.rooted || is_none c.class.parent) free r.rooted);
      class = push_each (IsPlaced b.kind (classes ++ c ∷ [])) classes c
          (λ k x at. let old = held.class k x at in (old.0, stands k x old.1)) (n.branch, stands (length classes) c r.place);
      filter = λ k f at. let old = held.filter k f at in (push_holds (λ q. q.filtered ≡ true) classes (c ∷ []) f.class old.0, old.1);
      names = rw (map-append class_name classes (c ∷ []))
          (push_apart (map class_name classes) c.class.name held.names (rw r.names (not_among class_name c.class.name b.classes n.new)));
      default = rw (map-append is_default classes (c ∷ []))
          (chosen_more b.chosen c.class.is_default (map is_default classes) n.is_default held.default);
    }

-- A FILTER MORE
pub record IsNewFilter (b : Begun) (f : Filter) : Type 0 where
  pub class : Branch
  pub at : slice_get b.classes f.class ≡ Some class
  pub outer : b.kind ≡ Hfsc → class.inner ≡ false
  pub parts : HasParts f
  pub few : length b.filters < 1024

pub filter_added : (b : Begun) (f : Filter) → IsBegun b → IsNewFilter b f → IsBegun (add_filter b f)
filter_added b f h n =
    let q = n.class in
    let old = (h.class f.class q n.at).0 in
    let named : IsBranch b.kind (as_filtered q) = search (rules, n.outer, old) in
    let held = class_changed b f.class q q.class.real q.class.meter q.inner true h n.at (λ yes. yes) (λ yes. refl) named in
    let classes = slice_set b.classes f.class (as_filtered q) in
    let few : length (b.filters ++ f ∷ []) ≤ 1024 = omega (arith, length-append b.filters (f ∷ []), n.few) in
    let matched : AtEach (λ k g. IsMatched classes g) (b.filters ++ f ∷ []) =
    push_each (λ k g. IsMatched classes g) b.filters f held.filter ((as_filtered q, set_at b.classes f.class q (as_filtered q) n.at, refl), n.parts) in
    rw n.at (assumption (few, matched, held))

-- A CONDITIONER MORE
pub record IsNewConditioner (b : Begun) (c : Conditioner) : Type 0 where
  pub class : Branch
  pub at : slice_get b.classes c.class ≡ Some class
  pub outer : b.kind ≡ Hfsc → class.inner ≡ false
  pub rule : IsMeter c.rule

-- a class gets its meter
with_meter : (kind : Kind) (c : Class) (rule : MeterRule) → IsOfKind kind c → IsOfKind kind (record c { meter = Some rule })
with_meter Hfsc c rule h = assumption h
with_meter Cbq c rule h = assumption h

pub conditioner_added : (b : Begun) (c : Conditioner) → IsBegun b → IsNewConditioner b c → IsBegun (add_conditioner b c)
conditioner_added b c h n =
    let q = n.class in
    let old = (h.class c.class q n.at).0 in
    let metered : IsBranch b.kind (as_metered c.rule q) = record {
      name = old.name;
      eight = old.eight;
      limit = old.limit;
      own = with_meter b.kind q.class c.rule old.own;
      meter = n.rule;
      inner = λ yes.
          let is = old.inner yes in
          (record { named = is.0.named; real = is.0.real; inner = is.0.inner; unmetered = λ hfsc. cc (n.outer hfsc, yes) }, is.1);
    } in
    rw n.at (class_changed b c.class q q.class.real (Some c.rule) q.inner q.filtered h n.at (λ yes. yes) (λ yes. yes) metered)

-- THE TREE AT THE END
on_level : (kind : Kind) (classes : List Branch) → AtEach (IsPlaced kind classes) classes → (n k level : ℕ) (c : Branch) (parent : Option ℕ)
    → k < n → slice_get classes k ≡ Some c → c.class.parent ≡ parent → StandsAt classes k level parent → IsOnLevel (map class_in classes) k level
on_level kind classes h zero k level c parent before at e s = absurd (omega arith)
on_level kind classes h (suc n) k level c None before at e s = rw s.1 (root k c.class (map_on class_in classes k c at) e)
on_level kind classes h (suc n) k level c (Some p) before at e s =
    let q = s.1.0 in
    let up = on_level kind classes h n p q.level q q.class.parent (omega arith) s.1.1 refl (h p q s.1.1).1 in
    rw s.1.2.1 (below k p q.level c.class (map_on class_in classes k c at) e up)

has_parent : (kind : Kind) (classes : List Branch) (k level : ℕ) (parent : Option ℕ) → AtEach (IsPlaced kind classes) classes
    → StandsAt classes k level parent → HasParent kind (map class_in classes) k parent
has_parent kind classes k level None h s = s.0
has_parent kind classes k level (Some p) h s =
    let q = s.1.0 in (s.0, q.class, map_on class_in classes p q s.1.1, ((h p q s.1.1).0.inner s.1.2.0).0)

-- a filter names a class without children
is_outer : (b : Begun) → IsBegun b → (i : ℕ) → HoldsAt (λ c. c.filtered ≡ true) b.classes i → b.kind ≡ Hfsc
    → AtEach (λ k c. c.parent ≢ Some i) (map class_in b.classes)
is_outer b h i named hfsc k c there child =
    let t = map_back class_in b.classes k c there in
    let up : t.0.class.parent ≡ Some i = ap (λ (x : Class). x.parent) t.2 ∙ child in
    let over = (rw up at (h.class k t.0 t.1).1).1 in
    let free = ((h.class i over.0 over.1).0.inner over.2.0).1 hfsc in
    cc (free, over.1, named.1, named.2)

tree_fit : (b : Begun) → IsBegun b → b.chosen ≡ true → IsTree b.kind (map class_in b.classes) b.filters
tree_fit b h some =
    let classes = map class_in b.classes in
    let n = rw some at h.default in
    let d = map_back is_default b.classes n.0 true n.1 in
    record {
      class = λ k c at.
          let t = map_back class_in b.classes k c at in
          let is = h.class k t.0 t.1 in
          subst (IsClass b.kind classes k) t.2 (record {
            name = is.0.name;
            parent = has_parent b.kind b.classes k t.0.level t.0.class.parent h.class is.1;
            level = t.0.level;
            on = on_level b.kind b.classes h.class (suc k) k t.0.level t.0 t.0.class.parent (omega arith) t.1 refl is.1;
            eight = is.0.eight;
            limit = is.0.limit;
            own = is.0.own;
            meter = is.0.meter;
          });
      names = apart_by class_in (λ c. c.name) b.classes h.names;
      default = record {
        number = n.0;
        class = d.0.class;
        at = map_on class_in b.classes n.0 d.0 d.1;
        is_default = d.2;
        one = λ k c at is. n.2 k c.is_default (map_through class_in (λ x. x.is_default) b.classes k c at) is;
      };
      filter = λ k f at.
          let t = h.filter k f at in
          let parts = t.1 in
          let class = slice_get_within classes f.class t.0.0.class (map_on class_in b.classes f.class t.0.0 t.0.1) in
          assumption (class, is_outer b h f.class t.0, parts);
    }

-- THE IMPLIED CLASSES are added like any others: a root, and the default class below it
abbrev bare : Kind → ℕ → Begun
bare kind rate = begun 0 (codes "root") rate kind

abbrev on_its_own : Class → ℕ → Branch
on_its_own c level = record { class = c; level = level; fixed = false; inner = false; filtered = false }

two_tree : (kind : Kind) (rate : ℕ) (top leaf : Branch) → IsBetween 1000 most_rate rate → IsNewName kind (bare kind rate) top
    → IsNewName kind (add_class (bare kind rate) top) leaf → let b = add_class (add_class (bare kind rate) top) leaf in b.chosen ≡ true
    → IsTree kind (map class_in b.classes) []
two_tree kind rate top leaf h new next =
    let b = add_class (bare kind rate) top in
    tree_fit (add_class b leaf) (class_added b leaf (class_added (bare kind rate) top (begun_fit 0 (codes "root") rate kind refl h) new) next)

implied_tree : (kind : Kind) (rate : ℕ) → IsBetween 1000 most_rate rate → IsTree kind (implied_classes kind rate) []
implied_tree kind rate h = by kind
  where
    named : codes "root" ≢ codes "NULL"
    named e = let no : false ≡ true = ap (λ l. bytes_eq l (codes "NULL")) e in cc

    share : IsCurve 0 1 (straight rate)
    share = straight_fit 0 1 rate (omega arith) (omega (arith, h))

    shared : Some (straight rate) ≢ None
    shared e = cc

    by : (kind : Kind) → IsTree kind (implied_classes kind rate) []
    by Hfsc =
        let top = on_its_own (implied_hfsc (codes "root") None None) 1 in
        let leaf = on_its_own (implied_hfsc (codes "default") (Some 0) (Some (straight rate))) 2 in
        let above : IsAbove Hfsc 2 top = search (rules, arith, named) in
        let inner : leaf.inner ≡ true → IsInner Hfsc leaf = λ e. cc in
        two_tree Hfsc rate top leaf h (search (rules, arith)) (search (rules, arith, above, inner, share, shared)) refl
    by Cbq =
        let top = on_its_own (implied_cbq (codes "root") None rate) 1 in
        let leaf = on_its_own (implied_cbq (codes "default") (Some 0) rate) 2 in
        let above : IsAbove Cbq 2 top = search (rules, arith, named) in
        let inner : leaf.inner ≡ true → IsInner Cbq leaf = λ e. cc in
        two_tree Cbq rate top leaf h (search (rules, arith)) (search (rules, arith, above, inner)) refl

implied_length : (kind : Kind) (rate : ℕ) → length (implied_classes kind rate) ≤ 256
implied_length Hfsc rate = omega arith
implied_length Cbq rate = omega arith

-- AN INTERFACE whose classes are implied, or not
abbrev whole_by : Begun → Bool → Interface
whole_by b implied = record (whole b) { implied = implied; classes = cond implied (implied_classes b.kind b.rate) (map class_in b.classes) }

empty_by : {A : Type 0} (xs : List A) → ((k : ℕ) (x : A) → slice_get xs k ≡ Some x → ⊥) → xs ≡ []
empty_by [] h = refl
empty_by (x ∷ xs) h = absurd (h 0 x refl)

pub whole_fit : (b : Begun) (empty : Bool) → is_empty b.classes ≡ empty → IsBegun b → (not empty && not b.chosen) ≡ false → IsInterface (whole_by b empty)
whole_fit b true e h decided =
    let none : b.filters ≡ [] = empty_by b.filters (λ k f at.
    let named = (h.filter k f at).0 in
    let inside = slice_get_within b.classes f.class named.0 named.1 in
    let none_there = eqb-true (length b.classes) 0 e in
    omega arith) in
    let tree : IsTree b.kind (implied_classes b.kind b.rate) b.filters = rw none (implied_tree b.kind b.rate h.rate) in
    search (rules, implied_length b.kind b.rate, tree, none, h)
whole_fit b false e h decided =
    let room : length (map class_in b.classes) ≤ 256 = rw (length-map b.classes class_in) h.room in
    search (rules, room, tree_fit b h (not-false b.chosen decided), h)
