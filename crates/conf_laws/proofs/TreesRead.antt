-- The tree of an interface, read behind its line: its classes one after the other, then its filters, and then its conditioners.
use Rattle.std.proofs.Common.{◌≡◌, ◌≢◌, ⊎_elim, ℕ, suc, ◌+◌, ◌<◌, ◌≤◌, Bool, true, false, ◌&&◌, ◌||◌, List, [], ◌∷◌, ◌++◌, length, Option, Some, None, is_some, is_none, Ok, codes, nat_lt, bytes_eq, slice_get, refl, ap, sym, ◌∙◌, subst, length-append, length-set, arith, ◌-◌, ◌^◌, nat_le, drop, unwrap_or}
use Rattle.std.proofs.lemmas.Bool.{lt-leb, cases_lt}
use Rattle.std.proofs.lemmas.Bool.Decides.{nat_tests}
use Rattle.std.proofs.lemmas.Option.{slice_get_within}
use Rattle.service_curve.specs.declared.Curve.{Curve}
use Rattle.traffic_meter.specs.declared.rule.MeterRule.{MeterRule}
use Rattle.traffic_meter.specs.declared.rule.MeterRule.TheVariants.{Single, Two}
use Rattle.conf_lines.specs.declared.statement.Statement.{Statement}
use Rattle.conf_lines.specs.Options.{most_rate, most_burst, most_af}
use Rattle.conf_lines.specs.declared.item.What.TheVariants as what
use Rattle.conf_lines.specs.declared.options.Key.{Key}
use Rattle.conf_lines.specs.declared.options.Key.TheVariants as key
use Rattle.conf_tree.specs.declared.class.Class.{Class}
use Rattle.conf_tree.specs.declared.filter.Filter.{Filter}
use Rattle.conf_tree.specs.declared.interface.Interface.{Interface}
use Rattle.conf_tree.specs.declared.interface.Kind.{Kind}
use Rattle.conf_tree.specs.declared.interface.Kind.TheVariants.{Hfsc, Cbq}
use Rattle.conf_tree.specs.Canonical.{parent_word, class_word, class_options, tos_whats, meter_whats, filter_whats_by, filter_form}
use Rattle.conf_tree.specs.Classes.{is_hfsc, same_kind, spot_of, scope_of, rate_at_end, branch_of, read_branch}
use Rattle.conf_tree.specs.Family.{IsOnLevel, root, below}
use Rattle.conf_tree.specs.Options.{set_options}
use Rattle.conf_tree.specs.Settings.{unset, rate_of_kind}
use Rattle.conf_tree.specs.Tree.{Begun, changed, changed_to, as_parent, with_parent, add_class, class_number, as_filtered, add_filter, as_metered, add_conditioner}
use Rattle.conf_tree.specs.declared.filter.Addresses.{Addresses}
use Rattle.conf_tree.specs.declared.filter.Addresses.TheVariants.{V4, V6}
use Rattle.conf_tree.specs.Conditioners.{meter_of, conditioner_read}
use Rattle.conf_tree.specs.Meters.{IsMeter}
use Rattle.conf_tree.specs.FilterStatements.{filter_read}
use Rattle.conf_tree.specs.Filters.{tos_in, filter_of}
use Rattle.conf_tree.specs.Items.{within}
use Rattle.conf_laws.specs.Fit.{HasParent, IsClass, IsOfKind, IsTree, AreAddresses, IsTos, IsFilter}
use Rattle.conf_laws.specs.Statements.{numbered, class_statement, filter_statement, conditioner_statement}
use Rattle.conf_laws.proofs.ClassOptions.{settings_of, options_read, class_is}
use Rattle.conf_laws.proofs.ListPlaces.{get_push, get_set, element, names_differ, name_is_new, name_is_at}
use Rattle.conf_laws.proofs.Types.{Branch, Conditioner, ClassDraft}
use Rattle.conf_laws.proofs.CurvesRead.{within_is}

-- LISTS THAT GROW AND CHANGE: what holds of the old places and of the new one holds of all
pub push_all : {X : Type 0} (P : ℕ → X → Type 0) (xs : List X) (y : X) → ((j : ℕ) (x : X) → slice_get xs j ≡ Some x → P j x) → P (length xs) y
    → (j : ℕ) (x : X) → slice_get (xs ++ y ∷ []) j ≡ Some x → P j x
push_all P xs y each last j x h = ⊎_elim (λ e. rw (e.0, e.1) last) (λ old. each j x old) (get_push xs y x j h)

change_all : (P Q : ℕ → Branch → Type 0) (classes : List Branch) (i : ℕ) (change : Branch → Branch)
    → ((j : ℕ) (r : Branch) → slice_get classes j ≡ Some r → P j r) → ((j : ℕ) (r : Branch) → j ≢ i → P j r → Q j r) → ((r : Branch) → P i r → Q i (change r))
    → (j : ℕ) (r : Branch) → slice_get (changed classes i change) j ≡ Some r → Q j r
change_all P Q classes i change each kept one j r = by (slice_get classes i) refl
  where
    by : (o : Option Branch) → slice_get classes i ≡ o → slice_get (changed_to classes i change o) j ≡ Some r → Q j r
    by None e h = kept j r (λ same. cc) (each j r h)
    by (Some c) e h = ⊎_elim (λ p. rw (p.0, p.1) (one c (each i c e))) (λ old. kept j r old.0 (each j r old.1)) (get_set classes i (change c) r j h)

length_changed : (classes : List Branch) (i : ℕ) (change : Branch → Branch) → length (changed classes i change) ≡ length classes
length_changed classes i change =
    elim (slice_get classes i) as (λ o. length (changed_to classes i change o) ≡ length classes) [
      | None ↦ refl
      | Some c ↦ length-set classes i (change c)
    ]

-- WHAT IS READ. A class stands for that of its number, whose meter it has once the conditioners up to its own are read; with no filters
-- read, none names it.
pub record IsRead (all : List Class) (filters meters j : ℕ) (r : Branch) : Type 0 where
  pub meter : Option MeterRule
  pub here : slice_get all j ≡ Some (record r.class { meter = meter })
  pub metered : j < meters → r.class.meter ≡ meter
  pub unmetered : meters ≤ j → r.class.meter ≡ None
  pub level : IsOnLevel all j r.level
  pub fixed : r.fixed ≡ is_some r.class.real
  pub leaf : ((k : ℕ) (c : Class) → slice_get all k ≡ Some c → c.parent ≢ Some j) → r.inner ≡ false
  pub unnamed : filters ≡ 0 → r.filtered ≡ false

-- an interface whose first `classes` classes and `filters` filters are read, and the conditioners of the first `meters` classes; its
-- default class has the number `number`
pub record HasRead (i : Interface) (number classes filters meters : ℕ) (b : Begun) : Type 0 where
  pub rooted : classes ≡ 0 → b.rooted ≡ false
  pub chosen : b.chosen ≡ nat_lt number classes
  pub class_count : length b.classes ≡ classes
  pub class : (j : ℕ) (r : Branch) → slice_get b.classes j ≡ Some r → IsRead i.classes filters meters j r
  pub filter_count : length b.filters ≡ filters
  pub filter : (j : ℕ) (f : Filter) → slice_get b.filters j ≡ Some f → slice_get i.filters j ≡ Some f

-- its name, its bandwidth and its kind are those of the interface
abbrev pub part_of : Interface → Begun → Begun
part_of i b = record b { name = i.name; rate = i.rate; kind = i.kind }

-- a class that is read is found by the name of its number
found : (i : Interface) (tree : IsTree i.kind i.classes i.filters) (number k m n p : ℕ) (b : Begun) → HasRead i number k m n b → p < k
    → (c : Branch) × (slice_get b.classes p ≡ Some c) × (class_number (class_word i.classes p) b.classes ≡ Some p)
found i tree number k m n p b r early =
    let (c, at) = element b.classes p (omega (arith, r.class_count)) in
    let own = r.class p c at in (
      c,
      at,
      rw own.here (name_is_at (λ (a : Branch). a.class.name) b.classes p c at
          (λ j a g t.
          let other = r.class j a g in
          tree.names j p (record a.class { meter = other.meter }) (record c.class { meter = own.meter }) other.here own.here (sym t))),
    )

-- a test of HFSC alone
in_hfsc : (kind : Kind) (b : Bool) → (kind ≡ Hfsc → b ≡ false) → (is_hfsc kind && b) ≡ false
in_hfsc Hfsc b h = h refl
in_hfsc Cbq b h = refl

-- WHERE THE NEXT CLASS STANDS
same_level : (all : List Class) (k a b : ℕ) → IsOnLevel all k a → IsOnLevel all k b → a ≡ b
same_level all k a b (root j c at e) (root j' d there n) = refl
same_level all k a b (root j c at e) (below j' p up d there n on) = cc
same_level all k a b (below j p up c at e on) (root j' d there n) = cc
same_level all k a b (below j p up c at e on) (below j' q top d there n over) =
    let same : q ≡ p = cc in
    ap (λ l. l + 1) (same_level all p up top on (subst (λ x. IsOnLevel all x top) same over))

-- it stands on a level, at a spot, behind classes of which its parent is now named
record ClassStands (i : Interface) (b : Begun) (s : Statement) (k : ℕ) (parent : Option ℕ) : Type 0 where
  level : ℕ
  on : IsOnLevel i.classes k level
  spot : spot_of (part_of i b) s (parent_word i.classes parent) ≡ Ok (record { parent = parent; level = level })
  count : length (with_parent b.classes parent) ≡ length b.classes
  class : (j : ℕ) (r : Branch) → slice_get (with_parent b.classes parent) j ≡ Some r → IsRead i.classes 0 0 j r

stands : (i : Interface) (tree : IsTree i.kind i.classes i.filters) (number k : ℕ) (b : Begun) (s : Statement) (c : Class) (parent : Option ℕ)
    → HasRead i number k 0 0 b → slice_get i.classes k ≡ Some c → IsClass i.kind i.classes k c → c.parent ≡ parent
    → HasParent i.kind i.classes k parent → ClassStands i b s k parent
stands i tree number k b s c None r at is e h =
    record { level = 1; on = root k c at e; spot = rw (r.rooted h) refl; count = refl; class = r.class }
stands i tree number k b s c (Some p) r at is e (early, q, q_at, may) =
    let (parent, parent_at, number_is) = found i tree number k 0 0 p b r early in
    let read = r.class p parent parent_at in
    let same : record parent.class { meter = read.meter } ≡ q = cc (read.here, q_at) in
    let on = below k p parent.level c at e read.level in
    let deep = same_level i.classes k (parent.level + 1) is.level on is.on in
    let high = lt-leb 8 parent.level (omega (arith, is.eight)) in
    let named : bytes_eq q.name (codes "NULL") ≡ false = names_differ q.name (codes "NULL") may.named in
    let real : parent.class.real ≡ None = ap (λ (x : Class). x.real) same ∙ may.real in
    let fixed : parent.fixed ≡ false = rw (read.fixed, real) refl in
    let outer : (is_hfsc i.kind && (parent.class.is_default || parent.filtered || is_some parent.class.meter)) ≡ false =
    in_hfsc i.kind _ (λ hfsc.
    let other : parent.class.is_default ≡ false = ap (λ (x : Class). x.is_default) same ∙ may.inner hfsc in
    rw (other, read.unnamed refl, read.unmetered (omega arith)) refl) in
    record {
      level = parent.level + 1;
      on = on;
      spot = rw (number_is, q_at, named, parent_at, high, fixed, outer) refl;
      count = length_changed b.classes p as_parent;
      class = change_all (IsRead i.classes 0 0) (IsRead i.classes 0 0) b.classes p as_parent r.class (λ j a other read. read) λ a read.
          let q_is : record a.class { meter = read.meter } ≡ q = cc (read.here, q_at) in
          let real : a.class.real ≡ None = ap (λ (x : Class). x.real) q_is ∙ may.real in
          record {
            meter = read.meter;
            here = read.here ∙ ap (λ x. Some (record a.class { real = x; meter = read.meter })) real;
            metered = read.metered;
            unmetered = read.unmetered;
            level = read.level;
            fixed = read.fixed ∙ ap (λ o. is_some o) real;
            leaf = λ leaf. absurd (leaf k c at e);
            unnamed = read.unnamed;
          };
    }

-- A CLASS OF A STATEMENT, before others name it
abbrev branch : Class → ℕ → Branch
branch c level = record { class = record c { meter = None }; level = level; fixed = is_some c.real; inner = false; filtered = false }

same_as_itself : (kind : Kind) → same_kind kind kind ≡ true
same_as_itself Hfsc = refl
same_as_itself Cbq = refl

shared : (parent : Option ℕ) (share : Option Curve) → (parent ≢ None → share ≢ None) → (is_some parent && is_none share) ≡ false
shared None share h = refl
shared (Some p) None h = absurd (h (λ e. cc) refl)
shared (Some p) (Some s) h = refl

rate_is : (kind : Kind) (b : Begun) (s : Statement) (c : Class) (level : ℕ) → IsOfKind kind c
    → rate_at_end kind b s (record { parent = c.parent; level = level }) (settings_of kind c) ≡ Ok (rate_of_kind kind c.rate)
rate_is Hfsc b s c level h = rw (shared c.parent c.share h.shared) refl
rate_is Cbq b s c level h = refl

abbrev shape : Kind → Class → ℕ → ClassDraft
shape kind c level = record { spot = record { parent = c.parent; level = level }; settings = settings_of kind c; rate = rate_of_kind kind c.rate }

branch_is : (kind : Kind) (c : Class) (level : ℕ) → IsOfKind kind c → branch c level ≡ branch_of kind c.name (shape kind c level)
branch_is Hfsc c level h = λ i. record (branch c level) { class = class_is Hfsc c h i }
branch_is Cbq c level h = λ i. record (branch c level) { class = class_is Cbq c h i; fixed = is_some (h.real i) }

-- the default class is among more classes
chosen_more : (number k : ℕ) (b first : Bool) → b ≡ nat_lt number k → (first ≡ true → k ≡ number) → (k ≡ number → first ≡ true)
    → (b || first) ≡ nat_lt number (suc k)
chosen_more number k b first e one other = grind (arith, nat_tests)

-- the next class is read
pub record Next (i : Interface) (number k : ℕ) (b : Begun) (s : Statement) : Type 0 where
  pub class : Branch
  pub read : read_branch (part_of i b) i.kind s ≡ Ok class
  pub then_has : HasRead i number (suc k) 0 0 (add_class b class)

pub next_class : (i : Interface) (tree : IsTree i.kind i.classes i.filters) (k : ℕ) (b : Begun) (c : Class) (line : ℕ) → length i.classes ≤ 256
    → slice_get i.classes k ≡ Some c → HasRead i tree.default.number k 0 0 b → Next i tree.default.number k b (class_statement line i.kind i.name i.classes c)
next_class i tree k b c line small at r =
    let class = tree.class k c at in
    let one = tree.default in
    let s = class_statement line i.kind i.name i.classes c in
    let place = stands i tree one.number k b s c c.parent r at class refl class.parent in
    let early = slice_get_within i.classes k c at in
    let new : class_number c.name b.classes ≡ None = name_is_new (λ (a : Branch). a.class.name) c.name b.classes (λ j a g t.
    let other = r.class j a g in
    let same = tree.names j k (record a.class { meter = other.meter }) c other.here at (sym t) in
    omega (arith, r.class_count, slice_get_within b.classes j a g)) in
    let default_is : c.is_default ≡ true → k ≡ one.number = one.one k c at in
    let is_default : k ≡ one.number → c.is_default ≡ true = λ e. cc in
    let open_yet : c.is_default ≡ true → b.chosen ≡ false = λ t. let e = default_is t in grind (arith, nat_tests) in
    let set : set_options (scope_of (part_of i b) s) unset (numbered 6 (class_options i.kind c)) ≡ Ok (settings_of i.kind c) =
    options_read (scope_of (part_of i b) s) i.kind c 6 class.limit class.own open_yet in
    let made = branch c place.level in
    let count : length (with_parent b.classes c.parent) ≡ k = place.count ∙ r.class_count in
    record {
      class = made;
      read = rw (
        same_as_itself i.kind,
        lt-leb 256 (length b.classes) (omega (arith, r.class_count)),
        new,
        place.spot,
        set,
        rate_is i.kind (part_of i b) s c place.level class.own,
        ← branch_is i.kind c place.level class.own,
      ) refl;
      then_has = record {
        rooted = λ e. absurd (omega arith);
        chosen = chosen_more one.number k b.chosen c.is_default r.chosen default_is is_default;
        class_count = omega (arith, length-append (with_parent b.classes c.parent) (made ∷ []), count);
        class = push_all (IsRead i.classes 0 0) (with_parent b.classes c.parent) made place.class
            (rw count (record {
              meter = c.meter;
              here = at;
              metered = λ early. absurd (omega arith);
              unmetered = λ late. refl;
              level = place.on;
              fixed = refl;
              leaf = λ leaf. refl;
              unnamed = λ none. refl;
            }));
        filter_count = r.filter_count;
        filter = r.filter;
      };
    }

-- A FILTER OF A STATEMENT: its parts, as the canonical text has them
tos_read : (word mask_word : Key) (at : ℕ) (tos : Option (ℕ × ℕ)) → IsTos tos → tos_in (numbered at (tos_whats word mask_word tos)) ≡ tos
tos_read word mask_word at None h = refl
tos_read word mask_word at (Some (tos, mask)) h = rw (within_is 0 255 tos (omega arith), within_is 0 255 mask (omega arith), h.2) refl

-- a filter by what is read of its numbers
filter_is : (kind : Kind) (classes : List Class) (f : Filter) (addresses : Addresses) (tos : Option (ℕ × ℕ)) → IsFilter kind classes f
    → addresses ≡ f.addresses → tos ≡ f.tos
    → record {
      class = f.class;
      ruleno = unwrap_or (within 0 (2 ^ 32 - 1) (Some f.ruleno)) 0;
      addresses = addresses;
      target_port = unwrap_or (within 0 65535 (Some f.target_port)) 0;
      source_port = unwrap_or (within 0 65535 (Some f.source_port)) 0;
      protocol = unwrap_or (within 0 255 (Some f.protocol)) 0;
      tos = tos;
    } ≡ f
filter_is kind classes f addresses tos h a t = rw (
  within_is 0 (2 ^ 32 - 1) f.ruleno (omega (arith, h.ruleno)),
  within_is 0 65535 f.target_port (omega (arith, h.target_port)),
  within_is 0 65535 f.source_port (omega (arith, h.source_port)),
  within_is 0 255 f.protocol (omega (arith, h.protocol)),
  a,
  t,
) refl

parts_read : (kind : Kind) (classes : List Class) (f : Filter) (interface class : List ℕ) (addresses : Addresses)
    → IsFilter kind classes f → addresses ≡ f.addresses → AreAddresses addresses
    → filter_of (filter_form addresses) f.class (drop 2 (numbered 2 (filter_whats_by interface class f addresses))) ≡ f
parts_read kind classes f interface class (V4 target target_mask source source_mask) h e (to, from) =
    filter_is kind classes f _ _ h (rw (to.under, from.under) e) (tos_read key.Tos key.Tosmask _ f.tos h.tos)
parts_read kind classes f interface class (V6 target target_len source source_len) h e (to, from) =
    filter_is kind classes f _ _ h (rw (to.first, from.first) e) (tos_read key.Tclass key.Tclassmask _ f.tos h.tos)

-- a class that a filter may name
named : {all : List Class} {m j : ℕ} {r : Branch} (by : Bool) → IsRead all m 0 j r → IsRead all (suc m) 0 j (record r { filtered = by })
named by read = record {
  meter = read.meter;
  here = read.here;
  metered = read.metered;
  unmetered = read.unmetered;
  level = read.level;
  fixed = read.fixed;
  leaf = read.leaf;
  unnamed = λ none. absurd (omega arith);
}

-- the next filter is read
pub record NextFilter (i : Interface) (number classes filters : ℕ) (b : Begun) (s : Statement) (f : Filter) : Type 0 where
  pub read : filter_read (part_of i b) s ≡ Ok f
  pub then_has : HasRead i number classes (suc filters) 0 (add_filter b f)

pub next_filter : (i : Interface) (tree : IsTree i.kind i.classes i.filters) (number m : ℕ) (b : Begun) (f : Filter) (line : ℕ) → length i.filters ≤ 1024
    → slice_get i.filters m ≡ Some f → HasRead i number (length i.classes) m 0 b
    → NextFilter i number (length i.classes) m b (filter_statement line i.name i.classes f) f
next_filter i tree number m b f line small at r =
    let is = tree.filter m f at in
    let (class, class_at, number_is) = found i tree number (length i.classes) m 0 f.class b r is.class in
    let outer : (is_hfsc i.kind && class.inner) ≡ false = in_hfsc i.kind class.inner (λ k_is. (r.class f.class class class_at).leaf (is.outer k_is)) in
    let parts = parts_read i.kind i.classes f i.name (class_word i.classes f.class) f.addresses is refl is.addresses in
    let room : nat_le 1024 (length b.filters) ≡ false = lt-leb 1024 (length b.filters) (omega (arith, r.filter_count, slice_get_within i.filters m f at)) in
    record {
      read = rw (room, number_is, class_at, outer) (ap (λ x. Ok x) parts);
      then_has = record {
        rooted = r.rooted;
        chosen = r.chosen;
        class_count = length_changed b.classes f.class as_filtered ∙ r.class_count;
        class = change_all (IsRead i.classes m 0) (IsRead i.classes (suc m) 0) b.classes f.class as_filtered r.class (λ j a other. named a.filtered)
            (λ a. named true);
        filter_count = omega (arith, length-append b.filters (f ∷ []), r.filter_count);
        filter = push_all (λ j a. slice_get i.filters j ≡ Some a) b.filters f r.filter (rw r.filter_count at);
      };
    }

-- A CONDITIONER OF A STATEMENT: its meter, as the canonical text has it
meter_read : (interface class : List ℕ) (rule : MeterRule) → IsMeter rule
    → meter_of (drop 2 (numbered 2 ((what.Name interface ∷ what.Name class ∷ []) ++ meter_whats rule))) ≡ rule
meter_read interface class (Single cir cbs ebs af) m = rw (
  within_is 1000 most_rate cir (m.rate_least, m.rate_most),
  within_is 1 most_burst cbs (m.burst_least, m.burst_most),
  within_is 0 most_burst ebs (omega arith, m.excess_most),
  within_is 1 most_af af (m.af_least, m.af_most),
) refl
meter_read interface class (Two pir pbs cir cbs af) m = rw (
  within_is 1000 most_rate pir (omega (arith, m.rate_least, m.rate_most), m.peak_most),
  within_is 1 most_burst pbs (m.peak_burst_least, m.peak_burst_most),
  within_is 1000 pir cir (m.rate_least, m.rate_most),
  within_is 1 most_burst cbs (m.burst_least, m.burst_most),
  within_is 1 most_af af (m.af_least, m.af_most),
) refl

-- a class but the one of the next conditioner, and that one, which has its meter now
module _ {all : List Class} {m k : ℕ} where
  beside : (j : ℕ) (r : Branch) → j ≢ k → IsRead all m k j r → IsRead all m (suc k) j r
  beside j r other read = record {
    meter = read.meter;
    here = read.here;
    metered = λ early. read.metered (omega (arith, other));
    unmetered = λ late. read.unmetered (omega arith);
    level = read.level;
    fixed = read.fixed;
    leaf = read.leaf;
    unnamed = read.unnamed;
  }

  -- the meter of that class is that of its number
  meter_is : (c : Class) (j : ℕ) (r : Branch) (read : IsRead all m k j r) → j ≡ k → slice_get all k ≡ Some c → read.meter ≡ c.meter
  meter_is c j r read here at =
      let same : record r.class { meter = read.meter } ≡ c = cc (here, read.here, at) in ap (λ (x : Class). x.meter) same

  with_meter : (c : Class) (rule : MeterRule) → slice_get all k ≡ Some c → c.meter ≡ Some rule → (r : Branch) → IsRead all m k k r
      → IsRead all m (suc k) k (as_metered rule r)
  with_meter c rule at e r read = record {
    meter = read.meter;
    here = read.here;
    metered = λ early. sym (meter_is c k r read refl at ∙ e);
    unmetered = λ late. absurd (omega arith);
    level = read.level;
    fixed = read.fixed;
    leaf = read.leaf;
    unnamed = read.unnamed;
  }

  -- or none
  without : (c : Class) → slice_get all k ≡ Some c → c.meter ≡ None → (j : ℕ) (r : Branch) → IsRead all m k j r → IsRead all m (suc k) j r
  without c at e j r read = record {
    meter = read.meter;
    here = read.here;
    metered = λ early. ⊎_elim read.metered (λ late.
        let here : j ≡ k = omega arith in
        read.unmetered late ∙ sym (meter_is c j r read here at ∙ e)) (cases_lt j k);
    unmetered = λ late. read.unmetered (omega arith);
    level = read.level;
    fixed = read.fixed;
    leaf = read.leaf;
    unnamed = read.unnamed;
  }

-- the next class has no conditioner
pub no_conditioner : (i : Interface) (number n m k : ℕ) (b : Begun) (c : Class) → slice_get i.classes k ≡ Some c → c.meter ≡ None
    → HasRead i number n m k b → HasRead i number n m (suc k) b
no_conditioner i number n m k b c at e r = record {
  rooted = r.rooted;
  chosen = r.chosen;
  class_count = r.class_count;
  class = λ j a g. without c at e j a (r.class j a g);
  filter_count = r.filter_count;
  filter = r.filter;
}

-- or its conditioner is read
pub record NextConditioner (i : Interface) (number classes filters meters : ℕ) (b : Begun) (s : Statement) : Type 0 where
  pub conditioner : Conditioner
  pub read : conditioner_read (part_of i b) s ≡ Ok conditioner
  pub then_has : HasRead i number classes filters (suc meters) (add_conditioner b conditioner)

pub next_conditioner : (i : Interface) (tree : IsTree i.kind i.classes i.filters) (number m k : ℕ) (b : Begun) (c : Class) (rule : MeterRule) (line : ℕ)
    → slice_get i.classes k ≡ Some c → c.meter ≡ Some rule → HasRead i number (length i.classes) m k b
    → NextConditioner i number (length i.classes) m k b (conditioner_statement line i.name c.name rule)
next_conditioner i tree number m k b c rule line at e r =
    let (class, class_at, found_is) = found i tree number (length i.classes) m k k b r (slice_get_within i.classes k c at) in
    let read = r.class k class class_at in
    let number_is : class_number c.name b.classes ≡ Some k = rw at at found_is in
    let is : IsMeter rule = rw e at (tree.class k c at).meter in
    let childless : i.kind ≡ Hfsc → (j : ℕ) (x : Class) → slice_get i.classes j ≡ Some x → x.parent ≢ Some k =
    λ hfsc j x there. outer_by hfsc j x.parent (tree.class j x there).parent in
    let outer : (is_hfsc i.kind && class.inner) ≡ false = in_hfsc i.kind class.inner (λ hfsc. read.leaf (childless hfsc)) in
    let first : is_some class.class.meter ≡ false = rw (read.unmetered (omega arith)) refl in
    record {
      conditioner = record { class = k; rule = rule };
      read = rw (number_is, class_at, outer, first) (ap (λ x. Ok (record { class = k; rule = x })) (meter_read i.name c.name rule is));
      then_has = record {
        rooted = r.rooted;
        chosen = r.chosen;
        class_count = length_changed b.classes k (as_metered rule) ∙ r.class_count;
        class = change_all (IsRead i.classes m k) (IsRead i.classes m (suc k)) b.classes k (as_metered rule) r.class beside (with_meter c rule at e);
        filter_count = r.filter_count;
        filter = r.filter;
      };
    }
  where
    outer_by : i.kind ≡ Hfsc → (j : ℕ) (parent : Option ℕ) → HasParent i.kind i.classes j parent → parent ≢ Some k
    outer_by hfsc j None has named = cc
    outer_by hfsc j (Some p) (early, q, q_at, may) named =
        let none : c.meter ≡ None = cc (may.unmetered hfsc, q_at, at, named) in cc (none, e)
