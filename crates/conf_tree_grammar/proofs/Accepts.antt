-- A statement that is accepted behind what was said may stand there.
use Rattle.std.proofs.Common.{◌≡◌, ◌+◌, ◌≤◌, ◌&&◌, ◌||◌, not, ◌∙◌, ℕ, Bool, true, false, List, [], ◌∷◌, length, drop, Option, Some, None, Result, Ok, Err, IfOk, is_some, is_none, slice_get, nat_le, cond, refl, sym, ap, subst, arith}
use Rattle.std.specs.Option.{option_or}
use Rattle.std.proofs.lemmas.Bool.{cond_both, or_parts}
use Rattle.std.proofs.lemmas.Bool.Decides.{nat_tests}
use Rattle.conf_lines.specs.declared.fault.ConfPlace.{ConfPlace}
use Rattle.conf_lines.specs.declared.item.Item.{Item}
use Rattle.conf_lines.specs.declared.statement.Form.{Form}
use Rattle.conf_lines.specs.declared.statement.Form.TheVariants as form
use Rattle.conf_lines.specs.declared.statement.Statement.{Statement}
use Rattle.conf_tree.specs.declared.filter.Filter as filter_type
use Rattle.conf_tree.specs.declared.interface.Kind.{Kind}
use Rattle.conf_tree.specs.declared.interface.Kind.TheVariants.{Hfsc, Cbq}
use Rattle.conf_tree.specs.Classes.{below, branch_of, class_named, is_full, is_hfsc, is_queue, rate_at_end, rate_given, read_branch, read_class, same_kind, scope_of, shape_of, spot_of}
use Rattle.conf_tree.specs.Conditioners.{conditioner_read, read_conditioner}
use Rattle.conf_tree.specs.FilterStatements.{filter_read, read_filter}
use Rattle.conf_tree.specs.Interfaces.{are_full, interface_kind, interface_rate, read_interface}
use Rattle.conf_tree.specs.Items.{name_at}
use Rattle.conf_tree.specs.Options.{kind_by_options, set_options}
use Rattle.conf_tree.specs.Reading.{read_form, read_statement}
use Rattle.conf_tree.specs.Settings.{unset}
use Rattle.conf_tree.specs.Tests.{◌>>=◌, own, some}
use Rattle.conf_tree.specs.Tree.{Begun, add_class, add_conditioner, add_filter, class_name, class_number, interface_name, interface_number}
use Rattle.conf_laws.proofs.InTurn.{fit_refuse, fit_some, fit_then}
use Rattle.conf_laws.proofs.Types.{Branch, Conditioner as Metered, ReadContext, Settings, ClassDraft, TreePosition}
use Rattle.conf_tree_grammar.specs.Grammar.{HoldsNone, MayBeClass, MayBeConditioner, MayBeFilter, MayBeNamed, MayBeParent, MayBeSaid, has_class, has_own, has_root, is_null, kind_said, level, said_of}
use Rattle.conf_tree_grammar.specs.Options.{AreRates, defaults, has_rate, has_share, stays_after}
use Rattle.conf_tree_grammar.specs.Sayings.{Saying, Class, Conditioner, Filter, Interface, saying}
use Rattle.conf_tree_grammar.proofs.Lookups.{First, found, is_named, looked, named, none_looked}
use Rattle.conf_tree_grammar.proofs.OptionsSet.{ByAll, Sets, all_by, count_of}
use Rattle.conf_tree_grammar.proofs.Told.{BegunTold, ClassTold, IsNewClass, Place, TellsBegun, TellsClass, TellsNone, StateStands, below as under, changed_told, class_added, conditioner_told, filter_told, new_told, top}

-- TESTS in turn
fit_own : {B : Type 0} (Q : B → Type 0) (o : Option ConfPlace) (next : Unit {0} → Result B ConfPlace) → (o ≡ None → IfOk (next tt) Q)
    → IfOk (own o >>= next) Q
fit_own Q None next k = k refl
fit_own Q (Some fault) next k = tt

fit_last : {A : Type 0} (Q : A → Type 0) (o : Option A) (fault : ConfPlace) → ((x : A) → o ≡ Some x → Q x) → IfOk (some o fault) Q
fit_last Q None fault k = tt
fit_last Q (Some x) fault k = k x refl

none_of : {A : Type 0} (o : Option A) → is_some o ≡ false → o ≡ None
none_of None e = refl
none_of (Some x) e = absurd cc

kinds_same : (k l : Kind) → not (same_kind k l) ≡ false → k ≡ l
kinds_same Hfsc Hfsc e = refl
kinds_same Cbq Cbq e = refl
kinds_same Hfsc Cbq e = absurd cc
kinds_same Cbq Hfsc e = absurd cc

default_is : (b : Bool) (n : ℕ) → count_of b ≡ n → b ≡ nat_le 1 n
default_is false n e = grind (arith, nat_tests, e)
default_is true n e = grind (arith, nat_tests, e)

-- WHAT IS TOLD of an interface or a class that is looked up
pub told_at : (before : List Saying) (state : List Begun) (x : List ℕ) (j : ℕ) (b : Begun) → StateStands before state → First interface_name x state j b
    → TellsBegun (said_of x before) b
told_at before state x j b t first = subst (BegunTold (said_of x before)) (found interface_name x state j b first) (t.each x)

pub told_class : (local : List Saying) (b : Begun) (x : List ℕ) (j : ℕ) (q : Branch) → TellsBegun local b → First class_name x b.classes j q
    → TellsClass local x q
told_class local b x j q t first = subst (ClassTold local x) (found class_name x b.classes j q first) (t.class x)

pub no_class : (local : List Saying) (b : Begun) (x : List ℕ) → TellsBegun local b → named class_name x b.classes ≡ None → TellsNone local x
no_class local b x t none = subst (ClassTold local x) none (t.class x)

-- WHAT IS ACCEPTED
pub record Accepts (before : List Saying) (s : Statement) (after : List Begun) : Type 0 where
  pub said : Saying
  pub says : saying s ≡ Some said
  pub may : MayBeSaid before said
  pub told : StateStands (said ∷ before) after

-- an interface
record IsKind (state : List Begun) (s : Statement) (name : List ℕ) (kind : Kind) : Type 0 where
  new : named interface_name name state ≡ None
  whole : s.fault ≡ None
  kind_is : kind_by_options None (drop 1 s.items) ≡ Some kind

kind_ok : (state : List Begun) (s : Statement) (name : List ℕ) → IfOk (interface_kind state s name) (IsKind state s name)
kind_ok state s name =
    let Q = IsKind state s name in
    fit_refuse Q (is_some (interface_number name state)) _ _ (λ new.
    fit_own Q s.fault _ (λ whole.
    fit_last Q (kind_by_options None (drop 1 s.items)) _ (λ kind e.
    record { new = none_looked interface_name name state (none_of _ new); whole = whole; kind_is = e })))

interface_accepted : (before : List Saying) (state : List Begun) (s : Statement) → StateStands before state → s.form ≡ form.Interface
    → IfOk (read_interface state s) (Accepts before s)
interface_accepted before state s t f =
    let Q = Accepts before s in
    fit_some Q (name_at s.items 0) _ _ (λ name name_is.
    fit_refuse Q (are_full state) _ _ (λ room.
    fit_then (IsKind state s name) Q (interface_kind state s name) _ (kind_ok state s name) (λ kind k.
    let none : said_of name before ≡ [] = subst (BegunTold (said_of name before)) k.new (t.each name) in
    record {
      said = Interface name kind (interface_rate s);
      says = rw (f, k.whole, name_is, k.kind_is) refl;
      may = record { room = grind (arith, nat_tests, room, t.count); new = ap kind_said none };
      told = new_told before state s.line name kind (interface_rate s) t k.new;
    })))

-- where a class stands
pub record IsPosition (b : Begun) (local : List Saying) (parent : List ℕ) (spot : TreePosition) : Type 0 where
  pub root : is_null parent ≡ true → has_root local ≡ false
  pub may : is_null parent ≡ false → MayBeParent b.kind local parent
  pub place : Place b parent spot.parent
  pub high : spot.level ≡ cond (is_null parent) 1 (level local parent + 1)

holds_none : (local : List Saying) (x : List ℕ) (c : Branch) → TellsClass local x c → is_queue Hfsc c ≡ false → HoldsNone local x
holds_none local x c t e =
    let parts = or_parts (c.class.is_default || c.filtered) (is_some c.class.meter) e in
    let first = or_parts c.class.is_default c.filtered parts.0 in
    record { default = sym t.default ∙ first.0; filter = sym t.filtered ∙ first.1; conditioner = sym t.metered ∙ parts.1 }

pub spot_ok : (local : List Saying) (b : Begun) (s : Statement) (parent : List ℕ) → TellsBegun local b → IfOk (spot_of b s parent) (IsPosition b local parent)
spot_ok local b s parent t =
    let Q = IsPosition b local parent in
    cond_both (is_null parent) _ _ (λ r. IfOk r Q)
    (λ null. fit_refuse Q b.rooted _ _ (λ free. record {
      root = λ e. sym t.rooted ∙ free;
      may = λ e. absurd cc;
      place = top null refl;
      high = rw null refl;
    }))
    (λ other.
    fit_some Q (class_number parent b.classes) _ _ (λ j at.
    fit_some Q (slice_get b.classes j) _ _ (λ q there.
    let first = looked class_name parent b.classes j q at there in
    let tells = told_class local b parent j q t first in
    fit_refuse Q (nat_le 8 q.level) _ _ (λ low.
    fit_refuse Q q.fixed _ _ (λ free.
    fit_refuse Q (is_queue b.kind q) _ _ (λ outer. record {
      root = λ e. absurd cc;
      may = λ e. record {
        stands = tells.stood;
        level = grind (arith, nat_tests, low, tells.high);
        real_time = sym tells.fixed ∙ free;
        packets = λ hfsc. holds_none local parent q tells (subst (λ (k : Kind). is_queue k q ≡ false) hfsc outer);
      };
      place = under other j q first refl;
      high = rw other (ap (λ n. n + 1) tells.high);
    }))))))

-- its rate or its share
rate_there : (a : Option ℕ) (rate : ℕ) → option_or a None ≡ Some rate → is_some a ≡ true
rate_there None rate e = absurd cc
rate_there (Some n) rate e = refl

share_there : {A B : Type 0} (up : Option A) (share : Option B) (x : A) → (is_some up && is_none share) ≡ false → up ≡ Some x → is_some share ≡ true
share_there None share x e f = absurd cc
share_there (Some y) None x e f = absurd cc
share_there (Some y) (Some z) x e f = refl

abbrev pub IsOwn : Kind → TreePosition → List Item → ℕ → Type 0
IsOwn kind spot options rate = (j : ℕ) → spot.parent ≡ Some j → has_own kind options ≡ true

abbrev pub AreSet : Begun → Statement → List Item → Settings → Type 0
AreSet b s options t = Sets (scope_of b s) unset t (has_share options) (has_rate options) (stays_after false options) (defaults options) (AreRates b.rate options)

own_ok : (kind : Kind) (b : Begun) (s : Statement) (spot : TreePosition) (settings : Settings) (options : List Item) → AreSet b s options settings
    → IfOk (rate_at_end kind b s spot settings) (IsOwn kind spot options)
own_ok Hfsc b s spot settings options set =
    fit_refuse (IsOwn Hfsc spot options) (is_some spot.parent && is_none settings.share) _ _
    (λ shared j up. sym set.share ∙ share_there spot.parent settings.share j shared up)
own_ok Cbq b s spot settings options set =
    fit_last (IsOwn Cbq spot options) (rate_given b.rate spot settings) _
    (λ rate e j up. sym set.rate ∙ rate_there settings.rate rate (rw up at e))

pub set_ok : (scope : ReadContext) (options : List Item) (r : Result Settings ConfPlace) → ByAll scope unset options r
    → IfOk r (λ t. Sets scope unset t (has_share options) (has_rate options) (stays_after false options) (defaults options) (AreRates scope.rate options))
set_ok scope options (Ok t) h = h
set_ok scope options (Err fault) h = tt

-- its shape
record IsDraft (b : Begun) (local : List Saying) (s : Statement) (name : List ℕ) (shape : ClassDraft) : Type 0 where
  whole : s.fault ≡ None
  parent : List ℕ
  up : name_at s.items 2 ≡ Some parent
  new : named class_name name b.classes ≡ None
  spot : IsPosition b local parent shape.spot
  set : AreSet b s (drop 3 s.items) shape.settings
  own : IsOwn b.kind shape.spot (drop 3 s.items) 0

pub chosen_few : (b : Bool) → 0 + (0 + count_of b) ≤ 1
chosen_few false = omega arith
chosen_few true = omega arith

shape_ok : (local : List Saying) (b : Begun) (s : Statement) (name : List ℕ) → TellsBegun local b → IfOk (shape_of b s name) (IsDraft b local s name)
shape_ok local b s name t =
    let Q = IsDraft b local s name in
    fit_refuse Q (is_some (class_number name b.classes)) _ _ (λ new.
    fit_some Q (name_at s.items 2) _ _ (λ parent up.
    fit_then (IsPosition b local parent) Q (spot_of b s parent) _ (spot_ok local b s parent t) (λ spot is.
    fit_then (AreSet b s (drop 3 s.items)) Q (set_options (scope_of b s) unset (drop 3 s.items)) _
    (set_ok (scope_of b s) (drop 3 s.items) _ (all_by (scope_of b s) unset (drop 3 s.items) (chosen_few b.chosen))) (λ settings set.
    fit_own Q s.fault _ (λ whole.
    fit_then (IsOwn b.kind spot (drop 3 s.items)) Q (rate_at_end b.kind b s spot settings) _ (own_ok b.kind b s spot settings (drop 3 s.items) set) (λ rate own.
    record {
      whole = whole;
      parent = parent;
      up = up;
      new = none_looked class_name name b.classes (none_of _ new);
      spot = is;
      set = set;
      own = own;
    }))))))

-- the class
record IsClass (b : Begun) (local : List Saying) (s : Statement) (c : Branch) : Type 0 where
  whole : s.fault ≡ None
  name : List ℕ
  parent : List ℕ
  here : name_at s.items 1 ≡ Some name
  up : name_at s.items 2 ≡ Some parent
  may : MayBeClass local b.kind name parent (drop 3 s.items)
  new : IsNewClass b.kind local name parent (drop 3 s.items) c
  place : Place b parent c.class.parent

parent_there : (b : Begun) (parent : List ℕ) (up : Option ℕ) → Place b parent up → is_null parent ≡ false → (j : ℕ) × (up ≡ Some j)
parent_there b parent up (top null e) child = absurd cc
parent_there b parent up (under other j q first e) child = (j, e)

new_is : (kind : Kind) (local : List Saying) (name parent : List ℕ) (options : List Item) (shape : ClassDraft) → has_class local name ≡ false
    → shape.spot.level ≡ cond (is_null parent) 1 (level local parent + 1) → shape.settings.fixed ≡ stays_after false options
    → count_of shape.settings.is_default ≡ defaults options → IsNewClass kind local name parent options (branch_of kind name shape)
new_is Hfsc local name parent options shape new high stays default = record {
  new = new;
  named = refl;
  high = high;
  fixed = stays;
  default = default_is shape.settings.is_default _ default;
  count = default;
  inner = refl;
  filtered = refl;
  metered = refl;
}
new_is Cbq local name parent options shape new high stays default = record {
  new = new;
  named = refl;
  high = high;
  fixed = refl;
  default = default_is shape.settings.is_default _ default;
  count = default;
  inner = refl;
  filtered = refl;
  metered = refl;
}

class_ok : (local : List Saying) (b : Begun) (s : Statement) → TellsBegun local b → IfOk (class_named b s) (IsClass b local s)
class_ok local b s t =
    let Q = IsClass b local s in
    fit_some Q (name_at s.items 1) _ _ (λ name here.
    fit_refuse Q (is_full b) _ _ (λ room.
    fit_then (IsDraft b local s name) Q (shape_of b s name) _ (shape_ok local b s name t) (λ shape is.
    let new = (no_class local b name t is.new).none in
    let set = is.set in
    let default : count_of shape.settings.is_default ≡ defaults (drop 3 s.items) = omega (arith, set.default) in
    record {
      whole = is.whole;
      name = name;
      parent = is.parent;
      here = here;
      up = is.up;
      may = record {
        stands = t.kind;
        room = grind (arith, nat_tests, room, t.room);
        new = new;
        root = is.spot.root;
        below = is.spot.may;
        own = λ child. let up = parent_there b is.parent shape.spot.parent is.spot.place child in is.own up.0 up.1;
        default = omega (arith, set.few, t.chosen);
        rates = subst (λ n. AreRates n (drop 3 s.items)) (sym t.rate) set.fit;
      };
      new = new_is b.kind local name is.parent (drop 3 s.items) shape new is.spot.high set.stays default;
      place = is.spot.place;
    })))

abbrev class_form : Kind → Form
class_form Hfsc = form.ClassHfsc
class_form Cbq = form.ClassCbq

class_says : (kind : Kind) (s : Statement) (i name parent : List ℕ) → s.form ≡ class_form kind → s.fault ≡ None → name_at s.items 0 ≡ Some i
    → name_at s.items 1 ≡ Some name → name_at s.items 2 ≡ Some parent → saying s ≡ Some (Class kind i name parent (drop 3 s.items))
class_says Hfsc s i name parent f whole a b c = rw (f, whole, a, b, c) refl
class_says Cbq s i name parent f whole a b c = rw (f, whole, a, b, c) refl

record IsBranch (kind : Kind) (b : Begun) (local : List Saying) (s : Statement) (c : Branch) : Type 0 where
  same : kind ≡ b.kind
  class : IsClass b local s c

branch_ok : (kind : Kind) (local : List Saying) (b : Begun) (s : Statement) → TellsBegun local b → IfOk (read_branch b kind s) (IsBranch kind b local s)
branch_ok kind local b s t =
    let Q = IsBranch kind b local s in
    fit_refuse Q (not (same_kind kind b.kind)) _ _ (λ same.
    is_ok (class_named b s) (class_ok local b s t) (λ c is. record { same = kinds_same kind b.kind same; class = is }))
  where
    is_ok : {Q P : Branch → Type 0} (r : Result Branch ConfPlace) → IfOk r P → ((c : Branch) → P c → Q c) → IfOk r Q
    is_ok (Ok c) h k = k c h
    is_ok (Err fault) h k = tt

class_accepted : (before : List Saying) (state : List Begun) (kind : Kind) (s : Statement) → StateStands before state → s.form ≡ class_form kind
    → IfOk (read_class state kind s) (Accepts before s)
class_accepted before state kind s t f =
    let Q = Accepts before s in
    fit_some Q (name_at s.items 0) _ _ (λ i i_is.
    fit_some Q (interface_number i state) _ _ (λ j at.
    fit_some Q (slice_get state j) _ _ (λ b there.
    let first = looked interface_name i state j b at there in
    let tells = told_at before state i j b t first in
    fit_then (IsBranch kind b (said_of i before) s) Q (read_branch b kind s) _ (branch_ok kind (said_of i before) b s tells) (λ c ok.
    let is = ok.class in
    record {
      said = Class b.kind i is.name is.parent (drop 3 s.items);
      says = class_says b.kind s i is.name is.parent (f ∙ ap class_form ok.same) is.whole i_is is.here is.up;
      may = is.may;
      told = changed_told before state (Class b.kind i is.name is.parent (drop 3 s.items)) i j b (add_class b c) t first
          (sym (is_named interface_name i state j b first)) refl refl
          (class_added (said_of i before) b b.kind i is.name is.parent (drop 3 s.items) c tells is.new is.may.default is.place);
    }))))

-- a filter and a conditioner
named_ok : (local : List Saying) (b : Begun) (class : List ℕ) (j : ℕ) (q : Branch) → TellsBegun local b → First class_name class b.classes j q
    → (is_hfsc b.kind && q.inner) ≡ false → MayBeNamed local class
named_ok local b class j q t first outer =
    let tells = told_class local b class j q t first in
    record {
      kind = b.kind;
      said = t.kind;
      stands = tells.stood;
      leaf = λ hfsc. sym tells.inner ∙ subst (λ (k : Kind). (is_hfsc k && q.inner) ≡ false) hfsc outer;
    }

record IsFilter (b : Begun) (local : List Saying) (s : Statement) (f : filter_type.Filter) : Type 0 where
  whole : s.fault ≡ None
  class : List ℕ
  here : name_at s.items 1 ≡ Some class
  may : MayBeFilter local class
  q : Branch
  first : First class_name class b.classes f.class q

filter_ok : (local : List Saying) (b : Begun) (s : Statement) → TellsBegun local b → IfOk (filter_read b s) (IsFilter b local s)
filter_ok local b s t =
    let Q = IsFilter b local s in
    fit_refuse Q (nat_le 1024 (length b.filters)) _ _ (λ room.
    fit_some Q (name_at s.items 1) _ _ (λ class here.
    fit_some Q (class_number class b.classes) _ _ (λ j at.
    fit_some Q (slice_get b.classes j) _ _ (λ q there.
    let first = looked class_name class b.classes j q at there in
    fit_refuse Q (is_hfsc b.kind && q.inner) _ _ (λ outer.
    fit_own Q s.fault _ (λ whole. record {
      whole = whole;
      class = class;
      here = here;
      may = record { named = named_ok local b class j q t first outer; room = grind (arith, nat_tests, room, t.few) };
      q = q;
      first = first;
    }))))))

filter_accepted : (before : List Saying) (state : List Begun) (s : Statement) → StateStands before state
    → ((i class : List ℕ) → s.fault ≡ None → name_at s.items 0 ≡ Some i → name_at s.items 1 ≡ Some class → saying s ≡ Some (Filter i class))
    → IfOk (read_filter state s) (Accepts before s)
filter_accepted before state s t says =
    let Q = Accepts before s in
    fit_some Q (name_at s.items 0) _ _ (λ i i_is.
    fit_some Q (interface_number i state) _ _ (λ j at.
    fit_some Q (slice_get state j) _ _ (λ b there.
    let first = looked interface_name i state j b at there in
    let tells = told_at before state i j b t first in
    fit_then (IsFilter b (said_of i before) s) Q (filter_read b s) _ (filter_ok (said_of i before) b s tells) (λ f is. record {
      said = Filter i is.class;
      says = says i is.class is.whole i_is is.here;
      may = is.may;
      told = changed_told before state (Filter i is.class) i j b (add_filter b f) t first (sym (is_named interface_name i state j b first)) refl refl
          (filter_told (said_of i before) b i is.class f is.q tells is.first);
    }))))

record IsConditioner (b : Begun) (local : List Saying) (s : Statement) (c : Metered) : Type 0 where
  whole : s.fault ≡ None
  class : List ℕ
  here : name_at s.items 1 ≡ Some class
  may : MayBeConditioner local class
  q : Branch
  first : First class_name class b.classes c.class q

conditioner_ok : (local : List Saying) (b : Begun) (s : Statement) → TellsBegun local b → IfOk (conditioner_read b s) (IsConditioner b local s)
conditioner_ok local b s t =
    let Q = IsConditioner b local s in
    fit_some Q (name_at s.items 1) _ _ (λ class here.
    fit_some Q (class_number class b.classes) _ _ (λ j at.
    fit_some Q (slice_get b.classes j) _ _ (λ q there.
    let first = looked class_name class b.classes j q at there in
    fit_refuse Q (is_hfsc b.kind && q.inner) _ _ (λ outer.
    fit_refuse Q (is_some q.class.meter) _ _ (λ none.
    fit_own Q s.fault _ (λ whole. record {
      whole = whole;
      class = class;
      here = here;
      may = record { named = named_ok local b class j q t first outer; first = sym (told_class local b class j q t first).metered ∙ none };
      q = q;
      first = first;
    }))))))

conditioner_accepted : (before : List Saying) (state : List Begun) (s : Statement) → StateStands before state → s.form ≡ form.Conditioner
    → IfOk (read_conditioner state s) (Accepts before s)
conditioner_accepted before state s t f =
    let Q = Accepts before s in
    fit_some Q (name_at s.items 0) _ _ (λ i i_is.
    fit_some Q (interface_number i state) _ _ (λ j at.
    fit_some Q (slice_get state j) _ _ (λ b there.
    let first = looked interface_name i state j b at there in
    let tells = told_at before state i j b t first in
    fit_then (IsConditioner b (said_of i before) s) Q (conditioner_read b s) _ (conditioner_ok (said_of i before) b s tells) (λ c is. record {
      said = Conditioner i is.class;
      says = rw (f, is.whole, i_is, is.here) refl;
      may = is.may;
      told = changed_told before state (Conditioner i is.class) i j b (add_conditioner b c) t first (sym (is_named interface_name i state j b first)) refl refl
          (conditioner_told (said_of i before) b i is.class c is.q tells is.first);
    }))))

pub statement_accepted : (before : List Saying) (state : List Begun) (s : Statement) → StateStands before state → IfOk (read_statement state s) (Accepts before s)
statement_accepted before state s t = go s.form refl
  where
    go : (f : Form) → s.form ≡ f → IfOk (read_form f state s) (Accepts before s)
    go form.Interface f = interface_accepted before state s t f
    go form.ClassHfsc f = class_accepted before state Hfsc s t f
    go form.ClassCbq f = class_accepted before state Cbq s t f
    go form.Filter f = filter_accepted before state s t (λ i class whole a b. rw (f, whole, a, b) refl)
    go form.Filter6 f = filter_accepted before state s t (λ i class whole a b. rw (f, whole, a, b) refl)
    go form.Conditioner f = conditioner_accepted before state s t f
    go form.Unread f = tt
