-- A statement that may stand behind what was said is accepted there.
use Rattle.std.proofs.Common.{◌≡◌, ◌&&◌, not, ◌∙◌, ℕ, Bool, true, false, List, length, drop, Option, Some, None, Result, Ok, Err, is_some, is_none, slice_get, nat_le, cond, refl, sym, ap, subst, arith}
use Rattle.std.specs.Option.{option_or}
use Rattle.std.proofs.lemmas.Bool.Decides.{nat_tests}
use Rattle.std.proofs.lemmas.Result.{IfOk-at_ok}
use Rattle.conf_lines.specs.declared.fault.ConfPlace.{ConfPlace}
use Rattle.conf_lines.specs.declared.item.Item.{Item}
use Rattle.conf_lines.specs.declared.statement.Form.{Form}
use Rattle.conf_lines.specs.declared.statement.Form.TheVariants as form
use Rattle.conf_lines.specs.declared.statement.Statement.{Statement}
use Rattle.conf_tree.specs.declared.interface.Kind.{Kind}
use Rattle.conf_tree.specs.declared.interface.Kind.TheVariants.{Hfsc, Cbq}
use Rattle.conf_tree.specs.Classes.{inner_spot, is_full, is_hfsc, is_queue, rate_at_end, rate_given, read_branch, read_class, root_spot, same_kind, scope_of, shape_of, spot_of}
use Rattle.conf_tree.specs.Conditioners.{conditioner_read, read_conditioner}
use Rattle.conf_tree.specs.FilterStatements.{filter_read, read_filter}
use Rattle.conf_tree.specs.Interfaces.{are_full, interface_kind, read_interface}
use Rattle.conf_tree.specs.Items.{name_at}
use Rattle.conf_tree.specs.Options.{kind_by_options, rate_by_options, set_options}
use Rattle.conf_tree.specs.Reading.{read_form, read_statement}
use Rattle.conf_tree.specs.Settings.{unset}
use Rattle.conf_tree.specs.Tests.{◌>>=◌, own, refuse, some}
use Rattle.conf_tree.specs.Tree.{Begun, class_name, class_number, interface_name, interface_number}
use Rattle.conf_laws.proofs.Types.{Branch, ReadContext, Settings, TreePosition}
use Rattle.conf_tree_grammar.specs.Grammar.{HoldsNone, MayBeClass, MayBeConditioner, MayBeFilter, MayBeInterface, MayBeNamed, MayBeSaid, has_class, has_own, is_null, kind_said, said_of}
use Rattle.conf_tree_grammar.specs.Options.{AreRates, defaults}
use Rattle.conf_tree_grammar.specs.Sayings.{Saying, Class, Conditioner, Filter, Interface, class_said, conditioner_said, filter_said, interface_said, said_by, saying, unless}
use Rattle.conf_tree_grammar.proofs.Lookups.{First, at_none, at_place, first_of_found, named, stands}
use Rattle.conf_tree_grammar.proofs.OptionsSet.{AreFew, ByAll, all_by}
use Rattle.conf_tree_grammar.proofs.Told.{BegunTold, ClassTold, Place, TellsBegun, TellsClass, StateStands, below as under, top}
use Rattle.conf_tree_grammar.proofs.Accepts.{AreSet, IsOwn, IsPosition, chosen_few, set_ok, spot_ok, told_at, told_class}

-- TESTS in turn
abbrev pub Goes : {A : Type 0} → Result A ConfPlace → Type 0
Goes {A} r = (x : A) × (r ≡ Ok x)

go_some : {A B : Type 0} (o : Option A) (fault : ConfPlace) (next : A → Result B ConfPlace) (x : A) → o ≡ Some x → Goes (next x)
    → Goes (some o fault >>= next)
go_some None fault next x e h = absurd cc
go_some (Some y) fault next x e h = let same : y ≡ x = cc in rw same h

go_last : {A : Type 0} (o : Option A) (fault : ConfPlace) (x : A) → o ≡ Some x → Goes (some o fault)
go_last None fault x e = absurd cc
go_last (Some y) fault x e = (y, refl)

go_refuse : {B : Type 0} (t : Bool) (fault : ConfPlace) (next : Unit {0} → Result B ConfPlace) → t ≡ false → Goes (next tt) → Goes (refuse t fault >>= next)
go_refuse true fault next e h = absurd cc
go_refuse false fault next e h = h

go_own : {B : Type 0} (o : Option ConfPlace) (next : Unit {0} → Result B ConfPlace) → o ≡ None → Goes (next tt) → Goes (own o >>= next)
go_own None next e h = h
go_own (Some fault) next e h = absurd cc

go_then : {A B : Type 0} (r : Result A ConfPlace) (next : A → Result B ConfPlace) → Goes r → ((x : A) → r ≡ Ok x → Goes (next x)) → Goes (r >>= next)
go_then (Ok x) next h k = k x refl
go_then (Err fault) next h k = absurd cc

-- WHAT STANDS is found
record FindsBegun (before : List Saying) (state : List Begun) (i : List ℕ) (kind : Kind) : Type 0 where
  j : ℕ
  b : Begun
  first : First interface_name i state j b
  is : b.kind ≡ kind

finds_begun : (before : List Saying) (state : List Begun) (i : List ℕ) (kind : Kind) → StateStands before state → kind_said (said_of i before) ≡ Some kind
    → FindsBegun before state i kind
finds_begun before state i kind t said = go (named interface_name i state) refl (t.each i)
  where
    go : (w : Option Begun) → named interface_name i state ≡ w → BegunTold (said_of i before) w → FindsBegun before state i kind
    go None e h = let none : kind_said (said_of i before) ≡ None = ap kind_said h in absurd cc
    go (Some b) e h =
        let f = first_of_found interface_name i state b e in
        let kind_is = h.kind in
        record { j = f.0; b = b; first = f.1; is = cc }

record FindsClass (b : Begun) (x : List ℕ) : Type 0 where
  j : ℕ
  q : Branch
  first : First class_name x b.classes j q

finds_class : (local : List Saying) (b : Begun) (x : List ℕ) → TellsBegun local b → has_class local x ≡ true → FindsClass b x
finds_class local b x t stood = go (named class_name x b.classes) refl (t.class x)
  where
    go : (w : Option Branch) → named class_name x b.classes ≡ w → ClassTold local x w → FindsClass b x
    go None e h = let none = h.none in absurd cc
    go (Some q) e h = let f = first_of_found class_name x b.classes q e in record { j = f.0; q = q; first = f.1 }

no_number : (local : List Saying) (b : Begun) (x : List ℕ) → TellsBegun local b → has_class local x ≡ false → is_some (class_number x b.classes) ≡ false
no_number local b x t none = go (named class_name x b.classes) refl (t.class x)
  where
    go : (w : Option Branch) → named class_name x b.classes ≡ w → ClassTold local x w → is_some (class_number x b.classes) ≡ false
    go None e h = ap is_some (at_none class_name x b.classes e)
    go (Some q) e h = let stood = h.stood in absurd cc

-- AN INTERFACE
interface_goes : (before : List Saying) (state : List Begun) (s : Statement) (name : List ℕ) (kind : Kind) → StateStands before state → s.fault ≡ None
    → name_at s.items 0 ≡ Some name → kind_by_options None (drop 1 s.items) ≡ Some kind → MayBeInterface before name → Goes (read_interface state s)
interface_goes before state s name kind t whole name_is kind_is may =
    go_some (name_at s.items 0) _ _ name name_is (
    go_refuse (are_full state) _ _ (grind (arith, nat_tests, may.room, t.count)) (
    go_then (interface_kind state s name) _ (
    go_refuse (is_some (interface_number name state)) _ _ new (
    go_own s.fault _ whole (
    go_last (kind_by_options None (drop 1 s.items)) _ kind kind_is))) (λ k e. (_, refl))))
  where
    go : (w : Option Begun) → named interface_name name state ≡ w → BegunTold (said_of name before) w → is_some (interface_number name state) ≡ false
    go None e h = ap is_some (at_none interface_name name state e)
    go (Some b) e h = let some = h.kind in let none = may.new in absurd cc

    new : is_some (interface_number name state) ≡ false
    new = go (named interface_name name state) refl (t.each name)

-- A CLASS
queue_is : (kind : Kind) (local : List Saying) (x : List ℕ) (q : Branch) → TellsClass local x q → (kind ≡ Hfsc → HoldsNone local x) → is_queue kind q ≡ false
queue_is Hfsc local x q t h = let none = h refl in rw (t.default ∙ none.default, t.filtered ∙ none.filter, t.metered ∙ none.conditioner) refl
queue_is Cbq local x q t h = refl

spot_goes : (local : List Saying) (b : Begun) (s : Statement) (name parent : List ℕ) (options : List Item) → TellsBegun local b
    → MayBeClass local b.kind name parent options → Goes (spot_of b s parent)
spot_goes local b s name parent options t may = go (is_null parent) refl
  where
    go : (d : Bool) → is_null parent ≡ d → Goes (cond d (root_spot b s) (inner_spot b s parent))
    go true e = go_refuse b.rooted _ _ (t.rooted ∙ may.root e) (_, refl)
    go false e =
        let up = may.below e in
        let f = finds_class local b parent t up.stands in
        let tells = told_class local b parent f.j f.q t f.first in
        go_some (class_number parent b.classes) _ _ f.j (at_place class_name parent b.classes f.j f.q f.first) (
        go_some (slice_get b.classes f.j) _ _ f.q (stands class_name parent b.classes f.j f.q f.first) (
        go_refuse (nat_le 8 f.q.level) _ _ (grind (arith, nat_tests, tells.high, up.level)) (
        go_refuse f.q.fixed _ _ (tells.fixed ∙ up.real_time) (
        go_refuse (is_queue b.kind f.q) _ _ (queue_is b.kind local parent f.q tells up.packets) (_, refl)))))

set_goes : (scope : ReadContext) (options : List Item) (r : Result Settings ConfPlace) → ByAll scope unset options r → AreRates scope.rate options
    → AreFew scope unset (defaults options) → Goes r
set_goes scope options (Ok t) h rates few = (t, refl)
set_goes scope options (Err fault) h rates few = absurd (h rates few)

shared_by : {A B : Type 0} (up : Option A) (share : Option B) → ((j : A) → up ≡ Some j → is_some share ≡ true) → (is_some up && is_none share) ≡ false
shared_by None share h = refl
shared_by (Some j) None h = let no = h j refl in absurd cc
shared_by (Some j) (Some x) h = refl

given_by : {A : Type 0} (o : Option ℕ) (up : Option A) (rate : ℕ) → ((j : A) → up ≡ Some j → is_some o ≡ true)
    → (x : ℕ) × (option_or o (cond (is_some up) None (Some rate)) ≡ Some x)
given_by (Some n) up rate h = (n, refl)
given_by None None rate h = (rate, refl)
given_by None (Some j) rate h = let no = h j refl in absurd cc

rate_goes : (kind : Kind) (b : Begun) (s : Statement) (spot : TreePosition) (settings : Settings) (options : List Item) → AreSet b s options settings
    → IsOwn kind spot options 0 → Goes (rate_at_end kind b s spot settings)
rate_goes Hfsc b s spot settings options set own =
    go_refuse (is_some spot.parent && is_none settings.share) _ _ (shared_by spot.parent settings.share (λ j up. set.share ∙ own j up)) (_, refl)
rate_goes Cbq b s spot settings options set own =
    let g = given_by settings.rate spot.parent b.rate (λ j up. set.rate ∙ own j up) in
    go_last (rate_given b.rate spot settings) _ g.0 g.1

null_or_not : (b : Begun) (parent : List ℕ) (up : Option ℕ) (own : Bool) → Place b parent up → (is_null parent ≡ false → own ≡ true)
    → (j : ℕ) → up ≡ Some j → own ≡ true
null_or_not b parent up own (top null e) h j f = absurd cc
null_or_not b parent up own (under other i q first e) h j f = h other

shape_goes : (local : List Saying) (b : Begun) (s : Statement) (name parent : List ℕ) → TellsBegun local b → s.fault ≡ None
    → name_at s.items 2 ≡ Some parent → MayBeClass local b.kind name parent (drop 3 s.items) → Goes (shape_of b s name)
shape_goes local b s name parent t whole up may =
    let options = drop 3 s.items in
    let all = all_by (scope_of b s) unset options (chosen_few b.chosen) in
    go_refuse (is_some (class_number name b.classes)) _ _ (no_number local b name t may.new) (
    go_some (name_at s.items 2) _ _ parent up (
    go_then (spot_of b s parent) _ (spot_goes local b s name parent options t may) (λ spot spot_is.
    let is : IsPosition b local parent spot = IfOk-at_ok (IsPosition b local parent) spot_is (spot_ok local b s parent t) in
    go_then (set_options (scope_of b s) unset options) _
    (set_goes (scope_of b s) options _ all (subst (λ n. AreRates n options) t.rate may.rates) (omega (arith, may.default, t.chosen))) (λ settings set_is.
    let set : AreSet b s options settings = IfOk-at_ok (AreSet b s options) set_is (set_ok (scope_of b s) options _ all) in
    go_own s.fault _ whole (
    go_then (rate_at_end b.kind b s spot settings) _
    (rate_goes b.kind b s spot settings options set (null_or_not b parent spot.parent (has_own b.kind options) is.place may.own)) (λ rate e.
    (_, refl)))))))

class_goes : (before : List Saying) (state : List Begun) (kind : Kind) (s : Statement) (i name parent : List ℕ) → StateStands before state → s.fault ≡ None
    → name_at s.items 0 ≡ Some i → name_at s.items 1 ≡ Some name → name_at s.items 2 ≡ Some parent
    → MayBeClass (said_of i before) kind name parent (drop 3 s.items) → Goes (read_class state kind s)
class_goes before state kind s i name parent t whole i_is here up may =
    let f = finds_begun before state i kind t may.stands in
    let b = f.b in
    let local = said_of i before in
    let tells = told_at before state i f.j b t f.first in
    let may_here : MayBeClass local b.kind name parent (drop 3 s.items) =
    subst (λ (k : Kind). MayBeClass local k name parent (drop 3 s.items)) (sym f.is) may in
    go_some (name_at s.items 0) _ _ i i_is (
    go_some (interface_number i state) _ _ f.j (at_place interface_name i state f.j b f.first) (
    go_some (slice_get state f.j) _ _ b (stands interface_name i state f.j b f.first) (
    go_then (read_branch b kind s) _ (
    go_refuse (not (same_kind kind b.kind)) _ _ (same kind b.kind f.is) (
    go_some (name_at s.items 1) _ _ name here (
    go_refuse (is_full b) _ _ (grind (arith, nat_tests, may.room, tells.room)) (
    go_then (shape_of b s name) _ (shape_goes local b s name parent tells whole up may_here) (λ shape e. (_, refl)))))) (λ c e. (_, refl)))))
  where
    same : (k l : Kind) → l ≡ k → not (same_kind k l) ≡ false
    same Hfsc Hfsc e = refl
    same Cbq Cbq e = refl
    same Hfsc Cbq e = absurd cc
    same Cbq Hfsc e = absurd cc

-- A FILTER, A CONDITIONER
record Names (b : Begun) (class : List ℕ) : Type 0 where
  found : FindsClass b class
  outer : (is_hfsc b.kind && found.q.inner) ≡ false

names : (local : List Saying) (b : Begun) (class : List ℕ) → TellsBegun local b → MayBeNamed local class → Names b class
names local b class t may =
    let f = finds_class local b class t may.stands in
    let tells = told_class local b class f.j f.q t f.first in
    let kind_is = may.said in
    let kind_told = t.kind in
    let one : b.kind ≡ may.kind = cc in
    record { found = f; outer = outer b.kind (λ hfsc. tells.inner ∙ may.leaf (sym one ∙ hfsc)) }
  where
    outer : (kind : Kind) {c : Bool} → (kind ≡ Hfsc → c ≡ false) → (is_hfsc kind && c) ≡ false
    outer Hfsc h = h refl
    outer Cbq h = refl

filter_goes : (before : List Saying) (state : List Begun) (s : Statement) (i class : List ℕ) → StateStands before state → s.fault ≡ None
    → name_at s.items 0 ≡ Some i → name_at s.items 1 ≡ Some class → MayBeFilter (said_of i before) class → Goes (read_filter state s)
filter_goes before state s i class t whole i_is here may =
    let f = finds_begun before state i may.named.kind t may.named.said in
    let b = f.b in
    let tells = told_at before state i f.j b t f.first in
    let n = names (said_of i before) b class tells may.named in
    let c = n.found in
    go_some (name_at s.items 0) _ _ i i_is (
    go_some (interface_number i state) _ _ f.j (at_place interface_name i state f.j b f.first) (
    go_some (slice_get state f.j) _ _ b (stands interface_name i state f.j b f.first) (
    go_then (filter_read b s) _ (
    go_refuse (nat_le 1024 (length b.filters)) _ _ (grind (arith, nat_tests, may.room, tells.few)) (
    go_some (name_at s.items 1) _ _ class here (
    go_some (class_number class b.classes) _ _ c.j (at_place class_name class b.classes c.j c.q c.first) (
    go_some (slice_get b.classes c.j) _ _ c.q (stands class_name class b.classes c.j c.q c.first) (
    go_refuse (is_hfsc b.kind && c.q.inner) _ _ n.outer (
    go_own s.fault _ whole (_, refl))))))) (λ x e. (_, refl)))))

conditioner_goes : (before : List Saying) (state : List Begun) (s : Statement) (i class : List ℕ) → StateStands before state → s.fault ≡ None
    → name_at s.items 0 ≡ Some i → name_at s.items 1 ≡ Some class → MayBeConditioner (said_of i before) class → Goes (read_conditioner state s)
conditioner_goes before state s i class t whole i_is here may =
    let f = finds_begun before state i may.named.kind t may.named.said in
    let b = f.b in
    let tells = told_at before state i f.j b t f.first in
    let n = names (said_of i before) b class tells may.named in
    let c = n.found in
    go_some (name_at s.items 0) _ _ i i_is (
    go_some (interface_number i state) _ _ f.j (at_place interface_name i state f.j b f.first) (
    go_some (slice_get state f.j) _ _ b (stands interface_name i state f.j b f.first) (
    go_then (conditioner_read b s) _ (
    go_some (name_at s.items 1) _ _ class here (
    go_some (class_number class b.classes) _ _ c.j (at_place class_name class b.classes c.j c.q c.first) (
    go_some (slice_get b.classes c.j) _ _ c.q (stands class_name class b.classes c.j c.q c.first) (
    go_refuse (is_hfsc b.kind && c.q.inner) _ _ n.outer (
    go_refuse (is_some c.q.class.meter) _ _ ((told_class (said_of i before) b class c.j c.q tells c.first).metered ∙ may.first) (
    go_own s.fault _ whole (_, refl))))))) (λ x e. (_, refl)))))

-- A STATEMENT that says this
whole_said : (o : Option ConfPlace) (said : Option Saying) (y : Saying) → unless o said ≡ Some y → (o ≡ None) × (said ≡ Some y)
whole_said None said y e = (refl, e)
whole_said (Some fault) said y e = absurd cc

interface_by : (before : List Saying) (state : List Begun) (s : Statement) (y : Saying) → StateStands before state → s.fault ≡ None → (a : Option (List ℕ))
    (k : Option Kind) (n : ℕ) → name_at s.items 0 ≡ a → kind_by_options None (drop 1 s.items) ≡ k → interface_said a k n ≡ Some y → MayBeSaid before y
    → Goes (read_interface state s)
interface_by before state s y t whole (Some name) (Some kind) n e f said may =
    let same : y ≡ Interface name kind n = cc in
    interface_goes before state s name kind t whole e f (subst (MayBeSaid before) same may)
interface_by before state s y t whole (Some name) None n e f said may = absurd cc
interface_by before state s y t whole None k n e f said may = absurd cc

class_by : (before : List Saying) (state : List Begun) (kind : Kind) (s : Statement) (y : Saying) → StateStands before state → s.fault ≡ None
    → (a b c : Option (List ℕ)) → name_at s.items 0 ≡ a → name_at s.items 1 ≡ b → name_at s.items 2 ≡ c
    → class_said kind a b c (drop 3 s.items) ≡ Some y → MayBeSaid before y → Goes (read_class state kind s)
class_by before state kind s y t whole (Some i) (Some name) (Some parent) e f g said may =
    let same : y ≡ Class kind i name parent (drop 3 s.items) = cc in
    class_goes before state kind s i name parent t whole e f g (subst (MayBeSaid before) same may)
class_by before state kind s y t whole (Some i) (Some name) None e f g said may = absurd cc
class_by before state kind s y t whole (Some i) None c e f g said may = absurd cc
class_by before state kind s y t whole None b c e f g said may = absurd cc

filter_by : (before : List Saying) (state : List Begun) (s : Statement) (y : Saying) → StateStands before state → s.fault ≡ None → (a b : Option (List ℕ))
    → name_at s.items 0 ≡ a → name_at s.items 1 ≡ b → filter_said a b ≡ Some y → MayBeSaid before y → Goes (read_filter state s)
filter_by before state s y t whole (Some i) (Some class) e f said may =
    let same : y ≡ Filter i class = cc in filter_goes before state s i class t whole e f (subst (MayBeSaid before) same may)
filter_by before state s y t whole (Some i) None e f said may = absurd cc
filter_by before state s y t whole None b e f said may = absurd cc

conditioner_by : (before : List Saying) (state : List Begun) (s : Statement) (y : Saying) → StateStands before state → s.fault ≡ None → (a b : Option (List ℕ))
    → name_at s.items 0 ≡ a → name_at s.items 1 ≡ b → conditioner_said a b ≡ Some y → MayBeSaid before y → Goes (read_conditioner state s)
conditioner_by before state s y t whole (Some i) (Some class) e f said may =
    let same : y ≡ Conditioner i class = cc in conditioner_goes before state s i class t whole e f (subst (MayBeSaid before) same may)
conditioner_by before state s y t whole (Some i) None e f said may = absurd cc
conditioner_by before state s y t whole None b e f said may = absurd cc

pub statement_goes : (before : List Saying) (state : List Begun) (s : Statement) (y : Saying) → StateStands before state → saying s ≡ Some y
    → MayBeSaid before y → Goes (read_statement state s)
statement_goes before state s y t says may = let w = whole_said s.fault (said_by s.form s.items) y says in go w.0 s.form w.1
  where
    go : s.fault ≡ None → (f : Form) → said_by f s.items ≡ Some y → Goes (read_form f state s)
    go whole form.Interface said = interface_by before state s y t whole _ _ (rate_by_options 100000000 (drop 1 s.items)) refl refl said may
    go whole form.ClassHfsc said = class_by before state Hfsc s y t whole _ _ _ refl refl refl said may
    go whole form.ClassCbq said = class_by before state Cbq s y t whole _ _ _ refl refl refl said may
    go whole form.Filter said = filter_by before state s y t whole _ _ refl refl said may
    go whole form.Filter6 said = filter_by before state s y t whole _ _ refl refl said may
    go whole form.Conditioner said = conditioner_by before state s y t whole _ _ refl refl said may
    go whole form.Unread said = absurd cc
