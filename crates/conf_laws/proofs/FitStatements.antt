-- The interfaces so far keep to their ranges, their limits and their trees, statement by statement: a class statement gives a class that
-- may be added, a filter statement a filter of a class that may have it, and a conditioner's the same of a meter. At the end of the text they are a configuration that fits.
use Rattle.std.proofs.Common.{rules, ◌≡◌, ◌≢◌, ◌<◌, ◌≤◌, ℕ, false, cond, not, ◌&&◌, ◌||◌, List, [], ◌∷◌, ◌++◌, map, length, drop, Option, Some, None, IfOk, IfSome, is_some, is_none, slice_get, slice_set, bytes_eq, codes, nat_le, refl, arith, length-append, leb-false, zero, suc, Bool, Ok, subst}
use Rattle.std.proofs.lemmas.Bool.{or_parts, cond_both, both_ways}
use Rattle.std.proofs.lemmas.List.{length-set, map-append, length-map}
use Rattle.std.proofs.lemmas.List.Quantifiers.{position-Some}
use Rattle.std.proofs.lemmas.Option.{get_or_from_slice_get, IfSome_then, MatchOption-at_some}
use Rattle.std.proofs.lemmas.Slice.Eq.{bytes_eq-Decides}
use Rattle.std.proofs.lemmas.Result.{IfOk-at_ok, IfOk-weaker}
use Rattle.service_curve.specs.declared.Curve.{Curve}
use Rattle.conf_lines.specs.declared.fault.ConfPlace.{ConfPlace}
use Rattle.conf_lines.specs.declared.item.Item.{Item}
use Rattle.conf_lines.specs.declared.options.Key.TheVariants as key
use Rattle.conf_lines.specs.declared.item.What.{What}
use Rattle.conf_lines.specs.declared.item.What.TheVariants as what
use Rattle.conf_lines.specs.declared.statement.Form.{Form}
use Rattle.conf_lines.specs.declared.statement.Form.TheVariants as form
use Rattle.conf_lines.specs.declared.statement.Statement.{Statement}
use Rattle.conf_lines.specs.Laws.{IsSound, AreSound, AreAllSound}
use Rattle.conf_lines.specs.Options.{most_rate}
use Rattle.conf_tree.specs.declared.interface.Kind.{Kind}
use Rattle.conf_tree.specs.declared.interface.Kind.TheVariants.{Hfsc, Cbq}
use Rattle.conf_tree.specs.Classes.{is_hfsc, same_kind, is_queue, below, spot_of, rate_given, rate_at_end, scope_of, shape_below, shape_of, branch_of, is_full, read_branch, read_class}
use Rattle.conf_tree.specs.Conditioners.{conditioner_read, read_conditioner}
use Rattle.conf_tree.specs.FilterStatements.{filter_read, read_filter}
use Rattle.conf_tree.specs.Interfaces.{kind_at_end, interface_kind, interface_rate, are_full, read_interface}
use Rattle.conf_tree.specs.Items.{name_of, name_in, name_at}
use Rattle.conf_tree.specs.Options.{rate_by_word, rate_by_options, set_options}
use Rattle.conf_tree.specs.Reading.{read_form, read_statement, reading, reading_from}
use Rattle.conf_tree.specs.Settings.{unset}
use Rattle.conf_tree.specs.Tests.{some}
use Rattle.conf_tree.specs.Tree.{Begun, begun, as_parent, interface_name, interface_number, class_number, add_class, add_filter, add_conditioner}
use Rattle.conf_tree.specs.declared.interface.Interface.{Interface}
use Rattle.conf_tree.specs.Whole.{is_empty, whole, undecided, first_undecided, finished_unless}
use Rattle.conf_tree.proofs.MetersFit.{meter_fits}
use Rattle.conf_laws.specs.Fit.{IsName, IsBetween, IsParent, IsInterface, AreFit}
use Rattle.conf_laws.proofs.FitInterfaces.{IsBegun, MayStand, whole_fit, begun_fit, IsNewName, IsNewFilter, IsNewConditioner, class_added, filter_added, conditioner_added}
use Rattle.conf_laws.proofs.FitItems.{filter_fit, sound_at, sound_drop, AreSet, unset_fit, options_fit, number_or, either, fit_next}
use Rattle.conf_laws.proofs.InTurn.{fit_then, fit_any, fit_some, fit_refuse, fit_whole}
use Rattle.conf_laws.proofs.ListPlaces.{AtEach, push_each, set_each, map_set_same, AreApart, push_apart, not_among, map_back, apart_by}
use Rattle.conf_laws.proofs.Types.{Branch, Settings, TreePosition, ClassDraft}

-- a name has its form
name_of_fit : (says : What) → IsSound says → IfSome (name_of says) IsName
name_of_fit (what.Name name) h = h
name_of_fit _ h = tt

name_fit : (items : List Item) (i : ℕ) (name : List ℕ) → AreSound items → name_at items i ≡ Some name → IsName name
name_fit items i name h there =
    MatchOption-at_some (Unit {0}) IsName name there (sound_at (λ o. IfSome (name_in o) IsName) items i h tt (λ item k. name_of_fit item.what k))

-- A CLASS STATEMENT: where the class stands
abbrev IsPosition : Begun → TreePosition → Type 0
IsPosition b spot = (spot.level ≤ 8) × MayStand b spot.level spot.parent

without_meter : {A : Type 0} (o : Option A) → is_some o ≡ false → o ≡ None
without_meter None e = refl
without_meter (Some x) e = cc

below_fit : (b : Begun) (s : Statement) (i : ℕ) (c : Branch) → slice_get b.classes i ≡ Some c → c.class.name ≢ codes "NULL"
    → IfOk (below b.kind s i c) (IsPosition b)
below_fit b s i c at named =
    fit_refuse (IsPosition b) (nat_le 8 c.level) _ _ (λ deep.
    fit_refuse (IsPosition b) c.fixed _ _ (λ fixed.
    fit_refuse (IsPosition b) (is_queue b.kind c) _ _ (λ queue.
    let free = λ (hfsc : b.kind ≡ Hfsc). or_parts (c.class.is_default || c.filtered) (is_some c.class.meter) (rw hfsc at queue) in
    let unnamed = λ (hfsc : b.kind ≡ Hfsc). or_parts c.class.is_default c.filtered (free hfsc).0 in
    let low = leb-false 8 c.level deep in
    let parent : IsParent b.kind (as_parent c).class = record {
      named = named;
      real = refl;
      inner = λ hfsc. (unnamed hfsc).0;
      unmetered = λ hfsc. without_meter c.class.meter (free hfsc).1;
    } in
    (omega arith, (c, at, (refl, (parent, λ hfsc. (unnamed hfsc).1)))))))

parent_named : (parent : List ℕ) (classes : List Branch) (i : ℕ) (c : Branch) → class_number parent classes ≡ Some i → slice_get classes i ≡ Some c
    → parent ≡ c.class.name
parent_named parent classes i c e at =
    let yes = (position-Some (λ (x : Branch). bytes_eq parent x.class.name) classes i c e).1 in
    (bytes_eq-Decides parent c.class.name).0 (rw (get_or_from_slice_get classes i c c at) at yes)

spot_fit : (b : Begun) (s : Statement) (parent : List ℕ) → IfOk (spot_of b s parent) (IsPosition b)
spot_fit b s parent =
    cond_both (bytes_eq parent (codes "NULL")) _ _ (λ r. IfOk r (IsPosition b))
    (λ null. fit_refuse (IsPosition b) b.rooted _ _ (λ first. (omega arith, (first, refl))))
    (λ other.
    fit_some (IsPosition b) (class_number parent b.classes) _ _ (λ i number.
    fit_some (IsPosition b) (slice_get b.classes i) _ _ (λ c at.
    below_fit b s i c at (λ null.
    let same = parent_named parent b.classes i c number at in
    both_ways (bytes_eq parent (codes "NULL")) other ((bytes_eq-Decides parent (codes "NULL")).1 (cc))))))

-- its shape
abbrev IsDraftOf : Kind → ClassDraft → Type 0
IsDraftOf Hfsc shape = shape.spot.parent ≢ None → shape.settings.share ≢ None
IsDraftOf Cbq shape = IsBetween 1000 most_rate shape.rate

record IsDraft (kind : Kind) (b : Begun) (shape : ClassDraft) : Type 0 where
  spot : IsPosition b shape.spot
  settings : AreSet b.chosen shape.settings
  own : IsDraftOf kind shape

abbrev IsRated : Kind → Begun → TreePosition → Settings → ℕ → Type 0
IsRated kind b spot settings rate = IsDraft kind b (record { spot = spot; settings = settings; rate = rate })

has_share : (parent : Option ℕ) (share : Option Curve) → (is_some parent && is_none share) ≡ false → parent ≢ None → share ≢ None
has_share parent share e child = grind arith

some_fit : {A : Type 0} (Q : A → Type 0) (o : Option A) (fault : ConfPlace) → IfSome o Q → IfOk (some o fault) Q
some_fit Q None fault h = tt
some_fit Q (Some x) fault h = h

end_fit : (kind : Kind) (b : Begun) (s : Statement) (spot : TreePosition) (settings : Settings) → IsBetween 1000 most_rate b.rate → IsPosition b spot
    → AreSet b.chosen settings → IfOk (rate_at_end kind b s spot settings) (IsRated kind b spot settings)
end_fit Hfsc b s spot settings r h k =
    fit_refuse (IsRated Hfsc b spot settings) (is_some spot.parent && is_none settings.share) _ _
    (λ shared. record { spot = h; settings = k; own = has_share spot.parent settings.share shared })
end_fit Cbq b s spot settings r h k =
    let IsRate : Option ℕ → Type 0 = λ o. IfSome o (IsBetween 1000 most_rate) in
    let given = either IsRate settings.rate _ k.rate (cond_both (is_some spot.parent) None (Some b.rate) IsRate (λ child. tt) (λ root. r)) in
    some_fit (IsRated Cbq b spot settings) (rate_given b.rate spot settings) _
    (IfSome_then (rate_given b.rate spot settings) given (λ rate within. record { spot = h; settings = k; own = within }))

shape_fit : (b : Begun) (s : Statement) (parent : List ℕ) → IsBegun b → IfOk (shape_below b s parent) (IsDraft b.kind b)
shape_fit b s parent h =
    fit_then (IsPosition b) (IsDraft b.kind b) (spot_of b s parent) _ (spot_fit b s parent) (λ spot stands.
    fit_then (AreSet b.chosen) (IsDraft b.kind b) (set_options (scope_of b s) unset (drop 3 s.items)) _
    (options_fit (scope_of b s) unset (drop 3 s.items) h.rate (unset_fit b.chosen)) (λ settings set.
    fit_whole (IsDraft b.kind b) s.fault _
    (fit_then (IsRated b.kind b spot settings) (IsDraft b.kind b) (rate_at_end b.kind b s spot settings) _
    (end_fit b.kind b s spot settings h.rate stands set) (λ rate is. is))))

-- the class
new_fit : (kind : Kind) (b : Begun) (name : List ℕ) (shape : ClassDraft) → IsName name → is_some (class_number name b.classes) ≡ false → length b.classes < 256
    → IsDraft kind b shape → IsNewName kind b (branch_of kind name shape)
new_fit Hfsc b name shape named new room h = search rules
new_fit Cbq b name shape named new room h = search rules

branch_fit : (b : Begun) (kind : Kind) (s : Statement) → IsBegun b → AreSound s.items → IfOk (read_branch b kind s) (IsNewName b.kind b)
branch_fit b kind s h sound =
    fit_refuse (IsNewName b.kind b) (not (same_kind kind b.kind)) _ _ (λ same.
    fit_some (IsNewName b.kind b) (name_at s.items 1) _ _ (λ name named.
    fit_refuse (IsNewName b.kind b) (is_full b) _ _ (λ room.
    let With : ClassDraft → Type 0 = λ shape. IsNewName b.kind b (branch_of b.kind name shape) in
    fit_then With (IsNewName b.kind b) (shape_of b s name) _
    (fit_refuse With (is_some (class_number name b.classes)) _ _ (λ free.
    fit_some With (name_at s.items 2) _ _ (λ parent there.
    IfOk-weaker (shape_below b s parent) (IsDraft b.kind b) With (λ shape is.
    new_fit b.kind b name shape (name_fit s.items 1 name sound named) free
    (leb-false 256 (length b.classes) room) is) (shape_fit b s parent h))))
    (λ shape is. is))))

-- A FILTER STATEMENT
read_fit : (b : Begun) (s : Statement) → AreSound s.items → IfOk (filter_read b s) (IsNewFilter b)
read_fit b s sound =
    fit_refuse (IsNewFilter b) (nat_le 1024 (length b.filters)) _ _ (λ few.
    fit_some (IsNewFilter b) (name_at s.items 1) _ _ (λ name named.
    fit_some (IsNewFilter b) (class_number name b.classes) _ _ (λ i number.
    fit_some (IsNewFilter b) (slice_get b.classes i) _ _ (λ c at.
    fit_refuse (IsNewFilter b) (is_hfsc b.kind && c.inner) _ _ (λ outer.
    fit_whole (IsNewFilter b) s.fault _ (record {
      class = c;
      at = at;
      outer = λ hfsc. rw hfsc at outer;
      parts = filter_fit s.form i (drop 2 s.items) (sound_drop 2 s.items sound);
      few = leb-false 1024 (length b.filters) few;
    }))))))

-- A CONDITIONER'S STATEMENT
meter_read_fit : (b : Begun) (s : Statement) → IfOk (conditioner_read b s) (IsNewConditioner b)
meter_read_fit b s =
    fit_some (IsNewConditioner b) (name_at s.items 1) _ _ (λ name named.
    fit_some (IsNewConditioner b) (class_number name b.classes) _ _ (λ i number.
    fit_some (IsNewConditioner b) (slice_get b.classes i) _ _ (λ c at.
    fit_refuse (IsNewConditioner b) (is_hfsc b.kind && c.inner) _ _ (λ outer.
    fit_refuse (IsNewConditioner b) (is_some c.class.meter) _ _ (λ first.
    fit_whole (IsNewConditioner b) s.fault _
    (record { class = c; at = at; outer = λ hfsc. rw hfsc at outer; rule = meter_fits (drop 2 s.items) }))))))

-- THE INTERFACES SO FAR: at most 16, each with a name of its own
record AreBegun (before : List Begun) : Type 0 where
  count : length before ≤ 16
  each : AtEach (λ k b. IsBegun b) before
  names : AreApart (map interface_name before)

none_begun : AreBegun []
none_begun = search (rules, arith)

-- another state of an interface
begun_set : (before : List Begun) (i : ℕ) (b c : Begun) → AreBegun before → slice_get before i ≡ Some b → IsBegun c → c.name ≡ b.name
    → AreBegun (slice_set before i c)
begun_set before i b c h at fit same_name = record {
  count = rw (length-set before i c) h.count;
  each = set_each (λ k x. IsBegun x) before i c h.each fit;
  names = rw (map_set_same interface_name before i b c at same_name) h.names;
}

-- an interface statement
word_rate : (rate : ℕ) (says : What) (items : List Item) → IsBetween 1000 most_rate rate → IsBetween 1000 most_rate (rate_by_word rate says items)
word_rate rate (what.Key key.Bandwidth) items h = number_or 1000 most_rate items rate h
word_rate rate _ items h = h

options_rate : (rate : ℕ) (items : List Item) → IsBetween 1000 most_rate rate → IsBetween 1000 most_rate (rate_by_options rate items)
options_rate rate [] h = h
options_rate rate (item ∷ items) h = options_rate (rate_by_word rate item.what items) items (word_rate rate item.what items h)

new_interface : (before : List Begun) (b : Begun) → AreBegun before → length before < 16 → IsBegun b → is_some (interface_number b.name before) ≡ false
    → AreBegun (before ++ b ∷ [])
new_interface before b h room fit new = record {
  count = omega (arith, length-append before (b ∷ []));
  each = push_each (λ k x. IsBegun x) before b h.each fit;
  names = rw (map-append interface_name before (b ∷ []))
      (push_apart (map interface_name before) b.name h.names (not_among interface_name b.name before new));
}

interface_fit : (before : List Begun) (s : Statement) → AreBegun before → AreSound s.items → IfOk (read_interface before s) AreBegun
interface_fit before s h sound =
    fit_some AreBegun (name_at s.items 0) _ _ (λ name named.
    fit_refuse AreBegun (are_full before) _ _ (λ room.
    let With : Kind → Type 0 = λ kind. AreBegun (before ++ begun s.line name (interface_rate s) kind ∷ []) in
    fit_then With AreBegun (interface_kind before s name) _
    (fit_refuse With (is_some (interface_number name before)) _ _ (λ free.
    fit_any With (kind_at_end s) (λ kind.
    let rate = options_rate 100000000 (drop 1 s.items) (omega arith) in
    new_interface before (begun s.line name (interface_rate s) kind) h (leb-false 16 (length before) room)
    (begun_fit s.line name (interface_rate s) kind (name_fit s.items 0 name sound named) rate) free)))
    (λ kind is. is)))

-- a statement about an interface
class_fit : (before : List Begun) (kind : Kind) (s : Statement) → AreBegun before → AreSound s.items → IfOk (read_class before kind s) AreBegun
class_fit before kind s h sound =
    fit_some AreBegun (name_at s.items 0) _ _ (λ name named.
    fit_some AreBegun (interface_number name before) _ _ (λ i number.
    fit_some AreBegun (slice_get before i) _ _ (λ b at.
    fit_then (IsNewName b.kind b) AreBegun (read_branch b kind s) _ (branch_fit b kind s (h.each i b at) sound) (λ c new.
    begun_set before i b (add_class b c) h at (class_added b c (h.each i b at) new) refl))))

to_filter_fit : (before : List Begun) (s : Statement) → AreBegun before → AreSound s.items → IfOk (read_filter before s) AreBegun
to_filter_fit before s h sound =
    fit_some AreBegun (name_at s.items 0) _ _ (λ name named.
    fit_some AreBegun (interface_number name before) _ _ (λ i number.
    fit_some AreBegun (slice_get before i) _ _ (λ b at.
    fit_then (IsNewFilter b) AreBegun (filter_read b s) _ (read_fit b s sound) (λ f new.
    begun_set before i b (add_filter b f) h at (filter_added b f (h.each i b at) new) refl))))

to_conditioner_fit : (before : List Begun) (s : Statement) → AreBegun before → IfOk (read_conditioner before s) AreBegun
to_conditioner_fit before s h =
    fit_some AreBegun (name_at s.items 0) _ _ (λ name named.
    fit_some AreBegun (interface_number name before) _ _ (λ i number.
    fit_some AreBegun (slice_get before i) _ _ (λ b at.
    fit_then (IsNewConditioner b) AreBegun (conditioner_read b s) _ (meter_read_fit b s) (λ c new.
    begun_set before i b (add_conditioner b c) h at (conditioner_added b c (h.each i b at) new) refl))))

form_fit : (of : Form) (before : List Begun) (s : Statement) → AreBegun before → AreSound s.items → IfOk (read_form of before s) AreBegun
form_fit form.Interface before s h sound = interface_fit before s h sound
form_fit form.ClassHfsc before s h sound = class_fit before Hfsc s h sound
form_fit form.ClassCbq before s h sound = class_fit before Cbq s h sound
form_fit form.Filter before s h sound = to_filter_fit before s h sound
form_fit form.Filter6 before s h sound = to_filter_fit before s h sound
form_fit form.Conditioner before s h sound = to_conditioner_fit before s h
form_fit form.Unread before s h sound = tt

-- AT THE END OF THE TEXT none is undecided
decided_by : (b : Bool) (fault : ConfPlace) (rest : Option ConfPlace) → cond b (Some fault) rest ≡ None → (b ≡ false) × (rest ≡ None)
decided_by b fault rest h = grind arith

decided_at : (bs : List Begun) → first_undecided bs ≡ None → AtEach (λ k b. undecided b ≡ false) bs
decided_at [] h k b at = cc
decided_at (a ∷ bs) h zero b at =
    let same : a ≡ b = cc in rw same at (decided_by (undecided a) _ (first_undecided bs) h).0
decided_at (a ∷ bs) h (suc k) b at = decided_at bs (decided_by (undecided a) _ (first_undecided bs) h).1 k b at

finished_fit : (bs : List Begun) (o : Option ConfPlace) → AreBegun bs → first_undecided bs ≡ o → IfOk (finished_unless bs o) AreFit
finished_fit bs (Some fault) h e = tt
finished_fit bs None h e = record {
  count = rw (length-map bs whole) h.count;
  interface = λ k i at.
      let t = map_back whole bs k i at in
      subst IsInterface t.2 (whole_fit t.0 (is_empty t.0.classes) refl (h.each k t.0 t.1) (decided_at bs e k t.0 t.1));
  names = apart_by whole (λ i. i.name) bs h.names;
}

reading_fit : (before : List Begun) (statements : List Statement) → AreBegun before → AreAllSound statements → IfOk (reading_from before statements) AreFit
reading_fit before [] h sound = finished_fit before (first_undecided before) h refl
reading_fit before (s ∷ statements) h sound =
    fit_next AreBegun AreFit (read_statement before s) (λ next. reading_from next statements) (form_fit s.form before s h sound.0)
    (λ next k. reading_fit next statements k sound.1)

pub configuration_fit : (statements : List Statement) (interfaces : List Interface) → AreAllSound statements → reading statements ≡ Ok interfaces
    → AreFit interfaces
configuration_fit statements interfaces sound e = IfOk-at_ok AreFit e (reading_fit [] statements none_begun sound)
