-- The meters of a configuration are in their ranges: those that conditioners give, and there are no others.
use Rattle.std.proofs.Common.{◌≡◌, ℕ, ◌≤◌, ◌&&◌, Bool, true, false, List, [], ◌∷◌, ◌++◌, All, map, drop, Option, Some, None, Result, Ok, Err, IfOk, is_some, not, slice_get, slice_set, unwrap_or, nat_le, leb-true, refl, subst, sym, arith}
use Rattle.std.proofs.lemmas.Bool.{and_parts, cond_both}
use Rattle.std.proofs.lemmas.List.Elements.{All-nil, All-append, All-map, All-set, All-get_or, All-weaker, All-from_recursion}
use Rattle.std.proofs.lemmas.Option.{get_or_from_slice_get, slice_get_within}
use Rattle.conf_lines.specs.declared.fault.ConfPlace.{ConfPlace}
use Rattle.conf_lines.specs.declared.item.Item.{Item}
use Rattle.conf_lines.specs.declared.statement.Form.{Form}
use Rattle.conf_lines.specs.declared.statement.Form.TheVariants as form
use Rattle.conf_lines.specs.declared.statement.Statement.{Statement}
use Rattle.conf_lines.specs.Options.{most_rate, most_burst, most_af}
use Rattle.traffic_meter.specs.declared.rule.MeterRule.{MeterRule}
use Rattle.conf_tree.specs.declared.branch.Branch.{Branch}
use Rattle.conf_tree.specs.declared.class.Class.{Class}
use Rattle.conf_tree.specs.declared.conditioner.Conditioner.{Conditioner}
use Rattle.conf_tree.specs.declared.interface.Interface.{Interface}
use Rattle.conf_tree.specs.declared.interface.Kind.{Kind}
use Rattle.conf_tree.specs.declared.interface.Kind.TheVariants.{Hfsc, Cbq}
use Rattle.conf_tree.specs.Classes.{is_hfsc, same_kind, is_full, shape_of, read_branch, read_class}
use Rattle.conf_tree.specs.Conditioners.{number_or_least, is_single, single_of, two_of, meter_of, conditioner_read, read_conditioner}
use Rattle.conf_tree.specs.Filters.{says}
use Rattle.conf_tree.specs.FilterStatements.{filter_read, read_filter}
use Rattle.conf_tree.specs.Interfaces.{are_full, interface_kind, interface_rate, read_interface}
use Rattle.conf_tree.specs.Items.{name_at, within, number_in}
use Rattle.conf_tree.specs.Meters.{IsMeter, IsMeterIfAny}
use Rattle.conf_tree.specs.Reading.{read_form, read_statement, reading_from}
use Rattle.conf_tree.specs.Tests.{◌>>=◌, some, refuse, own}
use Rattle.conf_tree.specs.Tree.{Begun, begun, interface_number, class_number, as_parent, as_filtered, as_metered, changed, changed_to, with_parent}
use Rattle.conf_tree.specs.Whole.{is_empty, implied_classes, whole, first_undecided, finished_unless}

-- what tests one after the other come to
of_next : {A B : Type 0} (R : A → Type 0) (Q : B → Type 0) (r : Result A ConfPlace) (next : A → Result B ConfPlace) → IfOk r R
    → ((x : A) → R x → IfOk (next x) Q) → IfOk (r >>= next) Q
of_next R Q (Ok x) next h k = k x h
of_next R Q (Err fault) next h k = tt

of_any : {A B : Type 0} (Q : B → Type 0) (r : Result A ConfPlace) (next : A → Result B ConfPlace) → ((x : A) → IfOk (next x) Q) → IfOk (r >>= next) Q
of_any Q (Ok x) next k = k x
of_any Q (Err fault) next k = tt

of_some : {A B : Type 0} (Q : B → Type 0) (o : Option A) (fault : ConfPlace) (next : A → Result B ConfPlace) → ((x : A) → IfOk (next x) Q)
    → IfOk (some o fault >>= next) Q
of_some Q None fault next k = tt
of_some Q (Some x) fault next k = k x

of_refuse : {B : Type 0} (Q : B → Type 0) (t : Bool) (fault : ConfPlace) (next : Unit {0} → Result B ConfPlace) → IfOk (next tt) Q
    → IfOk (refuse t fault >>= next) Q
of_refuse Q true fault next k = tt
of_refuse Q false fault next k = k

of_own : {B : Type 0} (Q : B → Type 0) (o : Option ConfPlace) (next : Unit {0} → Result B ConfPlace) → IfOk (next tt) Q → IfOk (own o >>= next) Q
of_own Q None next k = k
of_own Q (Some fault) next k = tt

-- what stands at a place of a list, where it holds of all
at_place : {X : Type 0} (P : X → Type 0) (xs : List X) (i : ℕ) (x : X) → All P xs → slice_get xs i ≡ Some x → P x
at_place P xs i x all at = subst P (get_or_from_slice_get xs i x x at) (All-get_or P xs i x (slice_get_within xs i x at) all)

of_place : {X B : Type 0} (P : X → Type 0) (Q : B → Type 0) (xs : List X) (i : ℕ) (fault : ConfPlace) (next : X → Result B ConfPlace) → All P xs
    → ((x : X) → P x → IfOk (next x) Q) → IfOk (some (slice_get xs i) fault >>= next) Q
of_place {X} P Q xs i fault next all k = by (slice_get xs i) refl
  where
    by : (o : Option X) → slice_get xs i ≡ o → IfOk (some o fault >>= next) Q
    by None at = tt
    by (Some x) at = k x (at_place P xs i x all at)

-- A NUMBER OF A RANGE, and the meter of a conditioner
abbrev IsFrom : ℕ → ℕ → ℕ → Type 0
IsFrom low high n = (low ≤ n) × (n ≤ high)

within_range : (low high : ℕ) (o : Option ℕ) → low ≤ high → IsFrom low high (unwrap_or (within low high o) low)
within_range low high None h = (omega arith, h)
within_range low high (Some n) h =
    cond_both (nat_le low n && nat_le n high) (Some n) None (λ o. IsFrom low high (unwrap_or o low))
    (λ e. let parts = and_parts (nat_le low n) (nat_le n high) e in (leb-true low n parts.0, leb-true n high parts.1)) (λ e. (omega arith, h))

ranged : (low high : ℕ) (items : List Item) (i : ℕ) → low ≤ high → IsFrom low high (number_or_least low high items i)
ranged low high items i h = within_range low high (number_in (slice_get items i)) h

single_fits : (items : List Item) → IsMeter (single_of items)
single_fits items =
    let rate = ranged 1000 most_rate items 1 (omega arith) in
    let burst = ranged 1 most_burst items 2 (omega arith) in
    let af = ranged 1 most_af items 4 (omega arith) in
    record {
      rate_least = rate.0;
      rate_most = rate.1;
      burst_least = burst.0;
      burst_most = burst.1;
      excess_most = (ranged 0 most_burst items 3 (omega arith)).1;
      af_least = af.0;
      af_most = af.1;
    }

two_fits : (items : List Item) → IsMeter (two_of items)
two_fits items =
    let pir = number_or_least 1000 most_rate items 1 in
    let peak = ranged 1000 most_rate items 1 (omega arith) in
    let peak_burst = ranged 1 most_burst items 2 (omega arith) in
    let rate = ranged 1000 pir items 3 peak.0 in
    let burst = ranged 1 most_burst items 4 (omega arith) in
    let af = ranged 1 most_af items 5 (omega arith) in
    record {
      peak_most = peak.1;
      peak_burst_least = peak_burst.0;
      peak_burst_most = peak_burst.1;
      rate_least = rate.0;
      rate_most = rate.1;
      burst_least = burst.0;
      burst_most = burst.1;
      af_least = af.0;
      af_most = af.1;
    }

pub meter_fits : (items : List Item) → IsMeter (meter_of items)
meter_fits items =
    cond_both (says is_single (slice_get items 0)) (single_of items) (two_of items) IsMeter (λ e. single_fits items) (λ e. two_fits items)

-- THE STATEMENTS
abbrev pub HasMeter : Branch → Type 0
HasMeter c = IsMeterIfAny c.class.meter

abbrev pub HasMeters : Begun → Type 0
HasMeters b = All HasMeter b.classes

abbrev AllHave : List Begun → Type 0
AllHave before = All HasMeters before

changed_fits : (classes : List Branch) (i : ℕ) (change : Branch → Branch) → All HasMeter classes → ((c : Branch) → HasMeter c → HasMeter (change c))
    → All HasMeter (changed classes i change)
changed_fits classes i change h k = by (slice_get classes i) refl
  where
    by : (o : Option Branch) → slice_get classes i ≡ o → All HasMeter (changed_to classes i change o)
    by None at = h
    by (Some c) at = All-set HasMeter classes i (change c) (k c (at_place HasMeter classes i c h at)) h

parent_fits : (classes : List Branch) (parent : Option ℕ) → All HasMeter classes → All HasMeter (with_parent classes parent)
parent_fits classes None h = h
parent_fits classes (Some i) h = changed_fits classes i as_parent h (λ c k. k)

interface_fits : (before : List Begun) (s : Statement) → AllHave before → IfOk (read_interface before s) AllHave
interface_fits before s h =
    of_some AllHave (name_at s.items 0) _ _ λ name.
    of_refuse AllHave (are_full before) _ _
    (of_any AllHave (interface_kind before s name) _ λ kind.
    let new = begun s.line name (interface_rate s) kind in
    All-append HasMeters before (new ∷ []) h (All-from_recursion HasMeters (new ∷ []) (All-nil HasMeter, tt)))

-- a class statement gives a class without a meter
branch_bare : (b : Begun) (kind : Kind) (s : Statement) → IfOk (read_branch b kind s) (λ c. c.class.meter ≡ None)
branch_bare b kind s =
    let Bare : Branch → Type 0 = λ c. c.class.meter ≡ None in
    of_refuse Bare (not (same_kind kind b.kind)) _ _
    (of_some Bare (name_at s.items 1) _ _ λ name.
    of_refuse Bare (is_full b) _ _
    (of_any Bare (shape_of b s name) _ λ shape. refl))

class_fits : (before : List Begun) (kind : Kind) (s : Statement) → AllHave before → IfOk (read_class before kind s) AllHave
class_fits before kind s h =
    of_some AllHave (name_at s.items 0) _ _ λ name.
    of_some AllHave (interface_number name before) _ _ λ i.
    of_place HasMeters AllHave before i _ _ h λ b meters.
    of_next (λ c. c.class.meter ≡ None) AllHave (read_branch b kind s) _ (branch_bare b kind s) λ c bare.
    All-set HasMeters before i _
    (All-append HasMeter (with_parent b.classes c.class.parent) (c ∷ []) (parent_fits b.classes c.class.parent meters)
    (All-from_recursion HasMeter (c ∷ []) (subst IsMeterIfAny (sym bare) tt, tt))) h

filter_fits : (before : List Begun) (s : Statement) → AllHave before → IfOk (read_filter before s) AllHave
filter_fits before s h =
    of_some AllHave (name_at s.items 0) _ _ λ name.
    of_some AllHave (interface_number name before) _ _ λ i.
    of_place HasMeters AllHave before i _ _ h λ b meters.
    of_any AllHave (filter_read b s) _ λ f. All-set HasMeters before i _ (changed_fits b.classes f.class as_filtered meters (λ c k. k)) h

conditioned : (b : Begun) (s : Statement) → IfOk (conditioner_read b s) (λ c. IsMeter c.rule)
conditioned b s =
    let Metered : Conditioner → Type 0 = λ c. IsMeter c.rule in
    of_some Metered (name_at s.items 1) _ _ λ name.
    of_some Metered (class_number name b.classes) _ _ λ i.
    of_some Metered (slice_get b.classes i) _ _ λ c.
    of_refuse Metered (is_hfsc b.kind && c.inner) _ _
    (of_refuse Metered (is_some c.class.meter) _ _ (of_own Metered s.fault _ (meter_fits (drop 2 s.items))))

conditioner_fits : (before : List Begun) (s : Statement) → AllHave before → IfOk (read_conditioner before s) AllHave
conditioner_fits before s h =
    of_some AllHave (name_at s.items 0) _ _ λ name.
    of_some AllHave (interface_number name before) _ _ λ i.
    of_place HasMeters AllHave before i _ _ h λ b meters.
    of_next (λ c. IsMeter c.rule) AllHave (conditioner_read b s) _ (conditioned b s) λ c is.
    All-set HasMeters before i _ (changed_fits b.classes c.class (as_metered c.rule) meters (λ d k. is)) h

form_fits : (form : Form) (before : List Begun) (s : Statement) → AllHave before → IfOk (read_form form before s) AllHave
form_fits form.Interface before s h = interface_fits before s h
form_fits form.ClassHfsc before s h = class_fits before Hfsc s h
form_fits form.ClassCbq before s h = class_fits before Cbq s h
form_fits form.Filter before s h = filter_fits before s h
form_fits form.Filter6 before s h = filter_fits before s h
form_fits form.Conditioner before s h = conditioner_fits before s h
form_fits form.Unread before s h = tt

-- THE END, where the implied classes have no meter
abbrev pub HasClassMeter : Class → Type 0
HasClassMeter c = IsMeterIfAny c.meter

abbrev pub IsMetered : Interface → Type 0
IsMetered i = All HasClassMeter i.classes

implied_fits : (kind : Kind) (rate : ℕ) → All HasClassMeter (implied_classes kind rate)
implied_fits Hfsc rate = All-from_recursion HasClassMeter (implied_classes Hfsc rate) (tt, (tt, tt))
implied_fits Cbq rate = All-from_recursion HasClassMeter (implied_classes Cbq rate) (tt, (tt, tt))

whole_fits : (b : Begun) → HasMeters b → IsMetered (whole b)
whole_fits b h =
    cond_both (is_empty b.classes) (implied_classes b.kind b.rate) (map (λ c. c.class) b.classes) (All HasClassMeter)
    (λ e. implied_fits b.kind b.rate) (λ e. All-map HasClassMeter (λ (c : Branch). c.class) b.classes h)

finished_fits : (before : List Begun) (o : Option ConfPlace) → AllHave before → IfOk (finished_unless before o) (All IsMetered)
finished_fits before None h = All-map IsMetered whole before (All-weaker HasMeters (λ b. IsMetered (whole b)) whole_fits before h)
finished_fits before (Some fault) h = tt

then_fits : (statements : List Statement) (r : Result (List Begun) ConfPlace) → IfOk r AllHave
    → ((after : List Begun) → AllHave after → IfOk (reading_from after statements) (All IsMetered))
    → IfOk (elim r [ Ok after ↦ reading_from after statements | Err fault ↦ Err fault ]) (All IsMetered)
then_fits statements (Ok after) all k = k after all
then_fits statements (Err fault) all k = tt

pub reading_fits : (before : List Begun) (statements : List Statement) → AllHave before → IfOk (reading_from before statements) (All IsMetered)
reading_fits before [] h = finished_fits before (first_undecided before) h
reading_fits before (s ∷ statements) h =
    then_fits statements (read_statement before s) (form_fits s.form before s h) (λ after all. reading_fits after statements all)
