-- The options of classes, as the canonical text has them: each is read where an option may stand, and sets what it says.
use Rattle.std.proofs.Common.{◌≡◌, ℕ, ◌+◌, ◌/◌, ◌^◌, Bool, true, false, List, [], ◌∷◌, ◌++◌, Option, Some, None, Ok, is_some, refl, ap, ◌∙◌, cond, arith, append_assoc, append-nil, ◌<◌, ◌≤◌, ◌&&◌, ◌||◌, map, length}
use Rattle.std.proofs.Math.Bool.{and-false, and-true, or-true, or_comm}
use Rattle.std.proofs.lemmas.List.{append_assoc, append-nil, length-append}
use Rattle.std.specs.List.{AllByRecursion as Every}
use Rattle.service_curve.specs.declared.Curve.{Curve}
use Rattle.conf_lines.proofs.GrammarPlaces.{at_option}
use Rattle.conf_lines.specs.Grammar.{step, end}
use Rattle.conf_lines.specs.Options.{most_rate, slots_of, word_of_key, completes, option_of}
use Rattle.conf_lines.specs.Slots.{is_text}
use Rattle.conf_lines.specs.Texts.{read_from}
use Rattle.conf_lines.specs.declared.item.Item.{Item}
use Rattle.conf_lines.specs.declared.item.What.{What}
use Rattle.conf_lines.specs.declared.item.What.TheVariants as what
use Rattle.conf_lines.specs.declared.options.Key.{Key}
use Rattle.conf_lines.specs.declared.options.Key.TheVariants as key
use Rattle.conf_lines.specs.declared.options.Slots.TheVariants.{Nothing, Whole, Curve as Slopes}
use Rattle.conf_lines.specs.declared.statement.Form.{Form}
use Rattle.conf_lines.specs.declared.statement.Form.TheVariants as form
use Rattle.conf_tree.specs.Canonical.{key_where, drop_whats, curve_whats, class_options, queue_options, class_form, hfsc_options, cbq_options}
use Rattle.conf_tree.specs.Items.{number_behind}
use Rattle.conf_tree.specs.Options.{set_options}
use Rattle.conf_tree.specs.Printed.{word_of}
use Rattle.conf_tree.specs.Settings.{unset, rate_of_kind, of_kind, class_of, curve_behind, set_option}
use Rattle.conf_tree.specs.declared.class.Class.{Class}
use Rattle.conf_tree.specs.declared.class.DropRule.{DropRule}
use Rattle.conf_tree.specs.declared.class.DropRule.TheVariants.{Tail, Red, Ecn, Rio}
use Rattle.conf_tree.specs.declared.interface.Kind.{Kind}
use Rattle.conf_tree.specs.declared.interface.Kind.TheVariants.{Hfsc, Cbq}
use Rattle.conf_laws.specs.Fit.{IsBetween, IsCurveIfAny, IsOfKind, IsCbqClass, IsHfscClass}
use Rattle.conf_laws.specs.Statements.{numbered}
use Rattle.conf_laws.proofs.Bytes.{every-append}
use Rattle.conf_laws.proofs.CurvesRead.{within_is, not_upward, curve_is}
use Rattle.conf_laws.proofs.Lines.{MaySay}
use Rattle.conf_laws.proofs.Printed.{rate_is_read, whole_is_read}
use Rattle.conf_laws.proofs.Types.{ReadContext, Settings}

-- READING AND SETTING
abbrev Reads : ℕ → Form → Bool → List What → ℕ → Type 0
Reads line form completed whats at =
    read_from line (map word_of whats) (at_option form completed) at ≡ record { form = form; items = numbered at whats; fault = None }

-- between two options of a statement: whether the options before it complete the statement, and the settings that they made
pub record Between : Type 0 where
  pub completed : Bool
  pub made : Settings

abbrev pub between : (completed : Bool) → Settings → Between
between completed made = record { completed = completed; made = made }

-- Options that lead from a place where an option may stand to another such place: whatever follows, they are read as what they say, and
-- change the settings as the two places tell. `is_default` says whether the class is the default class; no class before it is one then.
-- `most` is how many words they have at most.
pub record Part (form : Form) (is_default : Bool) (before after : Between) (whats : List What) (most : ℕ) : Type 0 where
  pub may : Every MaySay whats
  pub few : length whats ≤ most
  pub read : (line : ℕ) (rest : List What) → ((at : ℕ) → Reads line form after.completed rest at) → (at : ℕ) → Reads line form before.completed (whats ++ rest) at
  pub set : (scope : ReadContext) → (is_default ≡ true → scope.chosen ≡ false) → (at : ℕ) (rest : List What)
      → (next : ℕ) × (set_options scope before.made (numbered at (whats ++ rest)) ≡ set_options scope after.made (numbered next rest))

-- nothing sets what the settings have already
none : {form : Form} {is_default completed : Bool} {s t : Settings} {most : ℕ} → s ≡ t → Part form is_default (between completed s) (between completed t) [] most
none e = record {
  may = tt;
  few = omega arith;
  read = λ line rest next at. next at;
  set = λ scope chosen at rest. (at, ap (λ x. set_options scope x (numbered at rest)) e);
}

infixr 10 ◌>>◌
◌>>◌ : {form : Form} {is_default : Bool} {before middle after : Between} {ws vs : List What} {m n : ℕ} → Part form is_default before middle ws m
    → Part form is_default middle after vs n → Part form is_default before after (ws ++ vs) (m + n)
◌>>◌ {ws = ws} {vs = vs} first second = record {
  may = every-append MaySay ws vs first.may second.may;
  few = let a = first.few in let b = second.few in omega (arith, length-append ws vs);
  read = λ line rest next at. rw append_assoc (first.read line (vs ++ rest) (second.read line rest next) at);
  set = λ scope chosen at rest.
      let (mid, a) = first.set scope chosen at (vs ++ rest) in
      let (end, b) = second.set scope chosen mid rest in
      (end, rw append_assoc (a ∙ b));
}

-- OPTIONS
-- by their rows of the table of options: the word of each is found, what stands behind it, and whether it completes a statement; `set` is
-- what it sets
number_part : {form : Form} {is_default completed settling : Bool} {s : Settings} (k : Key) {low high n : ℕ} (set : Settings → ℕ → Settings)
    → option_of form (word_of_key k) ≡ Some k → slots_of k ≡ Whole low high → completes k ≡ settling
    → ((scope : ReadContext) (at : ℕ) (items : List Item) → number_behind k items ≡ Some n → set_option scope s at k items ≡ Ok (set s n))
    → IsBetween low high n → high < 2 ^ 64
    → Part form is_default (between completed s) (between (settling || completed) (set s n)) (what.Key k ∷ what.Whole n ∷ []) 2
unfolding step
number_part {completed = completed} {settling} k {low} {high} {n} set found in_slots completes sets is small = record {
  may = search arith;
  few = omega arith;
  read = λ line rest next at.
      rw (read_from, found, in_slots, completes, or_comm completed settling, whole_is_read low high n is small, next (at + 1 + 1)) refl;
  set = λ scope chosen at rest.
      let items = numbered (at + 1) (what.Whole n ∷ rest) in
      (at + 1 + 1, rw (set_options, sets scope at items (rw in_slots (within_is low high n is))) refl);
}

rate_part : {is_default completed : Bool} {s : Settings} {n : ℕ} → IsBetween 1000 most_rate n
    → Part form.ClassCbq is_default (between completed s) (between true (record s { rate = Some n })) (what.Key key.Exactbandwidth ∷ what.Rate n ∷ []) 2
unfolding step is_text
rate_part {completed = completed} {n = n} is = record {
  may = search arith;
  few = omega arith;
  read = λ line rest next at. rw (read_from, or-true completed, rate_is_read 1000 most_rate n is (omega arith), next (at + 1 + 1)) refl;
  set = λ scope chosen at rest. (at + 1 + 1, rw (within_is 1000 most_rate n is) refl);
}

-- options that are there or not
flag_part : {form : Form} {is_default completed : Bool} {s : Settings} (k : Key) (set : Settings → Bool → Settings) (there : Bool)
    → option_of form (word_of_key k) ≡ Some k → slots_of k ≡ Nothing → completes k ≡ false → s ≡ set s false
    → ((scope : ReadContext) (at : ℕ) (items : List Item) → there ≡ true → (is_default ≡ true → scope.chosen ≡ false)
    → set_option scope s at k items ≡ Ok (set s true))
    → Part form is_default (between completed s) (between completed (set s there)) (key_where k there) 1
unfolding step
flag_part k set false found in_slots completes unset sets = none unset
flag_part {completed = completed} k set true found in_slots completes unset sets = record {
  may = search arith;
  few = omega arith;
  read = λ line rest next at. rw (read_from, found, in_slots, completes, or_comm completed false, next (at + 1)) refl;
  set = λ scope chosen at rest. (at + 1, rw (set_options, sets scope at (numbered (at + 1) rest) refl chosen) refl);
}

curve_part : {form : Form} {is_default completed settling : Bool} {s : Settings} (k : Key) {low least : ℕ} (set : Settings → Option Curve → Settings)
    (o : Option Curve) → option_of form (word_of_key k) ≡ Some k → slots_of k ≡ Slopes low least → completes k ≡ settling → s ≡ set s None
    → ((scope : ReadContext) (at : ℕ) (items : List Item) (c : Curve) → curve_behind k items ≡ Some c → set_option scope s at k items ≡ Ok (set s (Some c)))
    → IsCurveIfAny low least o → Part form is_default (between completed s) (between (settling && is_some o || completed) (set s o)) (curve_whats k o) 4
unfolding step
curve_part {settling = settling} k set None found in_slots completes unset sets is = rw (and-false settling) (none unset)
curve_part {completed = completed} {settling} k {low} {least} set (Some c) found in_slots completes unset sets is =
    let m1 = rate_is_read low most_rate c.m1 is.first (omega arith) in
    let d = whole_is_read 0 1000000 (c.d / 10 ^ 6) (omega arith) (omega arith) in
    let m2 = rate_is_read least most_rate c.m2 is.second (omega arith) in
    let upward = not_upward c.m1 (c.d / 10 ^ 6) c.m2 is.upward in
    record {
      may = search arith;
      few = omega arith;
      read = λ line rest next at.
          rw (read_from, found, in_slots, completes, or_comm completed settling, m1, d, m2, upward, ← and-true settling, next (at + 1 + 1 + 1 + 1)) refl;
      set = λ scope chosen at rest.
          let items = numbered (at + 1) (what.Rate c.m1 ∷ what.Whole (c.d / 10 ^ 6) ∷ what.Rate c.m2 ∷ rest) in
          (at + 1 + 1 + 1 + 1, rw (set_options, sets scope at items c (rw in_slots (curve_is low least c is))) refl);
    }

-- an option of both kinds of classes
shared : (kind : Kind) {k : Key} → option_of form.ClassHfsc (word_of_key k) ≡ Some k → option_of form.ClassCbq (word_of_key k) ≡ Some k
    → option_of (class_form kind) (word_of_key k) ≡ Some k
shared Hfsc hfsc cbq = hfsc
shared Cbq hfsc cbq = cbq

drop_part : (kind : Kind) {is_default completed : Bool} (s : Settings) (drop : DropRule) → s.drop ≡ Tail
    → Part (class_form kind) is_default (between completed s) (between completed (record s { drop = drop })) (drop_whats drop) 1
unfolding is_text
drop_part kind s Tail tail = none (ap (λ x. record s { drop = x }) tail)
drop_part kind s Red tail = flag_part key.Red (λ s b. record s { drop = cond b Red s.drop }) true (shared kind refl refl) refl refl refl (λ _ _ _ _ _. refl)
drop_part kind s Ecn tail = flag_part key.Ecn (λ s b. record s { drop = cond b Ecn s.drop }) true (shared kind refl refl) refl refl refl (λ _ _ _ _ _. refl)
drop_part kind s Rio tail = flag_part key.Rio (λ s b. record s { drop = cond b Rio s.drop }) true (shared kind refl refl) refl refl refl (λ _ _ _ _ _. refl)

queue_part : (kind : Kind) {is_default completed : Bool} (s : Settings) (c : Class) → IsBetween 1 10000 c.limit → s.drop ≡ Tail → s.clear ≡ false
    → Part (class_form kind) is_default (between completed s) (between completed (record s { limit = c.limit; drop = c.drop; clear = c.clear })) (queue_options c) 4
unfolding is_text
queue_part kind s c limit tail unclear =
    number_part key.Qlimit (λ s n. record s { limit = n }) (shared kind refl refl) refl refl (λ _ _ _ found. rw found refl) limit (omega arith)
    >> drop_part kind _ c.drop tail
    >> flag_part key.Cleardscp (λ s b. record s { clear = b }) c.clear (shared kind refl refl) refl refl
    (ap (λ x. record s { limit = c.limit; drop = c.drop; clear = x }) unclear) (λ _ _ _ _ _. refl)

-- what all options of a class set: those of both kinds, and those of its own
abbrev both_set : Class → Settings
both_set c = record unset { limit = c.limit; drop = c.drop; clear = c.clear; is_default = c.is_default }

abbrev pub settings_of : Kind → Class → Settings
settings_of Hfsc c = record (both_set c) { real = c.real; fixed = is_some c.real; share = c.share; upper = c.upper }
settings_of Cbq c =
    record (both_set c) { rate = Some c.rate; priority = c.priority; borrow = c.borrow; control = c.control; maxburst = c.maxburst; packetsize = c.packetsize }

pub hfsc_part : {completed : Bool} (c : Class) → IsHfscClass c → IsBetween 1 10000 c.limit
    → Part form.ClassHfsc c.is_default (between completed unset) (between (is_some c.share || completed) (settings_of Hfsc c)) (hfsc_options c) 17
unfolding is_text
hfsc_part c is limit =
    curve_part key.Rt (λ s o. record s { real = o; fixed = is_some o }) c.real refl refl refl refl (λ _ _ _ _ found. rw found refl) is.real
    >> curve_part key.Ls (λ s o. record s { share = o }) c.share refl refl refl refl (λ _ _ _ _ found. rw found refl) is.share
    >> curve_part key.Ul (λ s o. record s { upper = o }) c.upper refl refl refl refl (λ _ _ _ _ found. rw found refl) is.upper
    >> queue_part Hfsc _ c limit refl refl
    >> flag_part key.Default (λ s b. record s { is_default = b }) c.is_default refl refl refl refl (λ _ _ _ on chosen. rw (chosen on) refl)

pub cbq_part : {completed : Bool} (c : Class) → IsCbqClass c → IsBetween 1 10000 c.limit
    → Part form.ClassCbq c.is_default (between completed unset) (between true (settings_of Cbq c)) (cbq_options c) 15
unfolding is_text
cbq_part c is limit =
    (number_part key.Priority (λ s n. record s { priority = n }) refl refl refl (λ _ _ _ found. rw found refl) (omega (arith, is.priority)) (omega arith)
    >> rate_part is.rate)
    >> flag_part key.Borrow (λ s b. record s { borrow = b }) c.borrow refl refl refl refl (λ _ _ _ _ _. refl)
    >> (number_part key.Maxburst (λ s n. record s { maxburst = n }) refl refl refl (λ _ _ _ found. rw found refl) is.maxburst (omega arith)
    >> number_part key.Packetsize (λ s n. record s { packetsize = n }) refl refl refl (λ _ _ _ found. rw found refl) is.packetsize (omega arith))
    >> queue_part Cbq _ c limit refl refl
    >> flag_part key.Control (λ s b. record s { control = b }) c.control refl refl refl refl (λ _ _ _ _ _. refl)
    >> flag_part key.Default (λ s b. record s { is_default = b }) c.is_default refl refl refl refl (λ _ _ _ on chosen. rw (chosen on) refl)

-- what options say and set with nothing behind them; a statement that is completed may end there
pub all_read : {form : Form} {is_default : Bool} {before : Between} {made : Settings} {whats : List What} {most : ℕ}
    → Part form is_default before (between true made) whats most → (line at : ℕ) → Reads line form before.completed whats at
unfolding end
all_read part line at = rw append-nil at (part.read line [] (λ at. refl) at)

all_set : {form : Form} {is_default : Bool} {before after : Between} {whats : List What} {most : ℕ} (scope : ReadContext) (at : ℕ)
    → Part form is_default before after whats most → (is_default ≡ true → scope.chosen ≡ false)
    → set_options scope before.made (numbered at whats) ≡ Ok after.made
all_set scope at part chosen = rw append-nil at (part.set scope chosen at []).1

pub options_read : (scope : ReadContext) (kind : Kind) (c : Class) (at : ℕ) → IsBetween 1 10000 c.limit → IsOfKind kind c
    → (c.is_default ≡ true → scope.chosen ≡ false)
    → set_options scope unset (numbered at (class_options kind c)) ≡ Ok (settings_of kind c)
options_read scope Hfsc c at limit own chosen = all_set scope at (hfsc_part {completed = true} c own limit) chosen
options_read scope Cbq c at limit own chosen = all_set scope at (cbq_part {completed = true} c own limit) chosen

-- a class is that of its settings, but for its meter: what only the other kind has is nothing
pub class_is : (kind : Kind) (c : Class) → IsOfKind kind c → record c { meter = None } ≡ class_of c.name c.parent (rate_of_kind kind c.rate) (of_kind kind (settings_of kind c))
class_is Hfsc c h = λ i. record c {
  rate = h.rate i;
  priority = h.priority i;
  borrow = h.borrow i;
  control = h.control i;
  maxburst = h.maxburst i;
  packetsize = h.packetsize i;
  meter = None;
}
class_is Cbq c h = λ i. record c { real = h.real i; share = h.share i; upper = h.upper i; meter = None }
