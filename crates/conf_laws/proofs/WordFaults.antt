-- Two texts that agree up to and with the word of a fault have the same fault.
use Rattle.std.proofs.Common.{◌≡◌, ◌⊎◌, inl, inr, ⊎_elim, ℕ, zero, suc, ◌+◌, ◌<◌, ◌≤◌, ◌&&◌, ◌||◌, ◌∙◌, Bool, true, false, cond, not, All, List, [], ◌∷◌, ◌++◌, length, drop, Option, Some, None, Result, Ok, Err, is_some, is_none, slice_get, bytes_eq, codes, nat_le, nat_lt, refl, sym, ap, arith, length-append}
use Rattle.std.specs.Option.{IfSome}
use Rattle.std.specs.Result.{IfErr}
use Rattle.std.proofs.lemmas.Bool.Decides.{nat_tests}
use Rattle.std.proofs.lemmas.Bool.{cases_lt, cond_both}
use Rattle.std.proofs.lemmas.List.Elements.{All-head, All-tail, All-drop, All-nil, All-cons}
use Rattle.std.proofs.lemmas.Result.{IfErr-at_err}
use Rattle.conf_lines.specs.declared.fault.ConfKind.TheVariants.{MissingWord, RateRange, InterfaceTwice, NoInterface, WrongDiscipline, NameTaken, NoParent, TwoRoots, TooDeep, TooManyClasses, TooManyFilters, TooManyInterfaces, NoShare, RealTimeInside, InnerQueue, TwoDefaults, NoClass, ConditionerTwice}
use Rattle.conf_lines.specs.declared.fault.ConfKind.{ConfKind}
use Rattle.conf_lines.specs.declared.fault.ConfPlace.{ConfPlace}
use Rattle.conf_lines.specs.declared.item.Item.{Item}
use Rattle.conf_lines.specs.declared.item.What.TheVariants as what
use Rattle.conf_lines.specs.declared.item.What.{What}
use Rattle.conf_lines.specs.declared.options.Key.TheVariants as key
use Rattle.conf_lines.specs.declared.statement.Form.TheVariants as form
use Rattle.conf_lines.specs.declared.statement.Form.{Form}
use Rattle.conf_lines.specs.declared.statement.Statement.{Statement}
use Rattle.conf_lines.specs.Options.{most_rate}
use Rattle.conf_lines.specs.Texts.{Reading, as_statement}
use Rattle.conf_lines.proofs.LineSplit.{first_item, LinesAgree, lines_agree}
use Rattle.conf_lines.proofs.Readings.{IsLate, AreLate, IsOn}
use Rattle.conf_tree.specs.declared.interface.Kind.TheVariants.{Hfsc, Cbq}
use Rattle.conf_tree.specs.declared.interface.Kind.{Kind}
use Rattle.conf_tree.specs.Classes.{is_hfsc, same_kind, is_queue, spot_of, rate_given, rate_at_end, scope_of, shape_below, shape_of, is_full, class_named, read_branch, read_class}
use Rattle.conf_tree.specs.Conditioners.{conditioner_read, read_conditioner}
use Rattle.conf_tree.specs.FilterStatements.{filter_named, filter_read, read_filter}
use Rattle.conf_tree.specs.Interfaces.{interface_kind, are_full, read_interface}
use Rattle.conf_tree.specs.Items.{name_in, name_at, number_behind, word_at}
use Rattle.conf_tree.specs.Options.{kind_by_options, set_by_word, set_options}
use Rattle.conf_tree.specs.Places.{fault_at, at_word, own_or_end, own_fault}
use Rattle.conf_tree.specs.Reading.{read_form, read_statement, reading}
use Rattle.conf_tree.specs.Settings.{unset, percent, set_percent}
use Rattle.conf_tree.specs.Tests.{◌>>=◌, some}
use Rattle.conf_tree.specs.Tree.{Begun, interface_number, class_number}
use Rattle.conf_tree.proofs.StandingFaults.{read_all, then_read, reading-append, at_end_or_read}
use Rattle.conf_laws.specs.Laws.{line_of_words}
use Rattle.conf_laws.proofs.InTurn.{so_option, so_some, so_refuse, so_both, so_next, so_front, so_then, so_own, so_last}
use Rattle.conf_laws.proofs.Types.{Settings, ReadContext, TreePosition}

-- `Q` holds of each fault at the word of an item
abbrev AtItem : (ConfPlace → Type 0) → ℕ → Item → Type 0
AtItem Q line item = (kind : ConfKind) → Q (fault_at line item.word kind)

-- THE OPTIONS of a class: what a word makes of `is_default`, or its fault, which depends on no other setting
abbrev test : ReadContext → Bool → ℕ → What → ℕ → Option ℕ → Result Bool ConfPlace
test scope d word (what.Key key.Default) next n = cond (scope.chosen || d) (Err (fault_at scope.line word TwoDefaults)) (Ok true)
test scope d word (what.Key key.Pbandwidth) next (Some n) =
    cond (nat_le 1000 (percent scope.rate n) && nat_le (percent scope.rate n) most_rate) (Ok d) (Err (fault_at scope.line next RateRange))
test scope d word _ next n = Ok d

abbrev tested : ReadContext → Bool → ℕ → What → List Item → Result Bool ConfPlace
tested scope d word says items = test scope d word says (word_at items 0) (number_behind key.Pbandwidth items)

abbrev tests : ReadContext → Bool → List Item → Result Bool ConfPlace
tests scope d [] = Ok d
tests scope d (item ∷ items) = tested scope d item.word item.what items >>= (λ e. tests scope e items)

abbrev default_of : Result Settings ConfPlace → Result Bool ConfPlace
default_of r = r >>= (λ s. Ok s.is_default)

default_cond : (b : Bool) (x y : Result Settings ConfPlace) → default_of (cond b x y) ≡ cond b (default_of x) (default_of y)
default_cond true x y = refl
default_cond false x y = refl

word_tested : (scope : ReadContext) (s : Settings) (word : ℕ) (says : What) (items : List Item)
    → default_of (set_by_word scope s word says items) ≡ tested scope s.is_default word says items
word_tested scope s word (what.Key key.Default) items = default_cond (scope.chosen || s.is_default) _ _
word_tested scope s word (what.Key key.Pbandwidth) items =
    elim (number_behind key.Pbandwidth items) as
    (λ o. default_of (set_percent scope s (word_at items 0) o) ≡ test scope s.is_default word (what.Key key.Pbandwidth) (word_at items 0) o)
    [ None ↦ refl | Some n ↦ default_cond (nat_le 1000 (percent scope.rate n) && nat_le (percent scope.rate n) most_rate) _ _ ]
word_tested scope s word _ items = refl

options_tested : (scope : ReadContext) (s : Settings) (items : List Item) → default_of (set_options scope s items) ≡ tests scope s.is_default items
options_tested scope s [] = refl
options_tested scope s (item ∷ items) =
    elim (set_by_word scope s item.word item.what items) as
    (λ r. default_of (elim r [ Ok t ↦ set_options scope t items | Err fault ↦ Err fault ]) ≡ default_of r >>= (λ d. tests scope d items))
    [ Ok t ↦ options_tested scope t items | Err fault ↦ refl ]
    ∙ ap (λ r. r >>= (λ d. tests scope d items)) (word_tested scope s item.word item.what items)

-- `Q` holds of the first fault of options if it holds of each at their words
module _ (Q : ConfPlace → Type 0) (scope : ReadContext) where
  word_so : (d : Bool) (word : ℕ) (says : What) (left right : List Item) → All (AtItem Q scope.line) left
      → ((kind : ConfKind) → Q (fault_at scope.line word kind)) ⊎ IfErr (tested scope d word says right) Q → IfErr (tested scope d word says left) Q
  word_so d word (what.Key key.Default) left right h link =
      ⊎_elim (λ far. cond_both (scope.chosen || d) _ _ (λ r. IfErr r Q) (λ e. far TwoDefaults) (λ e. tt)) (λ same. same) link
  word_so d word (what.Key key.Pbandwidth) (item ∷ left) right h link =
      elim (number_behind key.Pbandwidth (item ∷ left)) as (λ o. IfErr (test scope d word (what.Key key.Pbandwidth) item.word o) Q) [
        | None ↦ tt
        | Some n ↦ cond_both (nat_le 1000 (percent scope.rate n) && nat_le (percent scope.rate n) most_rate) _ _ (λ r. IfErr r Q) (λ e. tt)
            (λ e. All-head (AtItem Q scope.line) item left h RateRange)
      ]
  word_so d word _ left right h link = tt

  tests_so : (d : Bool) (items : List Item) → All (AtItem Q scope.line) items → IfErr (tests scope d items) Q
  tests_so d [] h = tt
  tests_so d (item ∷ items) h =
      let rest = All-tail (AtItem Q scope.line) item items h in
      so_next Q (tested scope d item.word item.what items) _
      (word_so d item.word item.what items [] rest (inl (All-head (AtItem Q scope.line) item items h))) (λ e. tests_so e items rest)

  -- and if, past the first ones, it holds of that of other options which begin with the same
  tests_beside : (d : Bool) (common left right : List Item) → All (AtItem Q scope.line) left
      → (length common ≤ 0) ⊎ IfErr (tests scope d (common ++ right)) Q → IfErr (tests scope d (common ++ left)) Q
  tests_beside d [] left right h link = tests_so d left h
  tests_beside d (item ∷ []) left right h link =
      so_then Q (tested scope d item.word item.what left) (tested scope d item.word item.what right) _ _ link
      (λ link. word_so d item.word item.what left right h (⊎_elim (λ far. absurd (omega arith)) inr link)) (λ e. tests_so e left h)
  tests_beside d (item ∷ other ∷ common) left right h link =
      so_both Q (tested scope d item.word item.what (other ∷ [])) _ _ link (⊎_elim (λ far. absurd (omega arith)) (λ same. same))
      (λ e link. tests_beside e (other ∷ common) left right h (⊎_elim (λ far. absurd (omega arith)) inr link))

  tests_past : (n : ℕ) (common left right : List Item) → All (AtItem Q scope.line) left
      → (length common ≤ n) ⊎ IfErr (tests scope false (drop n (common ++ right))) Q → IfErr (tests scope false (drop n (common ++ left))) Q
  tests_past zero common left right h link = tests_beside false common left right h link
  tests_past (suc n) [] left right h link = tests_so false (drop (suc n) left) (All-drop (AtItem Q scope.line) (suc n) left h)
  tests_past (suc n) (item ∷ common) left right h link = tests_past n common left right h (⊎_elim (λ far. inl (omega arith)) inr link)

-- TWO STATEMENTS whose first items agree, those in `common`. The item `i` stands at the word `first + i`, so the first word that need
-- not agree is `first + length common`, and `Q` holds of each fault of `s` from there on.
record Beside (Q : ConfPlace → Type 0) (first : ℕ) (s t : Statement) : Type 0 where
  common : List Item
  left : List Item
  right : List Item
  left_items : s.items ≡ common ++ left
  right_items : t.items ≡ common ++ right
  late : All (AtItem Q s.line) left
  at : (i : ℕ) (kind : ConfKind) → length common ≤ i → Q (at_word s (first + i) kind)
  fault : IfSome s.fault Q
  end : (kind : ConfKind) → Q (at_word s s.end kind)
  ends : (i : ℕ) → i < length common → nat_lt (first + i) s.end ≡ nat_lt (first + i) t.end

-- A reading of `s` and `t` that looks at the item `i` and what is behind it: `Q` holds of the fault of `s` if the items agree no longer
-- there, or if it holds of the fault of `t`, as if this stood on the line of `s`.
abbrev Follows : {Q : ConfPlace → Type 0} {first : ℕ} {s t : Statement} {B : Type 0} → Beside Q first s t → ℕ → (Statement → Result B ConfPlace) → Type 0
Follows {Q} {s = s} {t = t} two i read = (length two.common ≤ i) ⊎ IfErr (read (record t { line = s.line })) Q → IfErr (read s) Q

item_there : (i : ℕ) (common left right : List Item) → i < length common → slice_get (common ++ left) i ≡ slice_get (common ++ right) i
item_there i [] left right h = absurd (omega arith)
item_there zero (item ∷ common) left right h = refl
item_there (suc i) (item ∷ common) left right h = item_there i common left right (omega arith)

-- the next item
next_item : {n i : ℕ} {X : Type 0} → (n ≤ i) ⊎ X → (n ≤ i + 1) ⊎ X
next_item link = ⊎_elim (λ far. inl (omega arith)) inr link

module _ {Q : ConfPlace → Type 0} {first : ℕ} {s t : Statement} (two : Beside Q first s t) where
  own_so : Q (own_fault s)
  own_so = (elim s.fault as (λ o. IfSome o Q → Q (own_or_end s o)) [ None ↦ λ h. two.end MissingWord | Some fault ↦ λ h. h ]) two.fault

  name_so : {B : Type 0} (i : ℕ) (fault other : ConfPlace) (next more : List ℕ → Result B ConfPlace)
      → (length two.common ≤ i) ⊎ IfErr (some (name_at t.items i) other >>= more) Q → ((length two.common ≤ i) ⊎ Q other → Q fault)
      → ((name : List ℕ) → (length two.common ≤ i) ⊎ IfErr (more name) Q → IfErr (next name) Q) → IfErr (some (name_at s.items i) fault >>= next) Q
  name_so i fault other next more link here k =
      let same : i < length two.common → name_at s.items i ≡ name_at t.items i =
      λ near. rw (two.left_items, two.right_items) (ap name_in (item_there i two.common two.left two.right near)) in
      let on_s = ⊎_elim (λ near. rw (← same near) at link) inl (cases_lt i (length two.common)) in
      so_option Q (name_at s.items i) fault other next more on_s here k

  -- one too many is refused at its name, if a word stands there
  full_so : (i : ℕ) (full : Bool) (kind : ConfKind) (own : ConfPlace)
      → (length two.common ≤ i) ⊎ Q (cond (full && nat_lt (first + i) t.end) (at_word s (first + i) kind) own)
      → Q (cond (full && nat_lt (first + i) s.end) (at_word s (first + i) kind) (own_fault s))
  full_so i full kind own link =
      cond_both (full && nat_lt (first + i) s.end) _ _ Q
      (λ e. ⊎_elim (λ near. ⊎_elim (two.at i kind) (λ same. same) (rw (← two.ends i near, e) at link)) (two.at i kind) (cases_lt i (length two.common)))
      (λ e. own_so)

-- A CLASS: below its parent, from its parent on, from its name on, and all of it
rate_so : (Q : ConfPlace → Type 0) (kind : Kind) (b : Begun) (s : Statement) (spot : TreePosition) (settings : Settings)
    → ((kind : ConfKind) → Q (at_word s s.end kind)) → IfErr (rate_at_end kind b s spot settings) Q
rate_so Q Hfsc b s spot settings end =
    let t = is_some spot.parent && is_none settings.share in
    cond_both t _ _ (λ r. IfErr {T = ℕ} (r >>= (λ shared. Ok 0)) Q) (λ e. end NoShare) (λ e. tt)
rate_so Q Cbq b s spot settings end = so_last Q (rate_given b.rate spot settings) _ (end MissingWord)

module _ {Q : ConfPlace → Type 0} {s t : Statement} (two : Beside Q 3 s t) (b : Begun) where
  spot_so : (parent : List ℕ) → Follows two 2 (λ u. spot_of b u parent)
  spot_so parent link =
      cond_both (bytes_eq parent (codes "NULL")) _ _ (λ r. (length two.common ≤ 2) ⊎ IfErr r Q → IfErr r Q)
      (λ null link. so_refuse Q b.rooted _ _ _ link (two.at 2 TwoRoots) (λ link. tt)) (λ inner link.
      so_some Q (class_number parent b.classes) _ _ _ link (two.at 2 NoParent) (λ i link.
      so_some Q (slice_get b.classes i) _ _ _ link (two.at 2 NoParent) (λ c link.
      so_refuse Q (nat_le 8 c.level) _ _ _ link (two.at 2 TooDeep) (λ link.
      so_refuse Q c.fixed _ _ _ link (two.at 2 RealTimeInside) (λ link.
      so_refuse Q (is_queue b.kind c) _ _ _ link (two.at 2 InnerQueue) (λ link. tt)))))) link

  options_so : Follows two 2 (λ u. set_options (scope_of b u) unset (drop 3 u.items))
  options_so link =
      let scope = scope_of b s in
      let other : (length two.common ≤ 3) ⊎ IfErr (tests scope false (drop 3 (two.common ++ two.right))) Q =
      ⊎_elim (λ far. inl (omega arith))
      (λ same. inr (rw (← two.right_items, ← options_tested scope unset (drop 3 t.items))
      (so_next Q (set_options scope unset (drop 3 t.items)) (λ u. Ok u.is_default) same (λ u. tt))))
      link in
      so_front Q (set_options scope unset (drop 3 s.items)) (λ u. Ok u.is_default)
      (rw (options_tested scope unset (drop 3 s.items), two.left_items) (tests_past Q scope 3 two.common two.left two.right two.late other))

  parent_so : (parent : List ℕ) → Follows two 2 (λ u. shape_below b u parent)
  parent_so parent link =
      so_both Q (spot_of b s parent) _ _ link (spot_so parent) (λ spot link.
      so_then Q (set_options (scope_of b s) unset (drop 3 s.items)) (set_options (scope_of b s) unset (drop 3 t.items)) _ _ link options_so (λ settings.
      so_own Q s.fault _ two.fault (so_next Q (rate_at_end b.kind b s spot settings) _ (rate_so Q b.kind b s spot settings two.end) (λ rate. tt))))

  named_so : Follows two 1 (class_named b)
  named_so link =
      name_so two 1 _ _ _ _ link (full_so two 1 (is_full b) TooManyClasses _) (λ name link.
      so_refuse Q (is_full b) _ _ _ link (two.at 1 TooManyClasses) (λ link.
      so_then Q (shape_of b s name) (shape_of b (record t { line = s.line }) name) _ _ link (λ link.
      so_refuse Q (is_some (class_number name b.classes)) _ _ _ link (two.at 1 NameTaken) (λ link.
      name_so two 2 _ _ _ _ (next_item link) (λ here. own_so two) parent_so)) (λ shape. tt)))

class_so : {Q : ConfPlace → Type 0} {s t : Statement} (two : Beside Q 3 s t) (before : List Begun) (kind : Kind) → Follows two 0 (read_class before kind)
class_so {Q} {s} {t} two before kind link =
    name_so two 0 _ _ _ _ link (λ here. own_so two) (λ name link.
    so_some Q (interface_number name before) _ _ _ link (two.at 0 NoInterface) (λ i link.
    so_some Q (slice_get before i) _ _ _ link (two.at 0 NoInterface) (λ b link.
    so_then Q (read_branch b kind s) (read_branch b kind (record t { line = s.line })) _ _ link (λ link.
    so_refuse Q (not (same_kind kind b.kind)) _ _ _ link (two.at 0 WrongDiscipline) (λ link. named_so two b (next_item link))) (λ c. tt))))

-- A FILTER, A CONDITIONER, AN INTERFACE
module _ {Q : ConfPlace → Type 0} {s t : Statement} (two : Beside Q 2 s t) where
  filter_named_so : (b : Begun) → Follows two 1 (filter_named b)
  filter_named_so b link =
      name_so two 1 _ _ _ _ link (λ here. own_so two) (λ name link.
      so_some Q (class_number name b.classes) _ _ _ link (two.at 1 NoClass) (λ i link.
      so_some Q (slice_get b.classes i) _ _ _ link (two.at 1 NoClass) (λ c link.
      so_refuse Q (is_hfsc b.kind && c.inner) _ _ _ link (two.at 1 InnerQueue) (λ link. so_own Q s.fault _ two.fault tt))))

  filter_so : (before : List Begun) → Follows two 0 (read_filter before)
  filter_so before link =
      name_so two 0 _ _ _ _ link (λ here. own_so two) (λ name link.
      so_some Q (interface_number name before) _ _ _ link (two.at 0 NoInterface) (λ i link.
      so_some Q (slice_get before i) _ _ _ link (two.at 0 NoInterface) (λ b link.
      so_then Q (filter_read b s) (filter_read b (record t { line = s.line })) _ _ link (λ link.
      so_refuse Q (nat_le 1024 (length b.filters)) _ _ _ link (two.at 0 TooManyFilters) (λ link. filter_named_so b (next_item link))) (λ f. tt))))

  meter_so : (b : Begun) → Follows two 1 (conditioner_read b)
  meter_so b link =
      name_so two 1 _ _ _ _ link (λ here. own_so two) (λ name link.
      so_some Q (class_number name b.classes) _ _ _ link (two.at 1 NoClass) (λ i link.
      so_some Q (slice_get b.classes i) _ _ _ link (two.at 1 NoClass) (λ c link.
      so_refuse Q (is_hfsc b.kind && c.inner) _ _ _ link (two.at 1 InnerQueue) (λ link.
      so_refuse Q (is_some c.class.meter) _ _ _ link (two.at 1 ConditionerTwice) (λ link. so_own Q s.fault _ two.fault tt)))))

  conditioner_so : (before : List Begun) → Follows two 0 (read_conditioner before)
  conditioner_so before link =
      name_so two 0 _ _ _ _ link (λ here. own_so two) (λ name link.
      so_some Q (interface_number name before) _ _ _ link (two.at 0 NoInterface) (λ i link.
      so_some Q (slice_get before i) _ _ _ link (two.at 0 NoInterface) (λ b link.
      so_then Q (conditioner_read b s) (conditioner_read b (record t { line = s.line })) _ _ link (λ link. meter_so b (next_item link)) (λ c. tt))))

  interface_so : (before : List Begun) → Follows two 0 (read_interface before)
  interface_so before link =
      name_so two 0 _ _ _ _ link (full_so two 0 (are_full before) TooManyInterfaces _) (λ name link.
      so_refuse Q (are_full before) _ _ _ link (two.at 0 TooManyInterfaces) (λ link.
      so_then Q (interface_kind before s name) (interface_kind before (record t { line = s.line }) name) _ _ link (λ link.
      so_refuse Q (is_some (interface_number name before)) _ _ _ link (two.at 0 InterfaceTwice) (λ link.
      so_own Q s.fault _ two.fault (so_last Q (kind_by_options None (drop 1 s.items)) _ (two.end MissingWord)))) (λ kind. tt)))

-- ANY STATEMENT
form_so : {Q : ConfPlace → Type 0} (of : Form) (before : List Begun) {s t : Statement} (two : Beside Q (first_item of) s t)
    → Follows two 0 (read_form of before)
form_so form.Interface before two link = interface_so two before link
form_so form.ClassHfsc before two link = class_so two before Hfsc link
form_so form.ClassCbq before two link = class_so two before Cbq link
form_so form.Filter before two link = filter_so two before link
form_so form.Filter6 before two link = filter_so two before link
form_so form.Conditioner before two link = conditioner_so two before link
form_so form.Unread before two link = own_so two

-- the fault of a statement is so if each fault at a word from its first item on is so
statement_so : (Q : ConfPlace → Type 0) (before : List Begun) (s : Statement) → ((k : ℕ) (kind : ConfKind) → 2 ≤ k → Q (at_word s k kind))
    → ((kind : ConfKind) → Q (at_word s s.end kind)) → All (AtItem Q s.line) s.items → IfSome s.fault Q → IfErr (read_statement before s) Q
statement_so Q before s at end items fault =
    let two : Beside Q (first_item s.form) s s = record {
      common = [];
      left = s.items;
      right = s.items;
      left_items = refl;
      right_items = refl;
      late = items;
      at = λ i kind far. at (first_item s.form + i) kind (let first = second s.form in omega arith);
      fault = fault;
      end = end;
      ends = λ i near. refl;
    } in
    form_so s.form before two (inl (omega arith))
  where
    second : (of : Form) → 2 ≤ first_item of
    second form.ClassHfsc = omega arith
    second form.ClassCbq = omega arith
    second _ = omega arith

-- it stands on its line
abbrev pub OnLine : ℕ → ConfPlace → Type 0
OnLine line fault = fault.line ≡ line

any_on : (line : ℕ) (o : Option ConfPlace) → IsOn line o → IfSome o (OnLine line)
any_on line None h = tt
any_on line (Some fault) h = h

pub fault_on_line : (before : List Begun) (s : Statement) → IsOn s.line s.fault → IfErr (read_statement before s) (OnLine s.line)
fault_on_line before s h =
    statement_so (OnLine s.line) before s (λ k kind far. refl) (λ kind. refl) (λ k d within kind. refl) (any_on s.line s.fault h)

-- ONE LINE: a fault before the word `m` is that of the other line
abbrev IsOther : {A : Type 0} → ℕ → Result A ConfPlace → ConfPlace → Type 0
IsOther m other fault = fault.word < m → other ≡ Err fault

same_other : {A : Type 0} (m : ℕ) (r : Result A ConfPlace) → IfErr r (IsOther m r)
same_other m (Ok x) = tt
same_other m (Err fault) = λ early. refl

late_other : {A : Type 0} (m : ℕ) (other : Result A ConfPlace) (o : Option ConfPlace) → IsLate m o → IfSome o (IsOther m other)
late_other m other None h = tt
late_other m other (Some fault) h = λ early. absurd (omega arith)

items_other : {A : Type 0} (m line : ℕ) (other : Result A ConfPlace) (items : List Item) → AreLate m items → All (AtItem (IsOther m other) line) items
items_other m line other [] h = All-nil (AtItem (IsOther m other) line)
items_other m line other (item ∷ items) h =
    All-cons (AtItem (IsOther m other) line) item items (λ kind early. absurd (omega (arith, h.0))) (items_other m line other items h.1)

-- a statement that stops at its fault: its end is looked at only where an interface or a class has its name
has_word : (n end : ℕ) → n < end → nat_lt n end ≡ true
has_word n end h = grind (arith, nat_tests)

end_same : (of : Form) (before : List Begun) (line : ℕ) (items : List Item) (fault : ConfPlace) (end other : ℕ) → first_item of + length items ≡ fault.word
    → fault.word < end → fault.word < other
    → read_form of before (record { line = line; form = of; items = items; end = end; fault = Some fault })
    ≡ read_form of before (record { line = line; form = of; items = items; end = other; fault = Some fault })
end_same form.Interface before line items fault end other count h k = rw (has_word 2 end (omega arith), has_word 2 other (omega arith)) refl
end_same form.ClassHfsc before line [] fault end other count h k = refl
end_same form.ClassHfsc before line (item ∷ items) fault end other count h k = rw (has_word 4 end (omega arith), has_word 4 other (omega arith)) refl
end_same form.ClassCbq before line [] fault end other count h k = refl
end_same form.ClassCbq before line (item ∷ items) fault end other count h k = rw (has_word 4 end (omega arith), has_word 4 other (omega arith)) refl
end_same _ before line items fault end other count h k = refl

by_lines : (before : List Begun) (line m end other : ℕ) (r t : Reading) → LinesAgree m r t → m ≤ end → m ≤ other
    → IfErr (read_statement before (as_statement line end r)) (IsOther m (read_statement before (as_statement line other t)))
by_lines before line m end other r t (inl u) h k =
    let there = read_statement before (as_statement line other t) in
    statement_so (IsOther m there) before (as_statement line end r) (λ n kind far early. absurd (omega (arith, u.short))) (λ kind early. absurd (omega arith))
    (items_other m line there r.items u.left.items) (late_other m there r.fault u.left.fault)
by_lines before line m end other r t (inr (inl s)) h k = rw (s.same, s.of_form, s.is) (λ early. refl)
by_lines before line m end other r t (inr (inr (of, inl s))) h k =
    let ends = end_same of before line r.items s.fault end other s.count (omega (arith, s.early)) (omega (arith, s.early)) in
    rw (s.same, s.of_form, s.is) (rw ends (same_other m _))
by_lines before line m end other r t (inr (inr (of, inr s))) h k =
    let left : Statement = record { line = line; form = of; items = r.items; end = end; fault = r.fault } in
    let right : Statement = record { line = line; form = of; items = t.items; end = other; fault = t.fault } in
    let there = read_form of before right in
    let two : Beside (IsOther m there) (first_item of) left right = record {
      common = s.common;
      left = s.left.rest;
      right = s.right.rest;
      left_items = s.left.items;
      right_items = s.right.items;
      late = items_other m line there s.left.rest s.left.late;
      at = λ i kind far early. absurd (omega (arith, s.count));
      fault = late_other m there r.fault s.left.fault;
      end = λ kind early. absurd (omega arith);
      ends = λ i near. has_word (first_item of + i) end (omega (arith, s.count)) ∙ sym (has_word (first_item of + i) other (omega (arith, s.count)));
    } in
    rw (s.left.of_form, s.right.of_form) (form_so of before two (inr (same_other m there)))

pub line_stands : (before : List Begun) (line : ℕ) (words more other : List (List ℕ)) (fault : ConfPlace) → fault.word ≤ length words
    → read_statement before (line_of_words line (words ++ more)) ≡ Err fault → read_statement before (line_of_words line (words ++ other)) ≡ Err fault
line_stands before line words more other fault within e =
    let left = length-append words more in
    let right = length-append words other in
    let faults = by_lines before line (1 + length words) (length (words ++ more) + 1) (length (words ++ other) + 1) _ _
    (lines_agree line words more other) (omega arith) (omega arith) in
    IfErr-at_err (IsOther (1 + length words) (read_statement before (line_of_words line (words ++ other)))) e faults (omega arith)

-- THE STATEMENTS BEFORE IT
pub faults_stand : (statements rest : List Statement) (line : ℕ) (words more other : List (List ℕ)) (fault : ConfPlace) → 1 ≤ fault.word
    → fault.word ≤ length words → reading (statements ++ line_of_words line (words ++ more) ∷ []) ≡ Err fault
    → reading (statements ++ line_of_words line (words ++ other) ∷ rest) ≡ Err fault
faults_stand statements rest line words more other fault some within e =
    reading-append [] statements (line_of_words line (words ++ other) ∷ rest)
    ∙ behind (read_all [] statements) (sym (reading-append [] statements (line_of_words line (words ++ more) ∷ [])) ∙ e)
  where
    behind : (read : Result (List Begun) ConfPlace) → then_read read (line_of_words line (words ++ more) ∷ []) ≡ Err fault
        → then_read read (line_of_words line (words ++ other) ∷ rest) ≡ Err fault
    behind (Err place) e = e
    behind (Ok before) e =
        ⊎_elim (λ end. absurd (omega (arith, end.word))) (λ is. ap (λ r. then_read r rest) (line_stands before line words more other fault within is))
        (at_end_or_read (read_statement before (line_of_words line (words ++ more))) fault e)
