-- Two lines that agree in their first words: they have the same fault among these, or none, and then the same items of them.
use Rattle.std.proofs.Common.{◌≡◌, ◌⊎◌, inl, inr, ⊎_elim, ℕ, ◌+◌, ◌<◌, ◌≤◌, List, [], ◌∷◌, ◌++◌, length, Option, Some, None, Result, Ok, Err, refl, ap, subst, ◌∙◌, arith}
use Rattle.conf_lines.specs.declared.fault.ConfKind.{ConfKind}
use Rattle.conf_lines.specs.declared.fault.ConfPlace.{ConfPlace}
use Rattle.conf_lines.specs.declared.item.Item.{Item}
use Rattle.conf_lines.specs.declared.item.What.{What}
use Rattle.conf_lines.specs.declared.statement.Form.{Form}
use Rattle.conf_lines.specs.declared.statement.Form.TheVariants as form
use Rattle.conf_lines.specs.Grammar.{Place, Step, step, start}
use Rattle.conf_lines.specs.Texts.{Reading, item_of, behind, read_from}
use Rattle.conf_lines.proofs.GoodSteps.{IsFormed, Owes, GoesBy, GoesIfOk, goes}
use Rattle.conf_lines.proofs.GrammarPlaces.{at_interface_name, at_discipline_word}
use Rattle.conf_lines.proofs.ReadWords.{statement_cases, discipline_cases}
use Rattle.conf_lines.proofs.Readings.{past, IsLate, AreLate, AllLate, late_from}

-- the form of a reading
form_behind : (form : Form) (owed : List Item → Type 0) (at : ℕ) (o : Option What) (after : Place) (r : Reading) → GoesBy form owed o after
    → (IsFormed after.next → r.form ≡ after.form) → (behind (item_of at o) r).form ≡ form
form_behind form owed at None after r h k = absurd h
form_behind form owed at (Some says) after r h k = k h.formed ∙ h.of

form_past : (line : ℕ) (words : List (List ℕ)) (place : Place) (at : ℕ) (r : Result Step ConfKind) → GoesIfOk place.form (Owes place.next place) r
    → ((to : Place) → IsFormed to.next → (read_from line words to (at + 1)).form ≡ to.form) → (past line words place at r).form ≡ place.form
form_past line words place at (Ok taken) h k =
    form_behind place.form (Owes place.next place) at taken.what taken.after (read_from line words taken.after (at + 1)) h (k taken.after)
form_past line words place at (Err kind) h k = refl

form_from : (line : ℕ) (words : List (List ℕ)) (place : Place) (at : ℕ) → IsFormed place.next → (read_from line words place at).form ≡ place.form
form_from line [] place at f = refl
form_from line (word ∷ words) place at f =
    form_past line words place at (step place word) (goes place word f) (λ to g. form_from line words to (at + 1) g)

-- TWO READINGS of one form, the first words of which agree: both stop at one of these, or both go past them
pub record Stopped (m at : ℕ) (form : Form) (r t : Reading) : Type 0 where
  pub same : t ≡ r
  pub fault : ConfPlace
  pub is : r.fault ≡ Some fault
  pub early : fault.word < m
  pub count : at + length r.items ≡ fault.word
  pub of_form : r.form ≡ form

-- what a reading has behind the items that both have
pub record Rest (m : ℕ) (form : Form) (common : List Item) (r : Reading) : Type 0 where
  pub rest : List Item
  pub items : r.items ≡ common ++ rest
  pub late : AreLate m rest
  pub fault : IsLate m r.fault
  pub of_form : r.form ≡ form

pub record Split (m at : ℕ) (form : Form) (r t : Reading) : Type 0 where
  pub common : List Item
  pub count : at + length common ≡ m
  pub left : Rest m form common r
  pub right : Rest m form common t

abbrev pub Agree : ℕ → ℕ → Form → Reading → Reading → Type 0
Agree m at form r t = Stopped m at form r t ⊎ Split m at form r t

rest_behind : (m : ℕ) (form of : Form) (common : List Item) (r : Reading) (item : Item) → of ≡ form → Rest m of common r
    → Rest m form (item ∷ common) (behind (item ∷ []) r)
rest_behind m form of common r item e s =
    record { rest = s.rest; items = ap (λ items. item ∷ items) s.items; late = s.late; fault = s.fault; of_form = s.of_form ∙ e }

agree_behind : (m at : ℕ) (form : Form) (owed : List Item → Type 0) (o : Option What) (after : Place) (r t : Reading) → GoesBy form owed o after
    → (IsFormed after.next → Agree m (at + 1) after.form r t) → Agree m at form (behind (item_of at o) r) (behind (item_of at o) t)
agree_behind m at form owed None after r t h k = absurd h
agree_behind m at form owed (Some says) after r t h k =
    let item : Item = record { word = at; what = says } in
    ⊎_elim
    (λ s. inl (record {
      same = ap (behind (item ∷ [])) s.same;
      fault = s.fault;
      is = s.is;
      early = s.early;
      count = omega (arith, s.count);
      of_form = s.of_form ∙ h.of;
    }))
    (λ s. inr (record {
      common = item ∷ s.common;
      count = omega (arith, s.count);
      left = rest_behind m form after.form s.common r item h.of s.left;
      right = rest_behind m form after.form s.common t item h.of s.right;
    }))
    (k h.formed)

agree_past : (m line : ℕ) (words others : List (List ℕ)) (place : Place) (at : ℕ) (r : Result Step ConfKind) → at < m → GoesIfOk place.form (Owes place.next place) r
    → ((to : Place) → IsFormed to.next → Agree m (at + 1) to.form (read_from line words to (at + 1)) (read_from line others to (at + 1)))
    → Agree m at place.form (past line words place at r) (past line others place at r)
agree_past m line words others place at (Ok taken) within h k =
    agree_behind m at place.form (Owes place.next place) taken.what taken.after _ _ h (k taken.after)
agree_past m line words others place at (Err kind) within h k = inl (record {
  same = refl;
  fault = record { line = line; word = at; kind = kind };
  is = refl;
  early = within;
  count = omega arith;
  of_form = refl;
})

rest_here : (line : ℕ) (words : List (List ℕ)) (place : Place) (at m : ℕ) → IsFormed place.next → at ≡ m → Rest m place.form [] (read_from line words place at)
rest_here line words place at m f here =
    let late = subst (λ n. AllLate n (read_from line words place at)) here (late_from line words place at) in
    record { rest = (read_from line words place at).items; items = refl; late = late.items; fault = late.fault; of_form = form_from line words place at f }

agree_from : (m line : ℕ) (words more other : List (List ℕ)) (place : Place) (at : ℕ) → IsFormed place.next → m ≡ at + length words
    → Agree m at place.form (read_from line (words ++ more) place at) (read_from line (words ++ other) place at)
agree_from m line [] more other place at f e = inr (record {
  common = [];
  count = omega arith;
  left = rest_here line more place at m f (omega arith);
  right = rest_here line other place at m f (omega arith);
})
agree_from m line (word ∷ words) more other place at f e =
    agree_past m line (words ++ more) (words ++ other) place at (step place word) (omega arith) (goes place word f)
    (λ to g. agree_from m line words more other to (at + 1) g (omega arith))

-- THE LINE
-- where the first item of a form stands
abbrev pub first_item : Form → ℕ
first_item form.ClassHfsc = 3
first_item form.ClassCbq = 3
first_item _ = 2

-- both go past the words before it is known which statement it is
pub record Unknown (m : ℕ) (r t : Reading) : Type 0 where
  pub short : m ≤ 2
  pub left : AllLate m r
  pub right : AllLate m t

-- both stop before it is known
pub record Refused (r t : Reading) : Type 0 where
  pub same : t ≡ r
  pub fault : ConfPlace
  pub is : r.fault ≡ Some fault
  pub of_form : r.form ≡ form.Unread

abbrev pub AgreeInForm : ℕ → Reading → Reading → Type 0
AgreeInForm m r t = (of : Form) × Agree m (first_item of) of r t

abbrev pub LinesAgree : ℕ → Reading → Reading → Type 0
LinesAgree m r t = Unknown m r t ⊎ (Refused r t ⊎ AgreeInForm m r t)

-- the place behind the words that say which statement it is
begun_agree : (m line : ℕ) (words more other : List (List ℕ)) (of : Form) → m ≡ first_item of + length words
    → LinesAgree m (read_from line (words ++ more) (at_interface_name of) (first_item of)) (read_from line (words ++ other) (at_interface_name of) (first_item of))
begun_agree m line words more other of n = inr (inr (of, agree_from m line words more other (at_interface_name of) (first_item of) tt n))

refused_agree : (m line : ℕ) (words others : List (List ℕ)) (place : Place) (at : ℕ) (kind : ConfKind) → place.form ≡ form.Unread
    → LinesAgree m (past line words place at (Err kind)) (past line others place at (Err kind))
refused_agree m line words others place at kind e =
    inr (inl (record { same = refl; fault = record { line = line; word = at; kind = kind }; is = refl; of_form = e }))

-- behind class
class_agree : (m line : ℕ) (words more other : List (List ℕ)) → m ≡ 2 + length words
    → LinesAgree m (read_from line (words ++ more) at_discipline_word 2) (read_from line (words ++ other) at_discipline_word 2)
unfolding step
class_agree m line [] more other n =
    let here : 2 ≡ m = omega arith in
    inl (record {
      short = omega arith;
      left = subst (λ k. AllLate k (read_from line more at_discipline_word 2)) here (late_from line more at_discipline_word 2);
      right = subst (λ k. AllLate k (read_from line other at_discipline_word 2)) here (late_from line other at_discipline_word 2);
    })
class_agree m line (word ∷ words) more other n =
    discipline_cases (λ r. LinesAgree m (past line (words ++ more) at_discipline_word 2 r) (past line (words ++ other) at_discipline_word 2 r)) word
    (λ kind. refused_agree m line (words ++ more) (words ++ other) at_discipline_word 2 kind refl)
    (begun_agree m line words more other form.ClassHfsc (omega arith)) (begun_agree m line words more other form.ClassCbq (omega arith))

pub lines_agree : (line : ℕ) (words more other : List (List ℕ))
    → LinesAgree (1 + length words) (read_from line (words ++ more) start 1) (read_from line (words ++ other) start 1)
unfolding step
lines_agree line [] more other =
    inl (record { short = omega arith; left = late_from line more start 1; right = late_from line other start 1 })
lines_agree line (word ∷ words) more other =
    let m : ℕ = 1 + length (word ∷ words) in
    statement_cases (λ r. LinesAgree m (past line (words ++ more) start 1 r) (past line (words ++ other) start 1 r)) word
    (λ kind. refused_agree m line (words ++ more) (words ++ other) start 1 kind refl)
    (begun_agree m line words more other form.Interface (omega arith)) (class_agree m line words more other (omega arith))
    (begun_agree m line words more other form.Filter (omega arith)) (begun_agree m line words more other form.Filter6 (omega arith))
    (begun_agree m line words more other form.Conditioner (omega arith))

-- THE FAULT STANDS AT ITS WORD: of two readings that agree, one that has a fault among the words that they share is the other
no_late : (m : ℕ) (o : Option ConfPlace) (fault : ConfPlace) → o ≡ Some fault → IsLate m o → m ≤ fault.word
no_late m o fault e late = rw e at late

pub stands : (line : ℕ) (words more other : List (List ℕ)) (fault : ConfPlace) → (read_from line (words ++ more) start 1).fault ≡ Some fault → fault.word ≤ length words
    → read_from line (words ++ other) start 1 ≡ read_from line (words ++ more) start 1
stands line words more other fault e within =
    let m : ℕ = 1 + length words in
    let r = read_from line (words ++ more) start 1 in
    let far : IsLate m r.fault → read_from line (words ++ other) start 1 ≡ r = λ late. let beyond = no_late m r.fault fault e late in absurd (omega arith) in
    ⊎_elim (λ s. far s.left.fault) (λ s. ⊎_elim (λ x. x.same) (λ x. ⊎_elim (λ y. y.same) (λ y. far y.left.fault) x.1) s) (lines_agree line words more other)
