-- A text is the rows of one list at most, or it has one fault.
use Rattle.std.proofs.Common.{◌≡◌, ◌≢◌, ℕ, ◌<◌, ◌++◌, inl, inr, Bool, true, false, cond, List, [], ◌∷◌, Option, Some, suc, length, eqb, refl, sym, ap, subst, ◌∙◌, arith}
use Rattle.std.specs.Prelude.{unwrap_or, option_map}
use Rattle.std.specs.List.{AllPairs, AllByRecursion, find}
use Rattle.std.specs.Str.{bytes_eq}
use Rattle.std.proofs.lemmas.Bool.{eqb-true}
use Rattle.std.proofs.lemmas.List.{append_assoc}
use Rattle.std.proofs.lemmas.List.Elements.{recursion_from_All}
use Rattle.std.proofs.lemmas.Slice.Eq.{bytes_eq-Decides}
use Rattle.altq_model.specs.Arrivals.{Captured}
use Rattle.altq_model.specs.History.{Decision}
use Rattle.play_text.specs.Texts.{fate_row, fate_rows, fates, fates_header}
use Rattle.fate_check.specs.Given.{rows_for}
use Rattle.play_text.specs.Names.{NameList, AreNames, HasClass, class_named, name_of}
use Rattle.fate_check.specs.declared.reading.Row.{Row}
use Rattle.fate_check.specs.Parse.{fields_of, row_of}
use Rattle.fate_check.specs.Text.{AreRows, FailsAt, HasNoRow, IsRow, Reads, text_of, texts_of}
use Rattle.fate_check.proofs.FieldLemmas.{fields_joined, some_is}
use Rattle.fate_check.proofs.NameLemmas.{pair_of, pair_there}
use Rattle.fate_check.proofs.RowLemmas.{no_some, plain_row, row_given, row_shorter, text_joined, texts, ReadsRow}

-- each name is another than those behind it
abbrev Differ : NameList → Type 0
Differ [] = Unit {0}
Differ (x ∷ names) = AllByRecursion (λ (q : ℕ × List ℕ). x.1 ≢ q.1) names × Differ names

differ : (names : NameList) → AllPairs (λ x y. x.1 ≢ y.1) names → Differ names
differ [] h = tt
differ (x ∷ names) h = (
  recursion_from_All (λ (q : ℕ × List ℕ). x.1 ≢ q.1) names (λ k d inside. h 0 (suc k) d (omega arith) (omega arith)),
  differ names (λ i j d less inside. h (suc i) (suc j) d (omega arith) (omega arith)),
)

-- what holds of each pair holds of that of a class
of_pair_case : (P : ℕ × List ℕ → Type 0) (x : ℕ × List ℕ) (names : NameList) (class : ℕ) (pair : ℕ × List ℕ) (b : Bool) → P x
    → cond b (Some x) (pair_of names class) ≡ Some pair → (pair_of names class ≡ Some pair → P pair) → P pair
of_pair_case P x names class pair true h e more = subst P (some_is x pair e) h
of_pair_case P x names class pair false h e more = more e

of_pair : (P : ℕ × List ℕ → Type 0) (names : NameList) (class : ℕ) (pair : ℕ × List ℕ) → AllByRecursion P names → pair_of names class ≡ Some pair → P pair
of_pair P [] class pair each e = absurd (no_some pair (sym e))
of_pair P (x ∷ names) class pair each e = of_pair_case P x names class pair (eqb x.0 class) each.0 e (of_pair P names class pair each.1)

-- the class of a class's name is that class
own_case : (x : ℕ × List ℕ) (names : NameList) (class : ℕ) (pair : ℕ × List ℕ) (here named : Bool) → eqb x.0 class ≡ here → bytes_eq x.1 pair.1 ≡ named
    → AllByRecursion (λ (q : ℕ × List ℕ). x.1 ≢ q.1) names → cond here (Some x) (pair_of names class) ≡ Some pair
    → (pair_of names class ≡ Some pair → class_named names pair.1 ≡ Some class)
    → option_map (λ p. p.0) (cond named (Some x) (find (λ p. bytes_eq p.1 pair.1) names)) ≡ Some class
own_case x names class pair true true e f other h more = ap (λ (n : ℕ). Some n) (eqb-true x.0 class e)
own_case x names class pair true false e f other h more =
    let same : x.1 ≡ pair.1 = ap (λ (p : ℕ × List ℕ). p.1) (some_is x pair h) in
    let t : bytes_eq x.1 pair.1 ≡ true = (bytes_eq-Decides x.1 pair.1).1 same in
    let clash : true ≡ false = sym t ∙ f in absurd (cc)
own_case x names class pair false true e f other h more =
    absurd (of_pair (λ (q : ℕ × List ℕ). x.1 ≢ q.1) names class pair other h ((bytes_eq-Decides x.1 pair.1).0 f))
own_case x names class pair false false e f other h more = more h

own_class : (names : NameList) (class : ℕ) (pair : ℕ × List ℕ) → Differ names → pair_of names class ≡ Some pair → class_named names pair.1 ≡ Some class
own_class [] class pair d h = absurd (no_some pair (sym h))
own_class (x ∷ names) class pair d h =
    own_case x names class pair (eqb x.0 class) (bytes_eq x.1 pair.1) refl refl d.0 h (own_class names class pair d.1)

class_of_name : (names : NameList) (class : ℕ) → AreNames names → HasClass names class → class_named names (name_of names class) ≡ Some class
class_of_name names class good h =
    let p = pair_there names class h in
    let name : name_of names class ≡ p.0.1 = ap (λ (o : Option (ℕ × List ℕ)). unwrap_or (option_map (λ q. q.1) o) []) p.1 in
    ap (class_named names) name ∙ own_class names class p.0 (differ names good.different) p.1

-- the row that stands at the front is read, and the rest
front_read : (names : NameList) (r : Row) (rest : List ℕ) → AreNames names → IsRow names r → row_of names (text_of names r ++ rest) ≡ Some (r, rest)
unfolding row_of
front_read names r rest good is =
    let fields : fields_of (text_of names r ++ rest) ≡ Some (texts names r, rest) = ap fields_of (text_joined names r rest good is) ∙ fields_joined (texts names r) rest (plain_row names r good is) in
    rw (fields, row_given names r r.class is (class_of_name names r.class good is.class)) refl

-- two texts with a row each at the front are one in the row and in the rest
record SameFront (r q : Row) (rest more : List ℕ) : Type 0 where
  row : r ≡ q
  rest_is : rest ≡ more

same_front : (names : NameList) (r q : Row) (rest more : List ℕ) → AreNames names → IsRow names r → IsRow names q → text_of names r ++ rest ≡ text_of names q ++ more
    → SameFront r q rest more
same_front names r q rest more good is_r is_q e =
    let both : Some (r, rest) ≡ Some (q, more) = sym (front_read names r rest good is_r) ∙ ap (row_of names) e ∙ front_read names q more good is_q in
    let same : (r, rest) ≡ (q, more) = some_is (r, rest) (q, more) both in
    record { row = ap (λ (p : Row × List ℕ). p.0) same; rest_is = ap (λ (p : Row × List ℕ). p.1) same }

has_bytes : (names : NameList) (r : Row) (rest : List ℕ) → AreNames names → IsRow names r → text_of names r ++ rest ≡ [] → ⊥
has_bytes names r rest good is e =
    let reads : ReadsRow names (text_of names r ++ rest) r rest = record { is = is; front = refl } in
    omega (arith, row_shorter names (text_of names r ++ rest) r rest good reads, ap length e)

one_list : (names : NameList) (rs qs : List Row) → AreNames names → AreRows names rs → AreRows names qs → texts_of names rs ≡ texts_of names qs → rs ≡ qs
one_list names [] [] good a b e = refl
one_list names [] (q ∷ qs) good a b e = absurd (has_bytes names q (texts_of names qs) good b.0 (sym e))
one_list names (r ∷ rs) [] good a b e = absurd (has_bytes names r (texts_of names rs) good a.0 e)
one_list names (r ∷ rs) (q ∷ qs) good a b e =
    let s = same_front names r q (texts_of names rs) (texts_of names qs) good a.0 b.0 e in
    ap (λ (x : Row). x ∷ rs) s.row ∙ ap (λ (xs : List Row). q ∷ xs) (one_list names rs qs good a.1 b.1 s.rest_is)

no_fault : (names : NameList) (rs before : List Row) (rest : List ℕ) → AreNames names → AreRows names rs → AreRows names before → 0 < length rest → HasNoRow names rest
    → texts_of names rs ≡ texts_of names before ++ rest → ⊥
no_fault names [] [] rest good a b some none e = omega (arith, ap length e, some)
no_fault names (r ∷ rs) [] rest good a b some none e = none r (texts_of names rs) a.0 (sym e)
no_fault names [] (q ∷ before) rest good a b some none e =
    has_bytes names q (texts_of names before ++ rest) good b.0 (sym (append_assoc (text_of names q) (texts_of names before) rest) ∙ sym e)
no_fault names (r ∷ rs) (q ∷ before) rest good a b some none e =
    let s = same_front names r q (texts_of names rs) (texts_of names before ++ rest) good a.0 b.0 (e ∙ append_assoc (text_of names q) (texts_of names before) rest) in
    no_fault names rs before rest good a.1 b.1 some none s.rest_is

cancel : (head xs ys : List ℕ) → head ++ xs ≡ head ++ ys → xs ≡ ys
cancel [] xs ys e = e
cancel (b ∷ head) xs ys e = cancel head xs ys (cc)

pub never_both : (names : NameList) (text : List ℕ) (rs : List Row) (row : ℕ) → AreNames names → Reads names text rs → FailsAt names text row → ⊥
never_both names text rs row good reads (inl none) = none.1 (texts_of names rs) reads.whole
never_both names text rs row good reads (inr stops) =
    no_fault names rs stops.before stops.rest good reads.rows stops.rows stops.some stops.none
    (cancel fates_header (texts_of names rs) (texts_of names stops.before ++ stops.rest) (sym reads.whole ∙ stops.whole))

pub one_reading : (names : NameList) (text : List ℕ) (rs qs : List Row) → AreNames names → Reads names text rs → Reads names text qs → rs ≡ qs
one_reading names text rs qs good a b =
    one_list names rs qs good a.rows b.rows (cancel fates_header (texts_of names rs) (texts_of names qs) (sym a.whole ∙ b.whole))

-- two faults are at one row
one_stop : (names : NameList) (xs ys : List Row) (rest more : List ℕ) → AreNames names → AreRows names xs → AreRows names ys → HasNoRow names rest → HasNoRow names more
    → texts_of names xs ++ rest ≡ texts_of names ys ++ more → length xs ≡ length ys
one_stop names [] [] rest more good a b none also e = refl
one_stop names [] (y ∷ ys) rest more good a b none also e =
    absurd (none y (texts_of names ys ++ more) b.0 (e ∙ append_assoc (text_of names y) (texts_of names ys) more))
one_stop names (x ∷ xs) [] rest more good a b none also e =
    absurd (also x (texts_of names xs ++ rest) a.0 (sym e ∙ append_assoc (text_of names x) (texts_of names xs) rest))
one_stop names (x ∷ xs) (y ∷ ys) rest more good a b none also e =
    let s = same_front names x y (texts_of names xs ++ rest) (texts_of names ys ++ more) good a.0 b.0
    (sym (append_assoc (text_of names x) (texts_of names xs) rest) ∙ e ∙ append_assoc (text_of names y) (texts_of names ys) more) in
    ap (λ (n : ℕ). suc n) (one_stop names xs ys rest more good a.1 b.1 none also s.rest_is)

pub one_fault : (names : NameList) (text : List ℕ) (row other : ℕ) → AreNames names → FailsAt names text row → FailsAt names text other → row ≡ other
one_fault names text row other good (inl a) (inl b) = a.0 ∙ sym b.0
one_fault names text row other good (inl a) (inr b) = absurd (a.1 (texts_of names b.before ++ b.rest) b.whole)
one_fault names text row other good (inr a) (inl b) = absurd (b.1 (texts_of names a.before ++ a.rest) a.whole)
one_fault names text row other good (inr a) (inr b) =
    let same = one_stop names a.before b.before a.rest b.rest good a.rows b.rows a.none b.none
    (cancel fates_header (texts_of names a.before ++ a.rest) (texts_of names b.before ++ b.rest) (sym a.whole ∙ b.whole)) in
    omega (arith, same, a.place, b.place)

-- the texts of a journal's rows are its fates
pub journal_texts : (names : NameList) (arrived : List Captured) (js : List Decision) → fate_rows (name_of names) arrived js ≡ texts_of names (rows_for arrived js)
journal_texts names arrived [] = refl
journal_texts names arrived (d ∷ js) = ap (λ (rest : List ℕ). fate_row (name_of names) arrived d ++ rest) (journal_texts names arrived js)

pub fates_read : (names : NameList) (arrived : List Captured) (js : List Decision) → AreRows names (rows_for arrived js)
    → Reads names (fates (name_of names) arrived js) (rows_for arrived js)
fates_read names arrived js are = record { rows = are; whole = ap (λ (rest : List ℕ). fates_header ++ rest) (journal_texts names arrived js) }
