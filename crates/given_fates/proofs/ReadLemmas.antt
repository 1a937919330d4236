-- A text that is read on.
use Rattle.std.proofs.Common.{◌≡◌, ◌≤◌, ◌+◌, ◌++◌, ◌∙◌, ◌⊎◌, inl, inr, ℕ, List, [], ◌∷◌, length, take, drop, refl, sym, ap, subst, arith, append_assoc, append-nil}
use Rattle.std.specs.Prelude.{Some}
use Rattle.std.proofs.lemmas.List.{append_cancel_left, length-append, length-take-le, nil_from_length, take-append-drop}
use Rattle.std.proofs.Math.Seq.{take-append_seam}
use Rattle.fate_check.specs.declared.reading.Row.{Row}
use Rattle.fate_check.specs.Text.{AreRows, FailsAt, Reads, StopsAt, text_of, texts_of}
use Rattle.fate_check.proofs.RowLemmas.{row_shorter}
use Rattle.given_fates.specs.Fates.{ArePassed, IsReadTo}
use Rattle.play_base.specs.View.{View, IsAtEnd, Took}
use Rattle.play_text.specs.Names.{AreNames, NameList}
use Rattle.play_text.specs.Texts.{fates_header}

-- rows and more rows
texts_join : (names : NameList) (xs ys : List Row) → texts_of names (xs ++ ys) ≡ texts_of names xs ++ texts_of names ys
texts_join names [] ys = refl
texts_join names (x ∷ xs) ys =
    ap (λ (behind : List ℕ). text_of names x ++ behind) (texts_join names xs ys) ∙ sym (append_assoc (text_of names x) (texts_of names xs) (texts_of names ys))

texts_then : (names : NameList) (xs ys : List Row) (more : List ℕ) → texts_of names xs ++ (texts_of names ys ++ more) ≡ texts_of names (xs ++ ys) ++ more
texts_then names xs ys more =
    sym (append_assoc (texts_of names xs) (texts_of names ys) more) ∙ ap (λ (front : List ℕ). front ++ more) (sym (texts_join names xs ys))

rows_join : (names : NameList) (xs ys : List Row) → AreRows names xs → AreRows names ys → AreRows names (xs ++ ys)
rows_join names [] ys are more = more
rows_join names (x ∷ xs) ys are more = (are.0, rows_join names xs ys are.1 more)

-- the rest is all rows
read_last : (names : NameList) (rows more : List Row) (left text : List ℕ) → AreRows names rows → ((rows ≡ []) × (text ≡ left)) ⊎ ArePassed names rows left text
    → Reads names left more → Reads names text (rows ++ more)
read_last names rows more left text are (inl e) r =
    let P : List Row → Type 0 = λ rs. Reads names text (rs ++ more) in
    let Q : List ℕ → Type 0 = λ t. Reads names t more in
    subst P (sym e.0) (subst Q (sym e.1) r)
read_last names rows more left text are (inr p) r =
    let rest : p.rest ≡ texts_of names more = append_cancel_left fates_header p.rest (texts_of names more) (sym p.headed ∙ r.whole) in
    record {
      rows = rows_join names rows more are r.rows;
      whole = p.whole
          ∙ ap (λ (behind : List ℕ). fates_header ++ (texts_of names rows ++ behind)) rest
          ∙ ap (λ (behind : List ℕ). fates_header ++ behind) (sym (texts_join names rows more));
    }

pub reads_last : (names : NameList) (rows more : List Row) (left text : List ℕ) → IsReadTo names rows left text → Reads names left more → Reads names text (rows ++ more)
reads_last names rows more left text x r = read_last names rows more left text x.are x.parts r

-- a row of the rest is none
stops_later : (names : NameList) (rows : List Row) (left text : List ℕ) (row : ℕ) → AreRows names rows → ArePassed names rows left text
    → StopsAt names left row → StopsAt names text (length rows + row)
stops_later names rows left text row are p s =
    let rest : p.rest ≡ texts_of names s.before ++ s.rest = append_cancel_left fates_header p.rest (texts_of names s.before ++ s.rest) (sym p.headed ∙ s.whole) in
    record {
      before = rows ++ s.before;
      rest = s.rest;
      rows = rows_join names rows s.before are s.rows;
      whole = p.whole
          ∙ ap (λ (behind : List ℕ). fates_header ++ (texts_of names rows ++ behind)) rest
          ∙ ap (λ (behind : List ℕ). fates_header ++ behind) (texts_then names rows s.before s.rest);
      some = s.some;
      none = s.none;
      place = omega (arith, s.place, length-append rows s.before);
    }

fail_later : (names : NameList) (rows : List Row) (left text : List ℕ) (row : ℕ) → AreRows names rows → ((rows ≡ []) × (text ≡ left)) ⊎ ArePassed names rows left text
    → FailsAt names left row → FailsAt names text (length rows + row)
fail_later names rows left text row are (inl e) f =
    let P : ℕ → Type 0 = λ n. FailsAt names text n in
    let Q : List ℕ → Type 0 = λ t. FailsAt names t row in
    let none : length rows ≡ 0 = ap length e.0 in
    subst P (omega (arith, none)) (subst Q (sym e.1) f)
fail_later names rows left text row are (inr p) (inl h) = absurd (h.1 p.rest p.headed)
fail_later names rows left text row are (inr p) (inr s) = inr (stops_later names rows left text row are p s)

pub fails_later : (names : NameList) (rows : List Row) (left text : List ℕ) (row : ℕ) → IsReadTo names rows left text → FailsAt names left row
    → FailsAt names text (length rows + row)
fails_later names rows left text row x f = fail_later names rows left text row x.are x.parts f

-- there are no more rows than bytes
rows_few : (names : NameList) (rs : List Row) → AreNames names → AreRows names rs → length rs ≤ length (texts_of names rs)
rows_few names [] good are = omega arith
rows_few names (r ∷ rs) good are =
    let behind = texts_of names rs in
    omega (arith, row_shorter names (text_of names r ++ behind) r behind good (record { is = are.0; front = refl }), rows_few names rs good are.1)

pub fails_within : (names : NameList) (text : List ℕ) (row : ℕ) → AreNames names → FailsAt names text row → row ≤ length text + 1
fails_within names text row good (inl h) = omega (arith, h.0)
fails_within names text row good (inr s) =
    omega (arith, s.place, rows_few names s.before good s.rows, ap length s.whole, length-append fates_header (texts_of names s.before ++ s.rest), length-append (texts_of names s.before) s.rest)

-- the rows of the first `end` bytes are passed
pub record IsFront (names : NameList) (end : ℕ) (left : List ℕ) (more : List Row) : Type 0 where
  pub parts : left ≡ fates_header ++ (texts_of names more ++ drop end left)
  pub headed : take (length fates_header) left ≡ fates_header
  pub long : end ≤ length left → length fates_header ≤ end

pub front_read : (names : NameList) (end : ℕ) (left : List ℕ) (more : List Row) → Reads names (take end left) more → IsFront names end left more
front_read names end left more r =
    let parts : left ≡ fates_header ++ (texts_of names more ++ drop end left) =
    sym (take-append-drop end left) ∙ ap (λ (front : List ℕ). front ++ drop end left) r.whole ∙ append_assoc fates_header (texts_of names more) (drop end left) in
    record {
      parts = parts;
      headed = ap (λ (t : List ℕ). take (length fates_header) t) parts ∙ take-append_seam fates_header (texts_of names more ++ drop end left);
      long = λ inside. omega (arith, length-take-le end left inside, ap length r.whole, length-append fates_header (texts_of names more));
    }

pass_on : (names : NameList) (rows more : List Row) (end : ℕ) (left text : List ℕ) → ((rows ≡ []) × (text ≡ left)) ⊎ ArePassed names rows left text
    → IsFront names end left more → text ≡ fates_header ++ (texts_of names (rows ++ more) ++ drop end left)
pass_on names rows more end left text (inl e) f =
    let P : List Row → Type 0 = λ rs. text ≡ fates_header ++ (texts_of names (rs ++ more) ++ drop end left) in
    subst P (sym e.0) (e.1 ∙ f.parts)
pass_on names rows more end left text (inr p) f =
    let behind = texts_of names more ++ drop end left in
    let rest : p.rest ≡ behind = append_cancel_left fates_header p.rest behind (sym p.headed ∙ f.parts) in
    p.whole
    ∙ ap (λ (r : List ℕ). fates_header ++ (texts_of names rows ++ r)) rest
    ∙ ap (λ (r : List ℕ). fates_header ++ r) (texts_then names rows more (drop end left))

pub passes_on : (names : NameList) (rows more : List Row) (end : ℕ) (left text : List ℕ) → IsReadTo names rows left text → Reads names (take end left) more
    → IsReadTo names (rows ++ more) (take (length fates_header) left ++ drop end left) text
passes_on names rows more end left text x r =
    let f = front_read names end left more r in
    record {
      are = rows_join names rows more x.are r.rows;
      parts = inr (record {
        rest = drop end left;
        headed = ap (λ (front : List ℕ). front ++ drop end left) f.headed;
        whole = pass_on names rows more end left text x.parts f;
      });
    }

-- bytes more
more_parts : (names : NameList) (rows : List Row) (left text more : List ℕ) → ((rows ≡ []) × (text ≡ left)) ⊎ ArePassed names rows left text
    → ((rows ≡ []) × (text ++ more ≡ left ++ more)) ⊎ ArePassed names rows (left ++ more) (text ++ more)
more_parts names rows left text more (inl e) = inl (e.0, ap (λ (t : List ℕ). t ++ more) e.1)
more_parts names rows left text more (inr p) = inr (record {
  rest = p.rest ++ more;
  headed = ap (λ (t : List ℕ). t ++ more) p.headed ∙ append_assoc fates_header p.rest more;
  whole = ap (λ (t : List ℕ). t ++ more) p.whole
      ∙ append_assoc fates_header (texts_of names rows ++ p.rest) more
      ∙ ap (λ (t : List ℕ). fates_header ++ t) (append_assoc (texts_of names rows) p.rest more);
})

pub more_read : (names : NameList) (rows : List Row) (left text more next : List ℕ) → next ≡ left ++ more → IsReadTo names rows left text
    → IsReadTo names rows next (text ++ more)
more_read names rows left text more next e x =
    let P : List ℕ → Type 0 = λ l. IsReadTo names rows l (text ++ more) in
    subst P (sym e) (record { are = x.are; parts = more_parts names rows left text more x.parts })

pub none_read : (names : NameList) → IsReadTo names [] [] []
none_read names = record { are = tt; parts = inl (refl, refl) }

-- what a file had left, once all of it or some was taken
pub all_taken : (a b : View) (file : ℕ) (all text : List ℕ) → Took a b file all → IsAtEnd b file → a.left file ≡ Some text → text ≡ all
all_taken a b file all text took end left =
    let y = took.left text left in
    let none : y.0 ≡ [] = nil_from_length y.0 (end y.0 y.2) in
    y.1 ∙ ap (λ (r : List ℕ). all ++ r) none ∙ append-nil all

pub some_taken : (a b : View) (file : ℕ) (all text : List ℕ) → Took a b file all → a.left file ≡ Some text → length all ≤ length text
some_taken a b file all text took left =
    let y = took.left text left in
    omega (arith, ap length y.1, length-append all y.0)
