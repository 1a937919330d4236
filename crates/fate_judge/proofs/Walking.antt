-- A walk over rows, one by one.
use Rattle.std.proofs.Common.{◌≡◌, ◌∙◌, ◌+◌, ◌<◌, ◌≤◌, ℕ, suc, List, [], ◌∷◌, ◌++◌, length, take, drop, get_or, refl, ap, sym, subst, arith}
use Rattle.std.proofs.lemmas.List.{take_more, take_all, take-append-drop, length-take-le}
use Rattle.std.proofs.Math.Seq.{drop-cons}
use Rattle.altq_model.specs.declared.Fate.TheVariants.{Dropped}
use Rattle.altq_model.specs.declared.Reason.TheVariants.{Full}
use Rattle.fate_check.specs.declared.reading.Row.{Row}
use Rattle.fate_judge.specs.Walk.{EachRow, FirstFails, newest_first}

abbrev pub no_row : Row
no_row = record { number = 0; at = 0; len = 0; class = 0; fate = Dropped Full }

-- the row at a place
abbrev pub row_at : List Row → (i : ℕ) → Row
row_at rows i = get_or rows i no_row

-- the rows before it, the newest first
abbrev pub before_at : List Row → (i : ℕ) → List Row
before_at rows i = newest_first (take i rows) []

-- each row before a place is so
abbrev pub EachBelow : (IsSo : List Row → Row → Type 0) → List Row → (i : ℕ) → Type 0
EachBelow IsSo rows i = EachRow IsSo [] (take i rows)

each_more : (IsSo : List Row → Row → Type 0) (before xs : List Row) (r : Row) → EachRow IsSo before xs → IsSo (newest_first xs before) r
    → EachRow IsSo before (xs ++ r ∷ [])
each_more IsSo before [] r each is = (is, tt)
each_more IsSo before (x ∷ xs) r each is = (each.0, each_more IsSo (x ∷ before) xs r each.1 is)

newest_more : (xs before : List Row) (r : Row) → newest_first (xs ++ r ∷ []) before ≡ r ∷ newest_first xs before
newest_more [] before r = refl
newest_more (x ∷ xs) before r = newest_more xs (x ∷ before) r

pub before_more : (rows : List Row) (i : ℕ) → i < length rows → before_at rows (i + 1) ≡ row_at rows i ∷ before_at rows i
before_more rows i lt = ap (λ (xs : List Row). newest_first xs []) (take_more rows i no_row lt) ∙ newest_more (take i rows) [] (row_at rows i)

-- one row more
pub one_more : (IsSo : List Row → Row → Type 0) (rows : List Row) (i : ℕ) → i < length rows → EachBelow IsSo rows i
    → IsSo (before_at rows i) (row_at rows i) → EachBelow IsSo rows (i + 1)
one_more IsSo rows i lt each so =
    let P : List Row → Type 0 = EachRow IsSo [] in
    subst P (sym (take_more rows i no_row lt)) (each_more IsSo [] (take i rows) (row_at rows i) each so)

pub all_rows : (IsSo : List Row → Row → Type 0) (rows : List Row) (i : ℕ) → length rows ≤ i → EachBelow IsSo rows i → EachRow IsSo [] rows
all_rows IsSo rows i le each = let P : List Row → Type 0 = EachRow IsSo [] in subst P (take_all i rows le) each

pub parts_at : (rows : List Row) (i : ℕ) → i < length rows → rows ≡ take i rows ++ row_at rows i ∷ drop (suc i) rows
parts_at rows i lt = sym (take-append-drop i rows) ∙ ap (λ (xs : List Row). take i rows ++ xs) (drop-cons rows i no_row lt)

pub first_fails : (IsSo : List Row → Row → Type 0) (rows : List Row) (i : ℕ) → i < length rows → EachBelow IsSo rows i
    → (IsSo (before_at rows i) (row_at rows i) → ⊥) → FirstFails IsSo rows (i + 1)
first_fails IsSo rows i lt each fails =
    let long : length (take i rows) ≡ i = length-take-le i rows (omega (arith, lt)) in
    record {
      before = take i rows;
      at = row_at rows i;
      behind = drop (suc i) rows;
      parts = parts_at rows i lt;
      place = omega (arith, long);
      passed = each;
      fails = fails;
    }

-- what holds of each row, at one
pub each_at : (IsSo : List Row → Row → Type 0) (before xs ys : List Row) (r : Row) → EachRow IsSo before (xs ++ r ∷ ys) → IsSo (newest_first xs before) r
each_at IsSo before [] ys r each = each.0
each_at IsSo before (x ∷ xs) ys r each = each_at IsSo (x ∷ before) xs ys r each.1

pub at_row : (IsSo : List Row → Row → Type 0) (rows : List Row) (i : ℕ) → i < length rows → EachRow IsSo [] rows → IsSo (before_at rows i) (row_at rows i)
at_row IsSo rows i lt each =
    let P : List Row → Type 0 = EachRow IsSo [] in
    each_at IsSo [] (take i rows) (drop (suc i) rows) (row_at rows i) (subst P (parts_at rows i lt) each)
