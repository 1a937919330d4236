-- What rows leave stands at the front of departures, row by row.
use Rattle.std.proofs.Common.{◌≡◌, ◌∙◌, ◌+◌, ◌<◌, ◌≤◌, ℕ, suc, List, [], ◌∷◌, ◌++◌, length, take, drop, refl, ap, sym, subst, arith, append_assoc}
use Rattle.std.proofs.lemmas.List.{append-nil, take_more, take_all, length-take-le}
use Rattle.capture_model.specs.Header.{capture_header}
use Rattle.altq_model.specs.Departures.{Dressing}
use Rattle.fate_check.specs.declared.reading.Row.{Row}
use Rattle.fate_judge.proofs.Walking.{no_row, parts_at, row_at}
use Rattle.fate_departures.specs.Departures.{AreDepartures, GoesOn, Leave, Leaves, LeavesFront, LeavesNoFront, StopsAt}
use Rattle.fate_departures.specs.Frames.{Packets}

-- what the rows before a place leave stands behind the header, and then the rest
pub record DeparturesStand (dress : Dressing) (p : Packets) (rows : List Row) (i : ℕ) (departures rest : List ℕ) : Type 0 where
  pub left : List ℕ
  pub whole : departures ≡ capture_header ++ (left ++ rest)
  pub passed : Leave dress p (take i rows) left

pub leave_more : (dress : Dressing) (p : Packets) (rows : List Row) (r : Row) (left piece : List ℕ) → Leave dress p rows left → Leaves dress p r piece
    → Leave dress p (rows ++ r ∷ []) (left ++ piece)
leave_more dress p [] r left piece none l =
    (piece, [], ap (λ (xs : List ℕ). xs ++ piece) none ∙ sym (append-nil piece), l, refl)
leave_more dress p (q ∷ rows) r left piece h l =
    (h.0, h.1 ++ piece, ap (λ (xs : List ℕ). xs ++ piece) h.2 ∙ append_assoc h.0 h.1 piece, h.3, leave_more dress p rows r h.1 piece h.4 l)

pub stands_first : (dress : Dressing) (p : Packets) (rows : List Row) (departures rest : List ℕ) → departures ≡ capture_header ++ rest
    → DeparturesStand dress p rows 0 departures rest
stands_first dress p rows departures rest e = record { left = []; whole = e; passed = refl }

pub stands_more : (dress : Dressing) (p : Packets) (rows : List Row) (i : ℕ) (departures rest more : List ℕ) → i < length rows
    → DeparturesStand dress p rows i departures rest → LeavesFront dress p (row_at rows i) rest more → DeparturesStand dress p rows (i + 1) departures more
stands_more dress p rows i departures rest more lt s f =
    let P : List Row → Type 0 = λ xs. Leave dress p xs (s.left ++ f.piece) in
    record {
      left = s.left ++ f.piece;
      whole = s.whole ∙ ap (λ (xs : List ℕ). capture_header ++ xs) (ap (λ (xs : List ℕ). s.left ++ xs) f.whole ∙ sym (append_assoc s.left f.piece more));
      passed = subst P (sym (take_more rows i no_row lt)) (leave_more dress p (take i rows) (row_at rows i) s.left f.piece s.passed f.leaves);
    }

pub stops : (dress : Dressing) (p : Packets) (rows : List Row) (i : ℕ) (departures rest : List ℕ) → i < length rows
    → DeparturesStand dress p rows i departures rest → LeavesNoFront dress p (row_at rows i) rest → StopsAt dress p rows departures (i + 1)
stops dress p rows i departures rest lt s none =
    let long : length (take i rows) ≡ i = length-take-le i rows (omega (arith, lt)) in
    record {
      before = take i rows;
      at = row_at rows i;
      behind = drop (suc i) rows;
      parts = parts_at rows i lt;
      place = omega (arith, long);
      left = s.left;
      rest = rest;
      whole = s.whole;
      passed = s.passed;
      fails = none;
    }

pub are_departures : (dress : Dressing) (p : Packets) (rows : List Row) (i : ℕ) (departures rest : List ℕ) → length rows ≤ i
    → DeparturesStand dress p rows i departures rest → rest ≡ [] → AreDepartures dress p rows departures
are_departures dress p rows i departures rest le s none =
    let P : List Row → Type 0 = λ xs. Leave dress p xs s.left in
    record {
      left = s.left;
      whole = s.whole ∙ ap (λ (xs : List ℕ). capture_header ++ xs) (ap (λ (xs : List ℕ). s.left ++ xs) none ∙ append-nil s.left);
      leave = subst P (take_all i rows le) s.passed;
    }

pub go_on : (dress : Dressing) (p : Packets) (rows : List Row) (i : ℕ) (departures rest : List ℕ) → length rows ≤ i
    → DeparturesStand dress p rows i departures rest → 0 < length rest → GoesOn dress p rows departures (length rows + 1)
go_on dress p rows i departures rest le s some =
    let P : List Row → Type 0 = λ xs. Leave dress p xs s.left in
    record {
      left = s.left;
      rest = rest;
      whole = s.whole;
      passed = subst P (take_all i rows le) s.passed;
      some = some;
      place = refl;
    }
