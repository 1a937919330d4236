-- Departures fail in one way.
use Rattle.std.proofs.Common.{◌≡◌, ◌∙◌, ◌+◌, ℕ, List, [], ◌∷◌, ◌++◌, length, inl, inr, refl, ap, sym, subst, arith, append_assoc}
use Rattle.std.proofs.lemmas.List.{append-nil, append_cancel_left, length-append}
use Rattle.capture_model.specs.Capture.{Record}
use Rattle.capture_model.specs.Header.{capture_header}
use Rattle.capture_model.specs.Written.{record_text}
use Rattle.altq_model.specs.declared.Fate.{Fate}
use Rattle.altq_model.specs.declared.Fate.TheVariants.{Dropped, Sent}
use Rattle.altq_model.specs.Departures.{Dressing, KeepsLength}
use Rattle.fate_check.specs.declared.reading.Row.{Row}
use Rattle.fate_departures.specs.Departures.{AreDepartures, DepartOtherwise, IsRecordOf, Leave, Leaves, LeavesBy, LeavesNoFront, StopsAt, leaving}
use Rattle.fate_departures.specs.Frames.{Packets, frame_of}

length_text : (r : Record) → length (record_text r) ≡ 16 + length r.captured
length_text r = omega arith

record_length : (dress : Dressing) (p : Packets) (r : Row) (end : ℕ) (a : List ℕ) → KeepsLength dress → IsRecordOf dress p r end a
    → length a ≡ 16 + length (frame_of p r.number)
record_length dress p r end a keeps d =
    omega (arith, ap length d.is, length_text (leaving dress p r end d.marked), keeps r.class d.marked (frame_of p r.number))

-- a row leaves as many bytes, marked or not
piece_length : (dress : Dressing) (p : Packets) (r : Row) (f : Fate) (a b : List ℕ) → KeepsLength dress → LeavesBy dress p r f a → LeavesBy dress p r f b
    → length a ≡ length b
piece_length dress p r (Dropped reason) a b keeps x y = ap length (x ∙ sym y)
piece_length dress p r (Sent start end rule) a b keeps x y =
    omega (arith, record_length dress p r end a keeps x, record_length dress p r end b keeps y)

split_same : (a b c d : List ℕ) → length a ≡ length b → a ++ c ≡ b ++ d → c ≡ d
split_same [] [] c d e f = f
split_same [] (y ∷ b) c d e f = absurd (omega (arith, e))
split_same (x ∷ a) [] c d e f = absurd (omega (arith, e))
split_same (x ∷ a) (y ∷ b) c d e f = let rest : a ++ c ≡ b ++ d = cc in split_same a b c d (omega (arith, e)) rest

-- the rest behind a piece
behind : (left piece more rest : List ℕ) → left ≡ piece ++ more → left ++ rest ≡ piece ++ (more ++ rest)
behind left piece more rest e = ap (λ (xs : List ℕ). xs ++ rest) e ∙ append_assoc piece more rest

-- behind the pieces of one row, where the whole is the same
next_same : (dress : Dressing) (p : Packets) (x : Row) (xs ys : List Row) (left left' rest rest' : List ℕ) → KeepsLength dress
    → (l : Leave dress p (x ∷ xs) left) → (m : Leave dress p (x ∷ ys) left') → left ++ rest ≡ left' ++ rest' → l.1 ++ rest ≡ m.1 ++ rest'
next_same dress p x xs ys left left' rest rest' keeps l m e =
    split_same l.0 m.0 (l.1 ++ rest) (m.1 ++ rest') (piece_length dress p x x.fate l.0 m.0 keeps l.3 m.3)
    (sym (behind left l.0 l.1 rest l.2) ∙ e ∙ behind left' m.0 m.1 rest' m.2)

-- where nothing of the next row stands in front, the departures do not go on with it
not_next : (dress : Dressing) (p : Packets) (a y : Row) (left left' rest rest' piece more : List ℕ) → a ≡ y → left ≡ [] → left' ≡ piece ++ more
    → Leaves dress p y piece → left ++ rest ≡ left' ++ rest' → LeavesNoFront dress p a rest → ⊥
not_next dress p a y left left' rest rest' piece more same none e l whole front =
    let P : Row → Type 0 = λ r. Leaves dress p r piece in
    let start : rest ≡ left ++ rest = ap (λ (xs : List ℕ). xs ++ rest) (sym none) in
    front piece (more ++ rest') (start ∙ whole ∙ behind left' piece more rest' e) (subst P (sym same) l)

-- a row, those behind it, and what is left of the departures there
record Ahead : Type 0 where
  at : Row
  behind : List Row
  rest : List ℕ

as_far : (dress : Dressing) (p : Packets) (xs ys : List Row) (s t : Ahead) (left left' : List ℕ) → KeepsLength dress
    → xs ++ s.at ∷ s.behind ≡ ys ++ t.at ∷ t.behind → left ++ s.rest ≡ left' ++ t.rest → Leave dress p xs left → LeavesNoFront dress p s.at s.rest
    → Leave dress p ys left' → LeavesNoFront dress p t.at t.rest → length xs ≡ length ys
as_far dress p [] [] s t left left' keeps e w lx fx ly fy = refl
as_far dress p [] (y ∷ ys) s t left left' keeps e w lx fx ly fy =
    let same : s.at ≡ y = cc in
    absurd (not_next dress p s.at y left left' s.rest t.rest ly.0 ly.1 same lx ly.2 ly.3 w fx)
as_far dress p (x ∷ xs) [] s t left left' keeps e w lx fx ly fy =
    let same : t.at ≡ x = cc in
    absurd (not_next dress p t.at x left' left t.rest s.rest lx.0 lx.1 same ly lx.2 lx.3 (sym w) fy)
as_far dress p (x ∷ xs) (y ∷ ys) s t left left' keeps e w lx fx ly fy =
    let same : y ≡ x = cc in
    let later : xs ++ s.at ∷ s.behind ≡ ys ++ t.at ∷ t.behind = cc in
    let P : Row → Type 0 = λ r. Leave dress p (r ∷ ys) left' in
    let my = subst P same ly in
    let far = as_far dress p xs ys s t lx.1 my.1 keeps later (next_same dress p x xs ys left left' s.rest t.rest keeps lx my w) lx.4 fx my.4 fy in
    omega (arith, far)

not_all : (dress : Dressing) (p : Packets) (xs : List Row) (a : Row) (va : List Row) (left left' rest rest' : List ℕ) → KeepsLength dress
    → left ++ rest ≡ left' ++ rest' → Leave dress p xs left → LeavesNoFront dress p a rest → Leave dress p (xs ++ a ∷ va) left' → ⊥
not_all dress p [] a va left left' rest rest' keeps w lx fx ly =
    not_next dress p a a left left' rest rest' ly.0 ly.1 refl lx ly.2 ly.3 w fx
not_all dress p (x ∷ xs) a va left left' rest rest' keeps w lx fx ly =
    not_all dress p xs a va lx.1 ly.1 rest rest' keeps
    (next_same dress p x xs (xs ++ a ∷ va) left left' rest rest' keeps lx ly w) lx.4 fx ly.4

same_length : (dress : Dressing) (p : Packets) (rows : List Row) (left left' : List ℕ) → KeepsLength dress → Leave dress p rows left → Leave dress p rows left'
    → length left ≡ length left'
same_length dress p [] left left' keeps x y = ap length (x ∙ sym y)
same_length dress p (r ∷ rows) left left' keeps x y =
    omega (
      arith,
      ap length x.2,
      ap length y.2,
      length-append x.0 x.1,
      length-append y.0 y.1,
      piece_length dress p r r.fate x.0 y.0 keeps x.3 y.3,
      same_length dress p rows x.1 y.1 keeps x.4 y.4,
    )

two_stops : (dress : Dressing) (p : Packets) (rows : List Row) (departures : List ℕ) (row other : ℕ) → KeepsLength dress → StopsAt dress p rows departures row
    → StopsAt dress p rows departures other → row ≡ other
two_stops dress p rows departures row other keeps s t =
    let whole = append_cancel_left capture_header (s.left ++ s.rest) (t.left ++ t.rest) (sym s.whole ∙ t.whole) in
    let far = as_far dress p s.before t.before (record { at = s.at; behind = s.behind; rest = s.rest }) (record { at = t.at; behind = t.behind; rest = t.rest })
    s.left t.left keeps (sym s.parts ∙ t.parts) whole s.passed s.fails t.passed t.fails in
    omega (arith, far, s.place, t.place)

stops_and_passes : (dress : Dressing) (p : Packets) (rows : List Row) (departures left rest : List ℕ) (row : ℕ) → KeepsLength dress
    → StopsAt dress p rows departures row → departures ≡ capture_header ++ (left ++ rest) → Leave dress p rows left → ⊥
stops_and_passes dress p rows departures left rest row keeps s w l =
    let P : List Row → Type 0 = λ rs. Leave dress p rs left in
    not_all dress p s.before s.at s.behind s.left left s.rest rest keeps
    (append_cancel_left capture_header (s.left ++ s.rest) (left ++ rest) (sym s.whole ∙ w)) s.passed s.fails (subst P s.parts l)

pub one_departure : (dress : Dressing) (p : Packets) (rows : List Row) (departures : List ℕ) (row other : ℕ) → KeepsLength dress
    → DepartOtherwise dress p rows departures row → DepartOtherwise dress p rows departures other → row ≡ other
one_departure dress p rows departures row other keeps (inl f) (inl g) = omega (arith, f.0, g.0)
one_departure dress p rows departures row other keeps (inl f) (inr (inl g)) = absurd (f.1 (g.left ++ g.rest) g.whole)
one_departure dress p rows departures row other keeps (inl f) (inr (inr g)) = absurd (f.1 (g.left ++ g.rest) g.whole)
one_departure dress p rows departures row other keeps (inr (inl f)) (inl g) = absurd (g.1 (f.left ++ f.rest) f.whole)
one_departure dress p rows departures row other keeps (inr (inl f)) (inr (inl g)) = two_stops dress p rows departures row other keeps f g
one_departure dress p rows departures row other keeps (inr (inl f)) (inr (inr g)) =
    absurd (stops_and_passes dress p rows departures g.left g.rest row keeps f g.whole g.passed)
one_departure dress p rows departures row other keeps (inr (inr f)) (inl g) = absurd (g.1 (f.left ++ f.rest) f.whole)
one_departure dress p rows departures row other keeps (inr (inr f)) (inr (inl g)) =
    absurd (stops_and_passes dress p rows departures f.left f.rest other keeps g f.whole f.passed)
one_departure dress p rows departures row other keeps (inr (inr f)) (inr (inr g)) = omega (arith, f.place, g.place)

pub never_both : (dress : Dressing) (p : Packets) (rows : List Row) (departures : List ℕ) (row : ℕ) → KeepsLength dress
    → AreDepartures dress p rows departures → DepartOtherwise dress p rows departures row → ⊥
never_both dress p rows departures row keeps d (inl f) = f.1 d.left d.whole
never_both dress p rows departures row keeps d (inr (inl f)) =
    stops_and_passes dress p rows departures d.left [] row keeps f (d.whole ∙ ap (λ (xs : List ℕ). capture_header ++ xs) (sym (append-nil d.left))) d.leave
never_both dress p rows departures row keeps d (inr (inr f)) =
    let same = append_cancel_left capture_header d.left (f.left ++ f.rest) (sym d.whole ∙ f.whole) in
    absurd (omega (arith, ap length same, length-append f.left f.rest, same_length dress p rows d.left f.left keeps d.leave f.passed, f.some))
