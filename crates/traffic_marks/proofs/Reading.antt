-- A capture with other frames of the same lengths reads as before but for them.
use Rattle.std.proofs.Common.{◌≡◌, ◌+◌, ◌∙◌, ap, ℕ, zero, suc, List, [], ◌∷◌, ◌++◌, length, take, drop, refl, arith, sym, length-drop}
use Rattle.std.proofs.lemmas.Bool.{ltb-false}
use Rattle.std.proofs.lemmas.List.{drop-drop, drop_at, length-take-le, take-append-drop, take_at}
use Rattle.capture_model.specs.Capture.{Form, Record, Step, End, Next, Fault, Limit, Header, Formed, Unformed, Outcome, header, more, outcome, outcome_from, outcome_on, step, word}
use Rattle.capture_model.proofs.OutcomeLemmas.{next_place}
use Rattle.traffic_marks.specs.Laws.{KeepsReading, recaptured}
use Rattle.traffic_marks.specs.Marked.{Conditioning, frames, with_frames}
use Rattle.traffic_marks.proofs.Lengths.{SameLengths, length-marked, same_lengths}
use Rattle.traffic_marks.proofs.Steps.{formed_whole, header_same, is_next, seen, step_same, step_with}

abbrev with_captured : Outcome → List (List ℕ) → Outcome
with_captured o fs = record { records = recaptured o.records fs; last = o.last }

-- what follows a step
abbrev turned : (turns : ℕ) → Form → List ℕ → (count : ℕ) → Step → Outcome
turned turns form bytes count s =
    elim s [
      | End ↦ record { records = []; last = End }
      | Next r after ↦ more r (outcome_on turns form bytes (count + 1) after)
      | Fault fault ↦ record { records = []; last = Fault fault }
      | Limit ↦ record { records = []; last = Limit }
    ]

-- `x` is `y` with frames in the place of those behind `at`
record Replaced (x y : List ℕ) (at : ℕ) (fs : List (List ℕ)) : Type 0 where
  pub size : length x ≡ length y
  pub behind : drop at x ≡ with_frames fs (drop at y)

-- one record of them
record Front (form : Form) (x y : List ℕ) (at : ℕ) (f : List ℕ) (fs : List (List ℕ)) (after : ℕ) : Type 0 where
  pub head : take 16 (drop at x) ≡ take 16 (drop at y)
  pub frame : take (word form.big y (at + 8)) (drop (at + 16) x) ≡ f
  pub rest : Replaced x y after fs

front : (form : Form) (x y : List ℕ) (count at : ℕ) (f : List ℕ) (fs : List (List ℕ)) (r : Record) (after : ℕ)
    → Replaced x y at (f ∷ fs) → step form y count at ≡ Next r after → length f ≡ length r.captured → Front form x y at f fs after
front form x y count at f fs r after made next same =
    let place = next_place form y count at r after next in
    let is = is_next form count at (seen form y at) (drop (at + 16) y) r after next in
    let size : length f ≡ word form.big y (at + 8) = omega arith in
    let Y = drop at y in
    let rest = with_frames fs (drop (16 + length f) Y) in
    let sixteen : length (take 16 Y) ≡ 16 = length-take-le 16 Y (omega (arith, place.0, place.1, length-drop at y)) in
    let tail : drop (at + 16) x ≡ f ++ rest =
    sym (drop-drop 16 at x) ∙ ap (drop 16) made.behind ∙ drop_at (take 16 Y) (f ++ rest) 16 sixteen in
    let from : after ≡ at + 16 + length f = omega arith in
    let x_behind : drop after x ≡ rest =
    ap (λ (n : ℕ). drop n x) from ∙ sym (drop-drop (length f) (at + 16) x) ∙ ap (drop (length f)) tail ∙ drop_at f rest (length f) refl in
    let y_behind : drop (16 + length f) Y ≡ drop after y =
    drop-drop (16 + length f) at y ∙ ap (λ (n : ℕ). drop n y) (omega arith) in
    record {
      head = ap (take 16) made.behind ∙ take_at (take 16 Y) (f ++ rest) 16 sixteen;
      frame = ap (take (word form.big y (at + 8))) tail ∙ take_at f rest (word form.big y (at + 8)) size;
      rest = record { size = made.size; behind = x_behind ∙ ap (with_frames fs) y_behind };
    }

-- at a place where nothing is replaced
unreplaced : (turns : ℕ) (form : Form) (x y : List ℕ) (count at : ℕ) (s : Step) → Replaced x y at [] → step form y count at ≡ s
    → step form x count at ≡ s
unreplaced turns form x y count at s made h = step_same form x y count at made.size made.behind ∙ h

turn : (turns : ℕ) (form : Form) (x y : List ℕ) (fs : List (List ℕ)) (count at : ℕ)
    → ((n : ℕ) (gs : List (List ℕ)) → Replaced x y n gs → SameLengths (outcome_on turns form y (count + 1) n).records gs
    → outcome_on turns form x (count + 1) n ≡ with_captured (outcome_on turns form y (count + 1) n) gs)
    → Replaced x y at fs → (s : Step) → step form y count at ≡ s → SameLengths (turned turns form y count s).records fs
    → turned turns form x count (step form x count at) ≡ with_captured (turned turns form y count s) fs
turn turns form x y [] count at more_reads made End h lens =
    ap (turned turns form x count) (unreplaced turns form x y count at End made h)
turn turns form x y (f ∷ fs) count at more_reads made End h lens = absurd lens
turn turns form x y [] count at more_reads made (Fault d) h lens =
    ap (turned turns form x count) (unreplaced turns form x y count at (Fault d) made h)
turn turns form x y (f ∷ fs) count at more_reads made (Fault d) h lens = absurd lens
turn turns form x y [] count at more_reads made Limit h lens =
    ap (turned turns form x count) (unreplaced turns form x y count at Limit made h)
turn turns form x y (f ∷ fs) count at more_reads made Limit h lens = absurd lens
turn turns form x y [] count at more_reads made (Next r after) h lens = absurd lens
turn turns form x y (f ∷ fs) count at more_reads made (Next r after) h lens =
    let p = front form x y count at f fs r after made h lens.0 in
    ap (turned turns form x count) (step_with form x y f count at r after made.size p.head h p.frame)
    ∙ ap (more (record r { captured = f })) (more_reads after fs p.rest lens.1)

abbrev ended : Step → Outcome
ended s = record { records = []; last = s }

reads : (turns : ℕ) (form : Form) (x y : List ℕ) (fs : List (List ℕ)) (count at : ℕ) → Replaced x y at fs
    → SameLengths (outcome_on turns form y count at).records fs
    → outcome_on turns form x count at ≡ with_captured (outcome_on turns form y count at) fs
reads zero form x y [] count at made lens =
    ap ended (step_same form x y count at made.size made.behind)
reads zero form x y (f ∷ fs) count at made lens = absurd lens
reads (suc turns) form x y fs count at made lens =
    turn turns form x y fs count at (λ n gs. reads turns form x y gs (count + 1) n) made (step form y count at) refl lens

-- a capture with frames in its records
abbrev replaced : List ℕ → List (List ℕ) → List ℕ
replaced bytes fs = take 24 bytes ++ with_frames fs (drop 24 bytes)

by_header : (h : Header) (bytes : List ℕ) (fs : List (List ℕ)) → header bytes ≡ h → length (replaced bytes fs) ≡ length bytes
    → SameLengths (outcome_from h bytes).records fs → outcome (replaced bytes fs) ≡ with_captured (outcome_from h bytes) fs
by_header (Unformed d) bytes [] e size lens =
    ap outcome (take-append-drop 24 bytes) ∙ ap (λ (t : Header). outcome_from t bytes) e
by_header (Unformed d) bytes (f ∷ fs) e size lens = absurd lens
by_header (Formed form) bytes fs e size lens =
    let x = replaced bytes fs in
    let long : length (take 24 bytes) ≡ 24 = length-take-le 24 bytes (ltb-false (length bytes) 24 (formed_whole bytes form e)) in
    let head : take 24 x ≡ take 24 bytes = take_at (take 24 bytes) (with_frames fs (drop 24 bytes)) 24 long in
    let behind : drop 24 x ≡ with_frames fs (drop 24 bytes) = drop_at (take 24 bytes) (with_frames fs (drop 24 bytes)) 24 long in
    ap (λ (t : Header). outcome_from t x) (header_same x bytes size head ∙ e)
    ∙ ap (λ (n : ℕ). outcome_on n form x 0 24) size
    ∙ reads (length bytes) form x bytes fs 0 24 (record { size = size; behind = behind }) lens

pub keeps_reading : (c : Conditioning) (bytes : List ℕ) → KeepsReading c bytes
keeps_reading c bytes =
    by_header (header bytes) bytes (frames c (outcome bytes).records) refl (length-marked c bytes)
    (same_lengths c.place c.conditioners (outcome bytes).records 0 [])
