-- The departures of a play are those of its rows.
use Rattle.std.proofs.Common.{◌≡◌, ◌∙◌, ◌-◌, ℕ, zero, suc, List, [], ◌∷◌, ◌++◌, map, refl, ap, sym, subst}
use Rattle.std.specs.Prelude.{slice_get, unwrap_or}
use Rattle.std.specs.Option.{option_map_or}
use Rattle.std.proofs.lemmas.List.{append-nil}
use Rattle.capture_model.specs.Written.{record_text, record_texts}
use Rattle.altq_model.specs.declared.Fate.TheVariants as fate
use Rattle.altq_model.specs.declared.Verdict.{Verdict}
use Rattle.altq_model.specs.declared.Verdict.TheVariants.{Keep, Mark, Drop}
use Rattle.altq_model.specs.Arrivals.{Captured, arrival, no_arrival}
use Rattle.altq_model.specs.Departures.{Dressing, departed, departed_by, departure, departures}
use Rattle.altq_model.specs.History.{Decision, Event, Offered, Sent, LabelledEvent, decided, dropped_by, journal, was_marked}
use Rattle.altq_model.specs.Laws.{EndsInTime, IsInTime}
use Rattle.play_laws.proofs.DepartureLemmas.{texts-append}
use Rattle.fate_check.specs.declared.reading.Row.{Row}
use Rattle.fate_check.specs.Given.{row_for, rows_for}
use Rattle.fate_departures.specs.Departures.{AreDepartures, IsRecordOf, Leave}
use Rattle.fate_departures.specs.Frames.{Packets, frame_of}
use Rattle.fate_departures.proofs.Standing.{leave_more}
use Rattle.fate_laws.specs.Plays.{HasFrames, MarksAreAllowed, MayHaveMarked, bytes_of}

-- the captured bytes of a number are those of its arrival
frame_at : (arrived : List Captured) (k : ℕ)
    → option_map_or (λ (frame : List ℕ). frame) (slice_get (map bytes_of arrived) k) [] ≡ (unwrap_or (slice_get arrived k) no_arrival).bytes
frame_at [] k = refl
frame_at (a ∷ arrived) zero = refl
frame_at (a ∷ arrived) (suc k) = frame_at arrived k

frame_is : (p : Packets) (arrived : List Captured) (n : ℕ) → HasFrames p arrived → frame_of p n ≡ (arrival arrived n).bytes
frame_is p arrived n e =
    ap (λ (fs : List (List ℕ)). option_map_or (λ (frame : List ℕ). frame) (slice_get fs (n - 1)) []) e ∙ frame_at arrived (n - 1)

pub rows_append : (arrived : List Captured) (xs ys : List Decision) → rows_for arrived (xs ++ ys) ≡ rows_for arrived xs ++ rows_for arrived ys
rows_append arrived [] ys = refl
rows_append arrived (d ∷ xs) ys = ap (λ (rs : List Row). row_for arrived d ∷ rs) (rows_append arrived xs ys)

same_both : (dress : Dressing) (p : Packets) (rows : List Row) (left : List ℕ) → Leave dress p rows left → Leave dress p (rows ++ []) (left ++ [])
same_both dress p rows left l =
    let P : List Row → Type 0 = λ rs. Leave dress p rs (left ++ []) in
    let Q : List ℕ → Type 0 = λ xs. Leave dress p rows xs in
    subst P (sym (append-nil rows)) (subst Q (sym (append-nil left)) l)

-- what one event adds
event_leaves : (dress : Dressing) (p : Packets) (arrived : List Captured) (n : ℕ) (s : Event) (g : List LabelledEvent) (rows : List Row) (left : List ℕ) → HasFrames p arrived
    → EndsInTime s → MayHaveMarked p arrived n s g → Leave dress p rows left
    → Leave dress p (rows ++ rows_for arrived (decided n s)) (left ++ record_texts (departed_by dress arrived n s g))
event_leaves dress p arrived n (Offered a w v) g rows left h early may l = offered v.verdict
  where
    offered : (v : Verdict) → Leave dress p (rows ++ rows_for arrived (dropped_by v n)) (left ++ [])
    offered Keep = same_both dress p rows left l
    offered Mark = same_both dress p rows left l
    offered (Drop reason) = leave_more dress p rows (row_for arrived (n, fate.Dropped reason)) left [] l refl
event_leaves dress p arrived n (Sent s) g rows left h early may l =
    let r = row_for arrived (n, fate.Sent s.start s.end s.rule) in
    let piece = record_text (departure dress (arrival arrived n) (was_marked n g) s.end) in
    let its : IsRecordOf dress p r s.end piece = record {
      in_time = early;
      marked = was_marked n g;
      allowed = may;
      is = ap (λ (bytes : List ℕ). record_text (record { stamp = s.end; captured = dress (arrival arrived n).class (was_marked n g) bytes; original = (arrival arrived n).len }))
          (sym (frame_is p arrived n h));
    } in
    let P : List ℕ → Type 0 = λ xs. Leave dress p (rows ++ r ∷ []) (left ++ xs) in
    subst P (sym (append-nil piece)) (leave_more dress p rows r left piece l its)

leave_all : (dress : Dressing) (p : Packets) (arrived : List Captured) (g : List LabelledEvent) → HasFrames p arrived → IsInTime g → MarksAreAllowed p arrived g
    → Leave dress p (rows_for arrived (journal g)) (record_texts (departed dress arrived g))
leave_all dress p arrived [] h early may = refl
leave_all dress p arrived (e ∷ g) h early may =
    let P : List Row → Type 0 = λ rs. Leave dress p rs (record_texts (departed dress arrived (e ∷ g))) in
    let Q : List ℕ → Type 0 = λ xs. Leave dress p (rows_for arrived (journal g) ++ rows_for arrived (decided e.label e.what)) xs in
    subst P (sym (rows_append arrived (journal g) (decided e.label e.what)))
    (subst Q (sym (texts-append (departed dress arrived g) (departed_by dress arrived e.label e.what g)))
    (event_leaves dress p arrived e.label e.what g (rows_for arrived (journal g)) (record_texts (departed dress arrived g)) h early.0 may.0
    (leave_all dress p arrived g h early.1 may.1)))

pub departures_pass : (dress : Dressing) (p : Packets) (arrived : List Captured) (g : List LabelledEvent) → HasFrames p arrived → IsInTime g → MarksAreAllowed p arrived g
    → AreDepartures dress p (rows_for arrived (journal g)) (departures dress arrived g)
departures_pass dress p arrived g h early may = record {
  left = record_texts (departed dress arrived g);
  whole = refl;
  leave = leave_all dress p arrived g h early may;
}
