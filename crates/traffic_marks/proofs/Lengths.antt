-- Marked frames are as long as those that came, and so is the capture.
use Rattle.std.proofs.Common.{◌≡◌, ◌≤◌, ◌+◌, ◌∙◌, ap, ℕ, List, [], ◌∷◌, ◌++◌, length, take, drop, Bool, true, false, refl, arith, sym, subst, length-append, length-take, length-drop}
use Rattle.std.specs.Prelude.{if◌then◌else◌, Option, Some, None, ◌==◌}
use Rattle.std.proofs.lemmas.List.{drop-drop}
use Rattle.capture_model.specs.Capture.{Record, Form, Step, Next, Header, Formed, Unformed, Stand, ReadsFrom, header, outcome, step}
use Rattle.capture_model.proofs.OutcomeLemmas.{reads_outcome, next_place}
use Rattle.altq_model.specs.declared.Placed.{Placed}
use Rattle.altq_model.specs.Arrivals.{Captured, arrivals_from}
use Rattle.packet_heads.specs.Flow.{Flow, V4, V6, Other, flow, packet_place, two_at}
use Rattle.packet_heads.specs.Retagged.{checksum_after, first_word_4, first_word_6, retagged, retagged_as, retagged_4, retagged_6, with_two}
use Rattle.packet_heads.proofs.Words.{length-with_two}
use Rattle.traffic_marks.proofs.Steps.{seen, is_next}
use Rattle.traffic_meter.specs.declared.rule.MeterRule.{MeterRule}
use Rattle.traffic_marks.specs.Marked.{Conditioner, Conditioning, frames, marked, marked_frame, marked_frames, with_frames}

either : (b : Bool) (x y : List ℕ) → length y ≡ length x → length (if b then x else y) ≡ length x
either true x y e = refl
either false x y e = e

long_4 : (frame : List ℕ) (place tos : ℕ) → length (retagged_4 frame place tos) ≡ length frame
long_4 frame place tos =
    let word = two_at frame place in
    let changed = first_word_4 word tos in
    let sum = checksum_after (two_at frame (place + 10)) word changed in
    length-with_two (with_two frame place changed) (place + 10) sum ∙ length-with_two frame place changed

by_flow : (f : Flow) (frame : List ℕ) (tos : ℕ) → length (retagged_as f frame tos) ≡ length frame
by_flow (V4 heads) frame tos =
    either (heads.tos == tos) frame (retagged_4 frame (packet_place frame) tos) (long_4 frame (packet_place frame) tos)
by_flow (V6 heads) frame tos =
    either (heads.tos == tos) frame (retagged_6 frame (packet_place frame) tos)
    (length-with_two frame (packet_place frame) (first_word_6 (two_at frame (packet_place frame)) tos))
by_flow Other frame tos = refl

pub length-retagged : (frame : List ℕ) (tos : ℕ) → length (retagged frame tos) ≡ length frame
length-retagged frame tos = by_flow (flow frame) frame tos

pub length-marked_frame : (rule : Option MeterRule) (earlier : List Captured) (a : Captured) → length (marked_frame rule earlier a) ≡ length a.bytes
length-marked_frame None earlier a = refl
length-marked_frame (Some rule) earlier a = length-retagged a.bytes _

-- each record has a frame of its own frame's length
abbrev pub SameLengths : List Record → List (List ℕ) → Type 0
SameLengths [] [] = Unit {0}
SameLengths [] (f ∷ fs) = ⊥
SameLengths (r ∷ rs) [] = ⊥
SameLengths (r ∷ rs) (f ∷ fs) = (length f ≡ length r.captured) × SameLengths rs fs

pub same_lengths : (place : List ℕ → Placed) (cs : List Conditioner) (rs : List Record) (latest : ℕ) (earlier : List Captured)
    → SameLengths rs (marked_frames cs earlier (arrivals_from place latest rs))
same_lengths place cs [] latest earlier = tt
same_lengths place cs (r ∷ rs) latest earlier = (length-marked_frame _ earlier _, same_lengths place cs rs _ _)

-- the records stand one behind the other in these bytes
abbrev pub RecordsHeld : List Record → List ℕ → Type 0
RecordsHeld [] bytes = Unit {0}
RecordsHeld (r ∷ rs) bytes =
    (r.captured ≡ take (length r.captured) (drop 16 bytes)) × (16 + length r.captured ≤ length bytes)
    × RecordsHeld rs (drop (16 + length r.captured) bytes)

captured_is : (form : Form) (bytes : List ℕ) (count at : ℕ) (x : Record) (n : ℕ) → step form bytes count at ≡ Next x n
    → (x.captured ≡ take (length x.captured) (drop (at + 16) bytes)) × (at + 16 + length x.captured ≤ length bytes)
captured_is form bytes count at x n h =
    let s = seen form bytes at in
    let place = next_place form bytes count at x n h in
    let is = is_next form count at s (drop (at + 16) bytes) x n h in
    let long : s.captured ≡ length x.captured = omega arith in
    (is.0 ∙ ap (λ (k : ℕ). take k (drop (at + 16) bytes)) long, omega arith)

pub stand_held : (form : Form) (bytes : List ℕ) (rs : List Record) (count at : ℕ) → Stand form bytes count at rs → RecordsHeld rs (drop at bytes)
stand_held form bytes [] count at h = tt
stand_held form bytes (r ∷ rs) count at h =
    let is = captured_is form bytes count at r (at + 16 + length r.captured) h.0 in
    let here : drop 16 (drop at bytes) ≡ drop (at + 16) bytes = drop-drop 16 at bytes in
    let behind : drop (16 + length r.captured) (drop at bytes) ≡ drop (at + 16 + length r.captured) bytes =
    drop-drop (16 + length r.captured) at bytes ∙ ap (λ (k : ℕ). drop k bytes) (omega arith) in (
      is.0 ∙ ap (take (length r.captured)) (sym here),
      omega (arith, is.1, length-drop at bytes),
      subst (RecordsHeld rs) (sym behind) (stand_held form bytes rs (count + 1) (at + 16 + length r.captured) h.1),
    )

held_from : (h : Header) (bytes : List ℕ) (rs : List Record) (last : Step) → ReadsFrom h bytes rs last → RecordsHeld rs (drop 24 bytes)
held_from (Formed form) bytes rs last r = stand_held form bytes rs 0 24 r.stand
held_from (Unformed d) bytes rs last r = subst (λ (l : List Record). RecordsHeld l (drop 24 bytes)) (sym r.0) tt

pub held : (bytes : List ℕ) → RecordsHeld (outcome bytes).records (drop 24 bytes)
held bytes = held_from (header bytes) bytes (outcome bytes).records (outcome bytes).last (reads_outcome bytes)

pub length-with_frames : (rs : List Record) (fs : List (List ℕ)) (bytes : List ℕ) → SameLengths rs fs → RecordsHeld rs bytes
    → length (with_frames fs bytes) ≡ length bytes
length-with_frames [] [] bytes s h = refl
length-with_frames [] (f ∷ fs) bytes s h = absurd s
length-with_frames (r ∷ rs) [] bytes s h = absurd s
length-with_frames (r ∷ rs) (f ∷ fs) bytes s h =
    let behind : drop (16 + length r.captured) bytes ≡ drop (16 + length f) bytes = ap (λ (k : ℕ). drop (16 + k) bytes) (sym s.0) in
    let rest = length-with_frames rs fs (drop (16 + length f) bytes) s.1 (subst (RecordsHeld rs) behind h.2) in
    omega (
      arith,
      s.0,
      h.1,
      rest,
      length-append (take 16 bytes) (f ++ with_frames fs (drop (16 + length f) bytes)),
      length-append f (with_frames fs (drop (16 + length f) bytes)),
      length-take 16 bytes,
      length-drop (16 + length f) bytes,
    )

pub length-marked : (c : Conditioning) (bytes : List ℕ) → length (marked c bytes) ≡ length bytes
length-marked c bytes =
    let rs = (outcome bytes).records in
    let fs = frames c rs in
    omega (
      arith,
      length-append (take 24 bytes) (with_frames fs (drop 24 bytes)),
      length-take 24 bytes,
      length-drop 24 bytes,
      length-with_frames rs fs (drop 24 bytes) (same_lengths c.place c.conditioners rs 0 []) (held bytes),
    )
