-- What becomes of bytes is as long as they are.
use Rattle.std.proofs.Common.{◌≡◌, ◌≤◌, ◌+◌, ℕ, zero, suc, List, ◌++◌, length, take, drop, Bool, true, false, refl, arith, length-append, length-take, length-drop}
use Rattle.std.specs.Prelude.{◌-◌, if◌then◌else◌, nat_lt, Option, Some, None}
use Rattle.std.proofs.lemmas.Bool.{ltb-false}
use Rattle.altq_model.specs.declared.Placed.{Placed}
use Rattle.capture_model.specs.Capture.{Form, Header, Formed, Unformed, header, most_records}
use Rattle.pcap_files.specs.Forms.{form}
use Rattle.traffic_marks.proofs.Lengths.{length-retagged}
use Rattle.traffic_meter.specs.History.{Metered, Metering}
use Rattle.marked_files.specs.Courses.{Course, behind_head, frame_in, made, marked_record, packet_of, passed, records_from, records_on}
use Rattle.marked_files.specs.Heads.{headed, whole}
use Rattle.marked_files.specs.Markings.{Marking, given}
use Rattle.marked_files.specs.Metering.{frame_by, meter_of}
use Rattle.marked_files.specs.Taking.{holds}
use Rattle.marked_files.specs.declared.record_head.RecordHead.{RecordHead}
use Rattle.marked_files.specs.declared.stage.Stage.{Stage}
use Rattle.marked_files.specs.declared.stage.Stage.TheVariants.{Start, Records, Rest}

length-frame_by : (m : Option Metering) (a : Metered) (frame : List ℕ) → length (frame_by m a frame) ≡ length frame
length-frame_by None a frame = refl
length-frame_by (Some m) a frame = length-retagged frame _

whole_long : (o : Option RecordHead) (head : RecordHead) (bytes : List ℕ) → whole o bytes ≡ Some head → 16 + head.captured ≤ length bytes
whole_long None head bytes e = absurd (cc)
whole_long (Some h) head bytes e = by (nat_lt (length bytes) (16 + h.captured)) refl e
  where
    by : (b : Bool) → nat_lt (length bytes) (16 + h.captured) ≡ b → (if b then None else Some h) ≡ Some head → 16 + head.captured ≤ length bytes
    by true t e = absurd (cc)
    by false t e =
        let l = ltb-false (length bytes) (16 + h.captured) t in
        let same : h.captured ≡ head.captured = cc in
        omega (arith, l, same)

length-record : (place : List ℕ → Placed) (c : Course) (head : RecordHead) (bytes : List ℕ) → 16 + head.captured ≤ length bytes
    → length (marked_record place c head bytes) ≡ 16 + head.captured
length-record place c head bytes l =
    let frame = frame_in head bytes in
    omega (
      arith,
      l,
      length-append (take 16 bytes) (frame_by (meter_of c.meters (place frame).class) (packet_of c head) frame),
      length-frame_by (meter_of c.meters (place frame).class) (packet_of c head) frame,
      length-take 16 bytes,
      length-take head.captured (drop 16 bytes),
      length-drop 16 bytes,
    )

-- what becomes of a record that may stand whole, and of what is behind it
on_record : (place : List ℕ → Placed) (on : Course → List ℕ → List ℕ) (c : Course) (bytes : List ℕ) (of o : Option RecordHead) → whole of bytes ≡ o
    → ((d : Course) (ys : List ℕ) → length (on d ys) ≡ length ys)
    → length {A = ℕ} (elim o [
      | None ↦ bytes
      | Some head ↦ marked_record place c head bytes ++ on (passed place c head bytes) (drop (16 + head.captured) bytes)
    ]) ≡ length bytes
on_record place on c bytes of None e h = refl
on_record place on c bytes of (Some head) e h =
    let l = whole_long of head bytes e in
    let rest = drop (16 + head.captured) bytes in
    omega (
      arith,
      l,
      length-append (marked_record place c head bytes) (on (passed place c head bytes) rest),
      length-record place c head bytes l,
      h (passed place c head bytes) rest,
      length-drop (16 + head.captured) bytes,
    )

length-records_on : (turns : ℕ) (place : List ℕ → Placed) (form : Form) (c : Course) (bytes : List ℕ) → length (records_on turns place form c bytes) ≡ length bytes
length-records_on zero place form c bytes = refl
length-records_on (suc turns) place form c bytes =
    on_record place (records_on turns place form) c bytes (headed form c.count c.at bytes) (whole (headed form c.count c.at bytes) bytes) refl
    (λ d ys. length-records_on turns place form d ys)

length-behind : (h : Header) (place : List ℕ → Placed) (c : Course) (bytes : List ℕ) → length (behind_head h place c bytes) ≡ length bytes
length-behind (Formed form) place c bytes =
    omega (
      arith,
      length-append (take 24 bytes) (records_from place form c (drop 24 bytes)),
      length-records_on (most_records - c.count) place form c (drop 24 bytes),
      length-take 24 bytes,
      length-drop 24 bytes,
    )
length-behind (Unformed fault) place c bytes = refl

pub length-made : (s : Stage) (place : List ℕ → Placed) (c : Course) (bytes : List ℕ) → length (made s place c bytes) ≡ length bytes
length-made Start place c bytes = length-behind (header bytes) place c bytes
length-made (Records head) place c bytes = length-records_on (most_records - c.count) place (form head) c bytes
length-made Rest place c bytes = refl

-- what is given of a file is as long as what the marker holds and what the file has left
pub length-given : {C : Type 0} (placed : C → List ℕ → Placed) (m : Marking C) (left : List ℕ) → length (given placed m left) ≡ holds m + length left
length-given placed m left =
    omega (
      arith,
      length-append m.held.ready (made m.stage (placed m.classes) m.course (m.held.pending ++ left)),
      length-made m.stage (placed m.classes) m.course (m.held.pending ++ left),
      length-append m.held.pending left,
    )
