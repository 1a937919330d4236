-- What becomes of the bytes of a capture from a place on: they are marked as they are read. Together they are the marked capture of
-- `traffic_marks`.
use Rattle.std.specs.Prelude.{ℕ, ◌+◌, ◌-◌, ◌≡◌, zero, suc, max, Option, Some, None, List, ◌++◌, take, drop}
use Rattle.capture_model.specs.Capture.{Form, Header, Formed, Unformed, header, most_records}
use Rattle.altq_model.specs.declared.Placed.{Placed}
use Rattle.pcap_files.specs.Forms.{form}
use Rattle.traffic_meter.specs.declared.rule.MeterRule.{MeterRule}
use Rattle.traffic_meter.specs.History.{Metered, Metering}
use Rattle.traffic_marks.specs.Marked.{Conditioning, marked}
use Rattle.marked_files.specs.Heads.{headed, whole}
use Rattle.marked_files.specs.Metering.{conditioners_from, frame_by, meter_of, meters_after, new_meters}
use Rattle.marked_files.specs.declared.record_head.RecordHead.{RecordHead}
use Rattle.marked_files.specs.declared.stage.Stage.{Stage}
use Rattle.marked_files.specs.declared.stage.Stage.TheVariants.{Start, Records, Rest}

-- how far the records have come: how many were passed, the place of the next, the greatest stamp so far, and the meters
pub record Course : Type 0 where
  pub count : ℕ
  pub at : ℕ
  pub latest : ℕ
  pub meters : List (Option Metering)

-- before the first record
abbrev pub begun : List (Option MeterRule) → Course
begun rules = record { count = 0; at = 24; latest = 0; meters = new_meters rules }

-- the frame of a record that begins these bytes
abbrev pub frame_in : RecordHead → List ℕ → List ℕ
frame_in head bytes = take head.captured (drop 16 bytes)

-- its packet as a meter sees it: it arrives at the greatest stamp up to its own
abbrev pub packet_of : Course → RecordHead → Metered
packet_of c head = record { moment = max c.latest head.stamp; len = max head.original head.captured }

-- the record with its frame marked
abbrev pub marked_record : (List ℕ → Placed) → Course → RecordHead → List ℕ → List ℕ
marked_record place c head bytes =
    let frame = frame_in head bytes in
    take 16 bytes ++ frame_by (meter_of c.meters (place frame).class) (packet_of c head) frame

-- the course behind it
abbrev pub passed : (List ℕ → Placed) → Course → RecordHead → List ℕ → Course
passed place c head bytes = record {
  count = c.count + 1;
  at = c.at + 16 + head.captured;
  latest = max c.latest head.stamp;
  meters = meters_after c.meters (place (frame_in head bytes)).class (packet_of c head);
}

-- what becomes of bytes that begin with a record, over at most as many records as are asked for
abbrev pub records_on : (turns : ℕ) → (List ℕ → Placed) → Form → Course → List ℕ → List ℕ
records_on zero place form c bytes = bytes
records_on (suc turns) place form c bytes =
    elim (whole (headed form c.count c.at bytes) bytes) [
      | None ↦ bytes
      | Some head ↦ marked_record place c head bytes ++ records_on turns place form (passed place c head bytes) (drop (16 + head.captured) bytes)
    ]

-- a capture has no more than the most records
abbrev pub records_from : (List ℕ → Placed) → Form → Course → List ℕ → List ℕ
records_from place form c bytes = records_on (most_records - c.count) place form c bytes

-- behind the head of a capture
abbrev pub behind_head : Header → (List ℕ → Placed) → Course → List ℕ → List ℕ
behind_head (Formed form) place c bytes = take 24 bytes ++ records_from place form c (drop 24 bytes)
behind_head (Unformed fault) place c bytes = bytes

-- what becomes of the bytes from a place on
abbrev pub made : Stage → (List ℕ → Placed) → Course → List ℕ → List ℕ
made Start place c bytes = behind_head (header bytes) place c bytes
made (Records head) place c bytes = records_from place (form head) c bytes
made Rest place c bytes = bytes

-- how the frames of an interface find their classes, and the rules of its classes by the number of the class
abbrev pub conditioning : (List ℕ → Placed) → List (Option MeterRule) → Conditioning
conditioning place rules = record { place = place; conditioners = conditioners_from 0 rules }

-- the bytes of a whole capture become the marked capture
abbrev pub MakesMarked : (List ℕ → Placed) → List (Option MeterRule) → List ℕ → Type 0
MakesMarked place rules bytes = made Start place (begun rules) bytes ≡ marked (conditioning place rules) bytes
