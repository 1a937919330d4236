-- A capture as it is written: the header, then for each record its header and the captured bytes.
use Rattle.std.specs.Prelude.{◌≤◌, ◌<◌, ◌*◌, ◌^◌, ℕ, max, List, [], ◌∷◌, ◌++◌, length, All}
use Rattle.capture_model.specs.Capture.{Record, longest, most_records, most_bytes}
use Rattle.capture_model.specs.Header.{capture_header, record_header}

abbrev pub record_text : Record → List ℕ
record_text r = record_header r.stamp (length r.captured) r.original ++ r.captured

abbrev pub record_texts : List Record → List ℕ
record_texts [] = []
record_texts (r ∷ rs) = record_text r ++ record_texts rs

abbrev pub written : List Record → List ℕ
written records = capture_header ++ record_texts records

-- the record is within the limits of the format: its stamp is below 2^32 seconds
pub record FitsCapture (r : Record) : Type 0 where
  pub stamp : r.stamp < 2 ^ 32 * 10 ^ 9
  pub captured : length r.captured ≤ longest
  pub original : r.original ≤ longest
  pub some : 0 < max r.original (length r.captured)

-- so are the records together
pub record AreWithin (records : List Record) : Type 0 where
  pub each : All FitsCapture records
  pub count : length records ≤ most_records
  pub size : length (written records) ≤ most_bytes
