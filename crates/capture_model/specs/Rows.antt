-- Worked examples.
use Rattle.std.specs.Prelude.{ℕ, List, [], ◌∷◌, ◌++◌, replicate}
use Rattle.capture_model.specs.Capture.{Record}
use Rattle.capture_model.specs.Header.{capture_header}

-- a record of 60 zero bytes
abbrev pub plain : (stamp original : ℕ) → Record
plain stamp original = record { stamp = stamp; captured = replicate 60 0; original = original }

-- a record at 0 of length 100, of which 60 bytes are captured
abbrev pub record_at_zero : List ℕ
record_at_zero = replicate 8 0 ++ (60 ∷ 0 ∷ 0 ∷ 0 ∷ 100 ∷ 0 ∷ 0 ∷ 0 ∷ []) ++ replicate 60 0

abbrev pub two_records : List ℕ
two_records = capture_header ++ record_at_zero ++ record_at_zero
