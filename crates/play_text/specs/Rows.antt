-- Worked examples of one queue of 50 packets.
use Rattle.std.specs.Prelude.{ℕ, List, ◌∷◌, ◌++◌, [], codes}
use Rattle.capture_model.specs.Capture.{Record}
use Rattle.altq_model.specs.Arrivals.{arrivals_of}
use Rattle.altq_model.specs.Rows.{one_mark, journal_of}
use Rattle.play_text.specs.Texts.{fate_rows}

abbrev pub default_name : ℕ → List ℕ
default_name class = codes "default"

-- the rows of the fates of these records, without their header
abbrev pub rows_of : (rate : ℕ) → List Record → List ℕ
rows_of rate records = fate_rows default_name (arrivals_of one_mark records) (journal_of rate records)

-- a row of the fates
abbrev pub line : List ℕ → List ℕ
line text = text ++ 10 ∷ []
