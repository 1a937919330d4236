-- The sizes that the records of a capture may have.
use Rattle.std.specs.Prelude.{◌≤◌, ◌<◌, max, List, [], ◌∷◌, length}
use Rattle.capture_model.specs.Capture.{Record, longest, most_records, most_bytes}
use Rattle.capture_model.specs.Written.{written}

-- neither length is above the limit, and not both are 0
pub record HasSizes (r : Record) : Type 0 where
  pub captured : length r.captured ≤ longest
  pub original : r.original ≤ longest
  pub some : 0 < max r.original (length r.captured)

abbrev pub HaveSizes : List Record → Type 0
HaveSizes [] = Unit {0}
HaveSizes (r ∷ rs) = HasSizes r × HaveSizes rs

-- and so have all together
pub record AreSized (records : List Record) : Type 0 where
  pub each : HaveSizes records
  pub count : length records ≤ most_records
  pub size : length (written records) ≤ most_bytes
