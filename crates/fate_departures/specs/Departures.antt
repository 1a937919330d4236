-- The departures that rows of fates leave: the header of a capture, and then the record of each sending, in the order of the rows.
use Rattle.std.specs.Prelude.{◌≡◌, ◌<◌, ◌+◌, ◌⊎◌, ℕ, Bool, true, List, [], ◌∷◌, ◌++◌, length}
use Rattle.capture_model.specs.Capture.{Record}
use Rattle.capture_model.specs.Header.{capture_header}
use Rattle.capture_model.specs.Written.{record_text}
use Rattle.altq_model.specs.declared.Fate.{Fate}
use Rattle.altq_model.specs.declared.Fate.TheVariants.{Dropped, Sent}
use Rattle.altq_model.specs.Departures.{Dressing}
use Rattle.altq_model.specs.Laws.{clock_end}
use Rattle.fate_check.specs.declared.reading.Row.{Row}
use Rattle.fate_departures.specs.Frames.{Packets, frame_of, is_markable}

-- the record of a row that is a sending with this end, marked or not
abbrev pub leaving : Dressing → Packets → Row → (end : ℕ) → (marked : Bool) → Record
leaving dress p r end marked = record { stamp = end; captured = dress r.class marked (frame_of p r.number); original = r.len }

-- bytes are that record; a capture can stamp it, and it is marked only where the packet may have been
pub record IsRecordOf (dress : Dressing) (p : Packets) (r : Row) (end : ℕ) (bytes : List ℕ) : Type 0 where
  pub in_time : end < clock_end
  pub marked : Bool
  pub allowed : marked ≡ true → is_markable p r.number r.class ≡ true
  pub is : bytes ≡ record_text (leaving dress p r end marked)

-- what a row leaves: a sending its record, a drop nothing
abbrev pub LeavesBy : Dressing → Packets → Row → Fate → List ℕ → Type 0
LeavesBy dress p r (Dropped reason) bytes = bytes ≡ []
LeavesBy dress p r (Sent start end rule) bytes = IsRecordOf dress p r end bytes

abbrev pub Leaves : Dressing → Packets → Row → List ℕ → Type 0
Leaves dress p r bytes = LeavesBy dress p r r.fate bytes

-- what rows leave, in their order
abbrev pub Leave : Dressing → Packets → List Row → List ℕ → Type 0
Leave dress p [] bytes = bytes ≡ []
Leave dress p (r ∷ rows) bytes =
    (piece : List ℕ) × (rest : List ℕ) × (bytes ≡ piece ++ rest) × Leaves dress p r piece × Leave dress p rows rest

-- departures are the header and what the rows leave
pub record AreDepartures (dress : Dressing) (p : Packets) (rows : List Row) (departures : List ℕ) : Type 0 where
  pub left : List ℕ
  pub whole : departures ≡ capture_header ++ left
  pub leave : Leave dress p rows left

-- the header does not stand at the front
abbrev pub HasNoHeader : (departures : List ℕ) → Type 0
HasNoHeader departures = (rest : List ℕ) → departures ≡ capture_header ++ rest → ⊥

-- nothing that a row leaves stands at the front
abbrev pub LeavesNoFront : Dressing → Packets → Row → (rest : List ℕ) → Type 0
LeavesNoFront dress p r rest = (piece more : List ℕ) → rest ≡ piece ++ more → Leaves dress p r piece → ⊥

-- behind what the rows before it leave there is nothing that this row leaves
pub record StopsAt (dress : Dressing) (p : Packets) (rows : List Row) (departures : List ℕ) (row : ℕ) : Type 0 where
  pub before : List Row
  pub at : Row
  pub behind : List Row
  pub parts : rows ≡ before ++ at ∷ behind
  pub place : row ≡ length before + 1
  pub left : List ℕ
  pub rest : List ℕ
  pub whole : departures ≡ capture_header ++ (left ++ rest)
  pub passed : Leave dress p before left
  pub fails : LeavesNoFront dress p at rest

-- behind what all rows leave the departures go on
pub record GoesOn (dress : Dressing) (p : Packets) (rows : List Row) (departures : List ℕ) (row : ℕ) : Type 0 where
  pub left : List ℕ
  pub rest : List ℕ
  pub whole : departures ≡ capture_header ++ (left ++ rest)
  pub passed : Leave dress p rows left
  pub some : 0 < length rest
  pub place : row ≡ length rows + 1

-- the first row whose record does not stand in its place: 0 where the header does not, and the one behind the last where the
-- departures go on
abbrev pub DepartOtherwise : Dressing → Packets → List Row → (departures : List ℕ) → (row : ℕ) → Type 0
DepartOtherwise dress p rows departures row =
    ((row ≡ 0) × HasNoHeader departures) ⊎ (StopsAt dress p rows departures row ⊎ GoesOn dress p rows departures row)

-- what stands behind what a row leaves
pub record LeavesFront (dress : Dressing) (p : Packets) (r : Row) (rest more : List ℕ) : Type 0 where
  pub piece : List ℕ
  pub leaves : Leaves dress p r piece
  pub whole : rest ≡ piece ++ more
