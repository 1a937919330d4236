-- What becomes of a capture that a marker writes from one file to another.
use Rattle.std.specs.Prelude.{◌≡◌, ◌≢◌, ◌≤◌, ◌+◌, ◌++◌, ℕ, Bool, true, false, List, [], length, Option, Some, Ok, Err, IsTrue, if◌then◌else◌, ⊤}
use Rattle.std.specs.declared.result.Result.{Result}
use Rattle.capture_model.specs.Capture.{IsLast, Step}
use Rattle.frame_classes.specs.Frames.{Classes, placed_by}
use Rattle.marked_files.specs.Markings.{Marking}
use Rattle.marked_files.specs.Standing.{AreWhole, IsBehind, IsAtRecordEnd}
use Rattle.marked_files.specs.declared.behind.Behind.TheVariants as behind
use Rattle.pcapng_files.specs.Fronts.{with_front}
use Rattle.play_base.specs.declared.trouble.Trouble.{Trouble}
use Rattle.play_base.specs.declared.trouble.Trouble.TheVariants as trouble
use Rattle.play_base.specs.View.{View, Keeps, NoneAppears, NotNamed, OtherThan}
use Rattle.traffic_marks.specs.Marked.{Conditioning, marked}
use Rattle.run_outcomes.specs.declared.outcome.CaptureStop.TheVariants as capture
use Rattle.run_outcomes.specs.declared.outcome.Failure.{Failure}
use Rattle.run_outcomes.specs.declared.outcome.Failure.TheVariants as failure
use Rattle.run_outcomes.specs.declared.outcome.Link.TheVariants as link
use Rattle.file_plans.specs.declared.part.Part.TheVariants as part
use Rattle.arrivals_source.specs.declared.way.Way.{Way}
use Rattle.arrivals_source.specs.declared.way.Way.TheVariants.{AsGiven, Converted}
use Rattle.condition_command.specs.declared.marking.Unmarked.{Unmarked}
use Rattle.condition_command.specs.declared.marking.Unmarked.TheVariants as unmarked

-- every name keeps its bytes but that of the marked file, and every other file what it has left, but that which is marked
abbrev pub KeepsOthers : View → View → (from to : ℕ) → Type 0
KeepsOthers old new from to = Keeps (OtherThan old (old.name to)) (λ f. (f ≢ from) × NotNamed old (old.name to) f) old new

-- what was written of a capture, of which these bytes were taken, when this came of it: all that becomes of it, its head and complete
-- records as far as it can be read, or as far as it was taken
abbrev pub CameOf : (c : Conditioning) → (capture taken written : List ℕ) → Result ⊤ Unmarked → Type 0
CameOf c capture taken written (Ok done) = IsBehind c capture written behind.End
CameOf c capture taken written (Err (unmarked.Damaged found)) = IsBehind c capture written (behind.Damaged found)
CameOf c capture taken written (Err unmarked.Limit) = IsBehind c capture written behind.Limit
CameOf c capture taken written (Err unmarked.Read) = (last : Step) × IsLast last × AreWhole c taken last written
CameOf c capture taken written (Err unmarked.Write) = Unit {0}
CameOf c capture taken written (Err unmarked.NoMemory) = Unit {0}

-- a capture was written so behind what a name held: these bytes of what becomes of it, in order; at most 262,160 bytes more were taken of it
pub record HasMarked (was now : Option (List ℕ)) (c : Conditioning) (capture : List ℕ) (r : Result ⊤ Unmarked) : Type 0 where
  pub written : List ℕ
  pub grown : (before : List ℕ) → was ≡ Some before → now ≡ Some (before ++ written)
  pub front : (tail : List ℕ) × (marked c capture ≡ written ++ tail)
  pub taken : List ℕ
  pub left : List ℕ
  pub split : capture ≡ taken ++ left
  pub few : length taken ≤ length written + 262160
  pub came : CameOf c capture taken written r

-- so under the name of one file, and another has left what was not taken, where the capture ends with what it had
abbrev pub AreMarked : View → View → (from to : ℕ) → (rest : Bool) → (c : Conditioning) → (capture : List ℕ) → Result ⊤ Unmarked → Type 0
AreMarked old new from to rest c capture r =
    (h : HasMarked (old.bytes (old.name to)) (new.bytes (old.name to)) c capture r) × (rest ≡ true → new.left from ≡ Some h.left)

-- so of the bytes that a marker has taken, and of those that the file has left
abbrev pub MarksLeft : View → View → (from to : ℕ) → Marking Classes → Result ⊤ Unmarked → Type 0
MarksLeft old new from to m r = IsTrue old.tells → (c : Conditioning) (first : List ℕ) → IsAtRecordEnd placed_by c first [] m
    → (left : List ℕ) → old.left from ≡ Some left → AreMarked old new from to true c (first ++ left) r

-- so of a front and, where that follows, of what the file has left
abbrev pub Marks : View → View → (from to : ℕ) → (rest : Bool) → (front : List ℕ) → Marking Classes → Result ⊤ Unmarked → Type 0
Marks old new from to rest front m r = IsTrue old.tells → (c : Conditioning) → IsAtRecordEnd placed_by c (if rest then front else []) [] m
    → (capture : List ℕ) → with_front true rest front (old.left from) ≡ Some capture → AreMarked old new from to rest c capture r

-- nothing but the two files changes
pub record Stays (old new : View) (from to : ℕ) : Type 0 where
  pub keeps : KeepsOthers old new from to
  pub none : NoneAppears old new
  pub said : new.said ≡ old.said

-- what it ends the command as
abbrev pub unmarked_failure : Unmarked → Failure
unmarked_failure (unmarked.Damaged found) = failure.Capture link.Sole (capture.Damage found)
unmarked_failure unmarked.Limit = failure.Capture link.Sole capture.TooLong
unmarked_failure unmarked.Read = failure.Read part.Arrivals
unmarked_failure unmarked.Write = failure.Write part.Marked
unmarked_failure unmarked.NoMemory = failure.NoMemory

-- what trouble with a read, and with a write, means; no read fails of a capture that is in memory
abbrev pub read_trouble : (streamed : Bool) → Trouble → Unmarked
read_trouble true trouble.Failed = unmarked.Read
read_trouble streamed other = unmarked.NoMemory

abbrev pub write_trouble : Trouble → Unmarked
write_trouble trouble.Failed = unmarked.Write
write_trouble trouble.NoMemory = unmarked.NoMemory

-- the arrivals are read as they are given, or of memory
abbrev pub way_by : (rest : Bool) → Way Classes
way_by true = AsGiven
way_by false = Converted
