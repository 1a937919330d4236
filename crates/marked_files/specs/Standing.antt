-- How far a marker has come in a capture, and what is given of it: the head and the complete records, marked, and no byte behind them.
use Rattle.std.specs.Prelude.{◌≡◌, ◌≤◌, ◌<◌, ◌+◌, ◌++◌, ◌⊎◌, ℕ, List, length, take, drop, None, Some, Bool, true, nat_le}
use Rattle.altq_model.specs.declared.Placed.{Placed}
use Rattle.capture_model.specs.declared.damage.Damage.{Damage}
use Rattle.capture_model.specs.declared.damage.DamageKind.TheVariants.{ShortRecord}
use Rattle.capture_model.specs.Capture.{Form, Header, Formed, Unformed, Record, Step, Reads, Stand, damage, header, place_after}
use Rattle.capture_model.specs.Capture as steps
use Rattle.pcap_files.specs.Forms.{form}
use Rattle.pcap_files.specs.Stand.{stand_at}
use Rattle.pcap_files.specs.declared.stand.Stand.{Stand as Standing}
use Rattle.pcap_files.specs.declared.stand.Stand.TheVariants as stand
use Rattle.play_base.specs.View.{View, Took}
use Rattle.traffic_marks.specs.Marked.{Conditioning, marked}
use Rattle.marked_files.specs.Courses.{Course}
use Rattle.marked_files.specs.Heads.{headed}
use Rattle.marked_files.specs.Markings.{Marking, given}
use Rattle.marked_files.specs.Taking.{holds}
use Rattle.marked_files.specs.declared.behind.Behind.{Behind}
use Rattle.marked_files.specs.declared.behind.Behind.TheVariants as behind
use Rattle.marked_files.specs.declared.record_head.RecordHead.{RecordHead}
use Rattle.marked_files.specs.declared.stage.Stage.{Stage}
use Rattle.marked_files.specs.declared.stage.Stage.TheVariants.{Start, Records, Rest}

-- the length of a capture's head and of these complete records; none where the head fails a test
abbrev pub whole_end : Header → List Record → ℕ
whole_end (Formed form) records = place_after 24 records
whole_end (Unformed fault) records = 0

-- THESE BYTES ARE THE HEAD AND THE COMPLETE RECORDS OF A CAPTURE, MARKED; and behind the records the capture reads so
pub record AreWhole (c : Conditioning) (capture : List ℕ) (last : Step) (bytes : List ℕ) : Type 0 where
  pub records : List Record
  pub reads : Reads capture records last
  pub are : bytes ≡ take (whole_end (header capture) records) (marked c capture)

-- the first `n` bytes of a capture are its head and complete records, as many as a course says
pub record HasRecords (form : Form) (c : Course) (taken : List ℕ) (n : ℕ) : Type 0 where
  pub formed : header taken ≡ Formed form
  pub records : List Record
  pub stand : Stand form taken 0 24 records
  pub count : c.count ≡ length records
  pub at : c.at ≡ n
  pub place : n ≡ place_after 24 records

-- before the head, and behind it
abbrev pub StandsAt : Stage → Course → (taken : List ℕ) → (n : ℕ) → Type 0
StandsAt Start c taken n = (n ≡ 0) × (c.count ≡ 0) × (c.at ≡ 24)
StandsAt (Records head) c taken n = HasRecords (form head) c taken n
StandsAt Rest c taken n = ⊥

-- a marker has taken these first bytes of a capture, and of what becomes of them these were given: those that are ready follow them up
-- to the end of a record, and those that are pending stand behind it
pub record IsAtRecordEnd {C : Type 0} (placed : C → List ℕ → Placed) (c : Conditioning) (taken bytes : List ℕ) (m : Marking C) : Type 0 where
  pub many : length taken ≡ length bytes + holds m
  pub pending : m.held.pending ≡ drop (length bytes + length m.held.ready) taken
  pub by : StandsAt m.stage m.course taken (length bytes + length m.held.ready)
  pub same : (left : List ℕ) → bytes ++ given placed m left ≡ marked c (taken ++ left)

-- a number that grows with each byte of a capture that is taken
abbrev pub reach_at : Stage → Course → ℕ
reach_at Start c = c.at
reach_at (Records head) c = c.at + 24
reach_at Rest c = c.at + 24

abbrev pub reach : {C : Type 0} → Marking C → ℕ
reach m = reach_at m.stage m.course + length m.held.pending

-- whatever was taken and given, a marker stands for it still
pub record KeepsStanding {C : Type 0} (placed : C → List ℕ → Placed) (old new : Marking C) : Type 0 where
  pub stands : (c : Conditioning) (taken bytes : List ℕ) → IsAtRecordEnd placed c taken bytes old → IsAtRecordEnd placed c taken bytes new
  pub reach : reach new ≡ reach old

-- the bytes that are pending are fewer than a head or a record has
abbrev pub IsPart : Stage → Course → (pending : List ℕ) → Type 0
IsPart Start c pending = length pending < 24
IsPart (Records head) c pending = (length pending < 16)
    ⊎ ((r : RecordHead) × (headed (form head) c.count c.at pending ≡ Some r) × (length pending < 16 + r.captured))
IsPart Rest c pending = ⊥

-- and there is room for more of them
pub record Waits {C : Type 0} (m : Marking C) : Type 0 where
  pub part : IsPart m.stage m.course m.held.pending
  pub room : length m.held.pending < 262160

-- no head and no record begins there, whatever follows
abbrev pub IsNone : Stage → Course → (pending : List ℕ) → Type 0
IsNone Start c pending = (24 ≤ length pending) × ((found : Damage) × (header pending ≡ Unformed found))
IsNone (Records head) c pending = (16 ≤ length pending) × (headed (form head) c.count c.at pending ≡ None)
IsNone Rest c pending = Unit {0}

abbrev pub IsRefused : {C : Type 0} → Marking C → Type 0
IsRefused m = IsNone m.stage m.course m.held.pending

-- nothing changed but perhaps what stands next
pub record IsSameButStage {C : Type 0} (old new : Marking C) : Type 0 where
  pub course : new.course ≡ old.course
  pub held : new.held ≡ old.held
  pub classes : new.classes ≡ old.classes

-- a turn that made nothing ready: more bytes are needed, or none help
pub record IsHalted {C : Type 0} (old new : Marking C) : Type 0 where
  pub same : IsSameButStage old new
  pub why : Waits old ⊎ IsRefused old

-- what a head tells, and what stands at a record's place
abbrev pub head_tells : Header → Behind
head_tells (Formed form) = behind.More
head_tells (Unformed found) = behind.Damaged found

abbrev pub stand_tells : Standing → (at : ℕ) → Behind
stand_tells stand.End at = behind.End
stand_tells stand.Limit at = behind.Limit
stand_tells (stand.Damaged kind) at = behind.Damaged (damage at kind)
stand_tells (stand.Headed stamp captured original) at = behind.More

-- what the bytes that are pending tell
abbrev pub told_at : Stage → Course → (pending : List ℕ) → Behind
told_at Start c pending = head_tells (header pending)
told_at (Records head) c pending = stand_tells (stand_at (form head) c.count c.at pending) c.at
told_at Rest c pending = behind.End

abbrev pub told_of : {C : Type 0} → Marking C → Behind
told_of m = told_at m.stage m.course m.held.pending

-- as many bytes are pending as a head, or the header of a record, has
abbrev pub has_header_at : Stage → (pending : List ℕ) → Bool
has_header_at Start pending = nat_le 24 (length pending)
has_header_at (Records head) pending = nat_le 16 (length pending)
has_header_at Rest pending = true

abbrev pub has_header : {C : Type 0} → Marking C → Bool
has_header m = has_header_at m.stage m.held.pending

-- what is told once the file is at its end: a record that is not whole is short
abbrev pub told_last : Behind → (at : ℕ) → Behind
told_last behind.More at = behind.Damaged (damage at ShortRecord)
told_last other at = other

-- what stands behind the records that are ready: where nothing does, all of the capture was given; else what was given is whole
abbrev pub IsBehind : (c : Conditioning) → (capture bytes : List ℕ) → Behind → Type 0
IsBehind c capture bytes behind.More = Unit {0}
IsBehind c capture bytes behind.End = AreWhole c capture steps.End bytes × (bytes ≡ marked c capture)
IsBehind c capture bytes (behind.Damaged found) = AreWhole c capture (steps.Fault found) bytes
IsBehind c capture bytes behind.Limit = AreWhole c capture steps.Limit bytes

-- so it is of the capture whose first bytes a marker has taken, and of which these follow
abbrev pub Tells : {C : Type 0} → (C → List ℕ → Placed) → Marking C → (left : List ℕ) → Behind → Type 0
Tells placed m left told = (c : Conditioning) (taken bytes : List ℕ) → IsAtRecordEnd placed c taken bytes m
    → IsBehind c (taken ++ left) (bytes ++ m.held.ready) told

-- bytes were taken from the file alone, and the marker stands for them too
pub record HasTakenOn {C : Type 0} (placed : C → List ℕ → Placed) (v w : View) (file : ℕ) (old new : Marking C) : Type 0 where
  pub more : List ℕ
  pub took : Took v w file more
  pub stands : (c : Conditioning) (taken bytes : List ℕ) → IsAtRecordEnd placed c taken bytes old → IsAtRecordEnd placed c (taken ++ more) bytes new

-- what is told of what the file has left
abbrev pub TellsLeft : {C : Type 0} → (C → List ℕ → Placed) → View → (file : ℕ) → Marking C → Behind → Type 0
TellsLeft placed w file m told = (left : List ℕ) → w.left file ≡ Some left → Tells placed m left told
