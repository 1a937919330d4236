-- What a marker makes of a file whose bytes it takes.
use Rattle.std.specs.Prelude.{◌≡◌, ◌≤◌, ◌<◌, ◌+◌, ◌++◌, ◌⊎◌, ℕ, Bool, true, false, List, [], length, None, Some}
use Rattle.altq_model.specs.declared.Placed.{Placed}
use Rattle.pcap_files.specs.Forms.{form}
use Rattle.play_base.specs.View.{View, IsAtEnd, Took}
use Rattle.marked_files.specs.Courses.{Course}
use Rattle.marked_files.specs.Heads.{headed, whole}
use Rattle.marked_files.specs.Markings.{Marking, given}
use Rattle.marked_files.specs.declared.stage.Stage.{Stage}
use Rattle.marked_files.specs.declared.stage.Stage.TheVariants.{Start, Records, Rest}

-- whatever a file has left, the same is given of it, and no byte is lost
pub record KeepsGiven {C : Type 0} (placed : C → List ℕ → Placed) (old new : Marking C) : Type 0 where
  pub same : (left : List ℕ) → given placed new left ≡ given placed old left
  pub classes : new.classes ≡ old.classes
  pub many : length new.held.ready + length new.held.pending ≡ length old.held.ready + length old.held.pending

-- neither the head nor a record stands whole at the front of these bytes
abbrev pub HoldsNone : Stage → Course → List ℕ → Type 0
HoldsNone Start c bytes = length bytes < 24
HoldsNone (Records head) c bytes = whole (headed (form head) c.count c.at bytes) bytes ≡ None
HoldsNone Rest c bytes = bytes ≡ []

-- no more can be made ready until bytes are taken, and there is room for them
pub record IsStuck {C : Type 0} (m : Marking C) : Type 0 where
  pub none : HoldsNone m.stage m.course m.held.pending
  pub room : length m.held.pending < 262160

-- the head or a record was made ready, or none stands whole
pub record HasPassed {C : Type 0} (placed : C → List ℕ → Placed) (passed : Bool) (old new : Marking C) : Type 0 where
  pub keeps : KeepsGiven placed old new
  pub fewer : passed ≡ true → length new.held.pending < length old.held.pending
  pub stuck : passed ≡ false → IsStuck new ⊎ (new.stage ≡ Rest)

-- all that stands whole was made ready
pub record HasAdvanced {C : Type 0} (placed : C → List ℕ → Placed) (old new : Marking C) : Type 0 where
  pub keeps : KeepsGiven placed old new
  pub stuck : IsStuck new

-- how many bytes a marker holds
abbrev pub holds : {C : Type 0} → Marking C → ℕ
holds m = length m.held.ready + length m.held.pending

-- what is given of the file's bytes stays
abbrev pub GivesTheSame : {C : Type 0} → (C → List ℕ → Placed) → (v w : View) → (file : ℕ) → (old new : Marking C) → Type 0
GivesTheSame placed v w file old new =
    (left : List ℕ) → v.left file ≡ Some left → (rest : List ℕ) × (w.left file ≡ Some rest) × (given placed new rest ≡ given placed old left)

-- Bytes were taken from the file alone, and each of them is held; what is given of the file's bytes stays.
pub record HasTaken {C : Type 0} (placed : C → List ℕ → Placed) (v w : View) (file : ℕ) (old new : Marking C) : Type 0 where
  pub bytes : List ℕ
  pub took : Took v w file bytes
  pub held : holds new ≡ holds old + length bytes
  pub same : GivesTheSame placed v w file old new
  pub classes : new.classes ≡ old.classes

-- a byte is ready, or the file is at its end and nothing is held
abbrev pub HasReady : {C : Type 0} → (w : View) → (file : ℕ) → Marking C → Type 0
HasReady w file m = (0 < length m.held.ready) ⊎ (IsAtEnd w file × (m.held.pending ≡ []))

-- all that can be given was: what is held is of a head or a record that does not stand whole
pub record HasGivenAll {C : Type 0} (m : Marking C) : Type 0 where
  pub ready : m.held.ready ≡ []
  pub none : HoldsNone m.stage m.course m.held.pending

-- These bytes were given from the front of what is given of the file's bytes. Those that were taken from the file, and from it alone,
-- were given or are held, and those held have room.
pub record HasRead {C : Type 0} (placed : C → List ℕ → Placed) (v w : View) (file : ℕ) (bytes : List ℕ) (old new : Marking C) : Type 0 where
  pub taken : List ℕ
  pub took : Took v w file taken
  pub held : holds new + length bytes ≡ holds old + length taken
  pub room : holds new ≤ 262160
  pub gave : (left : List ℕ) → v.left file ≡ Some left → (rest : List ℕ) × (w.left file ≡ Some rest) × (given placed old left ≡ bytes ++ given placed new rest)
  pub classes : new.classes ≡ old.classes
