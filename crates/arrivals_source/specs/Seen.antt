-- What files tell of which one has other bytes left to read; nothing else of them is changed, not even what is fixed.
use Rattle.std.specs.Prelude.{ℕ, List, eqb}
use Rattle.altq_model.specs.declared.Placed.{Placed}
use Rattle.marked_files.specs.Markings.{Marking, given}
use Rattle.marked_files.specs.Through.{with_marks}
use Rattle.pcapng_files.specs.declared.front.Front.{Front}
use Rattle.pcapng_files.specs.Fronts.{with_front}
use Rattle.play_base.specs.View.{View}

-- bytes stand in front of those of the file, or in their place
abbrev pub front_seen : View → (file : ℕ) → Front → View
front_seen v file front = record v { left = λ f. with_front (eqb f file) front.rest front.bytes.now (v.left f) }

-- a marker makes others of those of the file
abbrev pub marks_seen : {C : Type 0} → (C → List ℕ → Placed) → View → (file : ℕ) → Marking C → View
marks_seen placed v file m = record v { left = λ f. with_marks (eqb f file) v.tells (given placed m) (v.left f) }

-- a marker makes others of the bytes in front
abbrev pub both_seen : {C : Type 0} → (C → List ℕ → Placed) → View → (file : ℕ) → Front → Marking C → View
both_seen placed v file front m = marks_seen placed (front_seen v file front) file m
