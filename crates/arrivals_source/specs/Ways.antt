-- What files tell through a source of arrivals.
use Rattle.std.specs.Prelude.{ℕ, Bool, true, eqb, List, ◌∷◌}
use Rattle.std.specs.declared.option.Option.{Option}
use Rattle.altq_model.specs.declared.Placed.{Placed}
use Rattle.marked_files.specs.Markings.{given}
use Rattle.marked_files.specs.Taking.{holds}
use Rattle.marked_files.specs.Through.{with_marks}
use Rattle.pcapng_files.specs.declared.front.Front.{Front}
use Rattle.pcapng_files.specs.Fronts.{with_front}
use Rattle.play_base.specs.View.{View}
use Rattle.arrivals_source.specs.declared.way.Way.{Way}
use Rattle.arrivals_source.specs.declared.way.Way.TheVariants.{AsGiven, Converted, Marked, MarkedConverted}

-- what a file has left in a way, of what it has left itself: for that of the arrivals what comes of it, for another the same
abbrev pub with_way : {C : Type 0} → (own : Bool) → (C → List ℕ → Placed) → Front → Way C → (tells : Bool) → Option (List ℕ) → Option (List ℕ)
with_way own placed front AsGiven tells left = left
with_way own placed front Converted tells left = with_front own front.rest front.bytes.now left
with_way own placed front (Marked m) tells left = with_marks own tells (given placed m) left
with_way own placed front (MarkedConverted m) tells left = with_marks own tells (given placed m) (with_front own front.rest front.bytes.now left)

-- what the arrivals have left in a way
abbrev pub way_own : {C : Type 0} → (C → List ℕ → Placed) → Front → Way C → (tells : Bool) → Option (List ℕ) → Option (List ℕ)
way_own placed front way tells left = with_way true placed front way tells left

-- how many bytes of the file a marker holds
abbrev pub held_by : {C : Type 0} → Way C → ℕ
held_by (Marked m) = holds m
held_by (MarkedConverted m) = holds m
held_by other = 0

-- the number of a way, which no call changes
abbrev pub way_number : {C : Type 0} → Way C → ℕ
way_number AsGiven = 0
way_number Converted = 1
way_number (Marked m) = 2
way_number (MarkedConverted m) = 3

-- what the files tell, but for what this file has left
abbrev pub way_view : {C : Type 0} → (C → List ℕ → Placed) → View → (file : ℕ) → Front → Way C → View
way_view placed v file front way = record v { left = λ f. with_way (eqb f file) placed front way v.tells (v.left f) }

-- the same through a source, of which the reference to the files, the file and the way are fixed
abbrev pub source_view : {C : Type 0} → (C → List ℕ → Placed) → View → (reference file : ℕ) → Front → Way C → View
source_view placed v reference file front way = record v {
  left = λ f. with_way (eqb f file) placed front way v.tells (v.left f);
  fixed = reference ∷ file ∷ way_number way ∷ v.fixed;
}
