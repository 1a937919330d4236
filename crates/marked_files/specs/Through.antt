-- What files tell through a wrapper that marks one of them.
use Rattle.std.specs.Prelude.{◌≡◌, ℕ, Bool, true, false, IsTrue, eqb, List, ◌∷◌, Option, option_map, None, Some}
use Rattle.altq_model.specs.declared.Placed.{Placed}
use Rattle.play_base.specs.View.{View, IsAtEnd, Took}
use Rattle.traffic_marks.specs.Marked.{marked}
use Rattle.traffic_meter.specs.declared.rule.MeterRule.{MeterRule}
use Rattle.marked_files.specs.Courses.{begun, conditioning, made}
use Rattle.marked_files.specs.declared.stage.Stage.TheVariants.{Start}

-- What a file has left: where it is the marked one, what becomes of that, and nothing is told of it where the files behind tell
-- nothing.
abbrev pub with_marks : (own tells : Bool) → (List ℕ → List ℕ) → Option (List ℕ) → Option (List ℕ)
with_marks true true become left = option_map become left
with_marks true false become left = None
with_marks false tells become left = left

-- What the files tell, but for what this file has left. This reference, this file and the reference to the marker are fixed.
abbrev pub marked_view : View → (reference file marker : ℕ) → (become : List ℕ → List ℕ) → View
marked_view v reference file marker become = record {
  tells = v.tells;
  bytes = v.bytes;
  said = v.said;
  part = v.part;
  name = v.name;
  left = λ f. with_marks (eqb f file) v.tells become (v.left f);
  read_faults = v.read_faults;
  write_faults = v.write_faults;
  fixed = reference ∷ file ∷ marker ∷ v.fixed;
}

-- Where files that tell have a whole capture left, what was read of the marked file up to its end is the marked capture.
abbrev pub ReadsMarked : (v w : View) → (reference file marker : ℕ) → (List ℕ → Placed) → List (Option MeterRule) → (capture bytes : List ℕ) → Type 0
ReadsMarked v w reference file marker place rules capture bytes =
    IsTrue v.tells → v.left file ≡ Some capture
    → Took (marked_view v reference file marker (made Start place (begun rules))) w file bytes → IsAtEnd w file
    → bytes ≡ marked (conditioning place rules) capture
