-- Which bytes are read of the arrivals' file through a source.
use Rattle.std.specs.Prelude.{◌≡◌, ℕ, false, IsTrue, List, [], ◌++◌, Option, Some}
use Rattle.altq_model.specs.declared.Placed.{Placed}
use Rattle.marked_files.specs.Courses.{conditioning}
use Rattle.marked_files.specs.Markings.{Marking, IsUnused}
use Rattle.pcapng_files.specs.declared.front.Front.{Front}
use Rattle.play_base.specs.View.{View, IsAtEnd, Took}
use Rattle.traffic_marks.specs.Marked.{marked}
use Rattle.traffic_meter.specs.declared.rule.MeterRule.{MeterRule}
use Rattle.arrivals_source.specs.Ways.{source_view, way_own}
use Rattle.arrivals_source.specs.declared.way.Way.{Way}
use Rattle.arrivals_source.specs.declared.way.Way.TheVariants.{AsGiven, Converted, Marked, MarkedConverted}

-- where the files tell, this capture is read of the file in a way
abbrev pub Reads : {C : Type 0} → (C → List ℕ → Placed) → View → (file : ℕ) → Front → Way C → (capture : List ℕ) → Type 0
Reads placed v file front way capture = IsTrue v.tells → way_own placed front way v.tells (v.left file) ≡ Some capture

-- the capture that conditioners with these rules make of a capture
abbrev pub marked_by : {C : Type 0} → (C → List ℕ → Placed) → C → List (Option MeterRule) → (capture : List ℕ) → List ℕ
marked_by placed classes rules capture = marked (conditioning (placed classes) rules) capture

-- what is read in each way of a file that has these bytes left. A marker has taken its first bytes before
pub record ReadsByWay {C : Type 0} (placed : C → List ℕ → Placed) (v : View) (file : ℕ) (front : Front) (own : List ℕ) : Type 0 where
  pub as_given : v.left file ≡ Some own → Reads placed v file front AsGiven own
  pub converted : front.rest ≡ false → Reads placed v file front Converted front.bytes.now
  pub marked : (m : Marking C) (rules : List (Option MeterRule)) (first : List ℕ) → IsUnused m.classes rules first m → v.left file ≡ Some own
      → Reads placed v file front (Marked m) (marked_by placed m.classes rules (first ++ own))
  pub both : (m : Marking C) (rules : List (Option MeterRule)) → IsUnused m.classes rules [] m → front.rest ≡ false
      → Reads placed v file front (MarkedConverted m) (marked_by placed m.classes rules front.bytes.now)

-- what was read of the file up to its end is that capture
abbrev pub IsReadWhole : {C : Type 0} → (C → List ℕ → Placed) → (v w : View) → (reference file : ℕ) → Front → Way C → (capture bytes : List ℕ) → Type 0
IsReadWhole placed v w reference file front way capture bytes =
    IsTrue v.tells → Reads placed v file front way capture → Took (source_view placed v reference file front way) w file bytes → IsAtEnd w file → bytes ≡ capture
