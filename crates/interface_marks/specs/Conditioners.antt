-- The conditioners of an interface: which frames they mark, and of a capture the marked one (RFC 2475).
use Rattle.std.specs.Prelude.{◌≡◌, ◌<◌, ◌++◌, ℕ, Bool, is_some, List, [], length}
use Rattle.std.specs.List.{list_any}
use Rattle.conf_tree.specs.Conditioners.{meters}
use Rattle.conf_tree.specs.declared.interface.Interface.{Interface}
use Rattle.frame_classes.specs.Frames.{Classes, place_in, placed_by}
use Rattle.marked_files.specs.Markings.{Marking, given}
use Rattle.marked_files.specs.Courses.{conditioning}
use Rattle.marked_files.specs.Standing.{IsAtRecordEnd, Waits}
use Rattle.traffic_marks.specs.Marked.{Conditioning, marked}

-- the classes of its frames, and the meter of each class that has a conditioner
abbrev pub conditioning_of : Interface → Conditioning
conditioning_of i = conditioning (place_in i) (meters i.classes)

-- the capture whose frames carry the marks of the interface's conditioners
abbrev pub marked_in : Interface → (capture : List ℕ) → List ℕ
marked_in i capture = marked (conditioning_of i) capture

-- some class has a conditioner
abbrev pub is_conditioned : Interface → Bool
is_conditioned i = list_any (λ c. is_some c.meter) i.classes

-- a marker makes of a capture of which these bytes were taken, and of what follows them, the marked one
abbrev pub Marks : Interface → (first : List ℕ) → Marking Classes → Type 0
Marks i first m = (left : List ℕ) → given placed_by m left ≡ marked_in i (first ++ left)

-- it has taken these first bytes of a capture and given none; where they are fewer than a head has, it waits for more
pub record Begins (i : Interface) (first : List ℕ) (m : Marking Classes) : Type 0 where
  pub stands : IsAtRecordEnd placed_by (conditioning_of i) first [] m
  pub given : length m.held.ready ≡ 0
  pub waits : length first < 24 → Waits m
