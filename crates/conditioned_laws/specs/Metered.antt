-- The packets of a capture that the meter of a class is asked for, what its colours come to, and the frames that carry them.
use Rattle.std.specs.Prelude.{◌≡◌, ◌==◌, ◌++◌, ℕ, List, [], ◌∷◌, reverse, if◌then◌else◌}
use Rattle.altq_model.specs.declared.Placed.{Placed}
use Rattle.altq_model.specs.Arrivals.{arrivals_of}
use Rattle.capture_model.specs.Capture.{Record}
use Rattle.traffic_meter.specs.declared.rule.Colour.{Colour}
use Rattle.traffic_meter.specs.declared.rule.MeterRule.{MeterRule}
use Rattle.traffic_meter.specs.Conforming.{GreenConforms, PassedConforms}
use Rattle.traffic_meter.specs.History.{ArrivalsAreInOrder, Metered, colours}
use Rattle.traffic_marks.specs.Marked.{Conditioning, coloured_frame, history}

-- the packets of records that the meter of a class is asked for, the newest first
abbrev pub asked : Conditioning → (class : ℕ) → List Record → List Metered
asked c class records = history class (reverse (arrivals_of c.place records))

-- of records, the frames of those that came with a frame of a class
abbrev pub frames_of : (List ℕ → Placed) → (class : ℕ) → (came records : List Record) → List (List ℕ)
frames_of place class [] rs = []
frames_of place class (r ∷ came) [] = []
frames_of place class (r ∷ came) (m ∷ rs) =
    if (place r.captured).class == class then m.captured ∷ frames_of place class came rs else frames_of place class came rs

-- frames with the code points of colours, each with its own
abbrev pub coloured_frames : MeterRule → List Colour → List (List ℕ) → List (List ℕ)
coloured_frames rule [] frames = []
coloured_frames rule (colour ∷ colours) [] = []
coloured_frames rule (colour ∷ colours) (frame ∷ frames) = coloured_frame rule colour frame ∷ coloured_frames rule colours frames

-- THE METER OF A CLASS, over records that came and those that were made of them. The packets that it is asked for are in order; so over
-- each stretch of them the green ones conform to the committed rate and burst, and those that passed to theirs. The frames of the class
-- carry the code points of these colours.
pub record IsMetered (c : Conditioning) (came made : List Record) (class : ℕ) (rule : MeterRule) : Type 0 where
  pub in_order : ArrivalsAreInOrder (asked c class came)
  pub green : (newer s older : List Metered) → asked c class came ≡ newer ++ (s ++ older) → GreenConforms rule s older
  pub passed : (newer s older : List Metered) → asked c class came ≡ newer ++ (s ++ older) → PassedConforms rule s older
  pub carried : frames_of c.place class came made
      ≡ coloured_frames rule (reverse (colours rule (asked c class came) [])) (frames_of c.place class came came)
