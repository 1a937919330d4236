-- What a meter answers after a history: the list of the packets that it was asked for, the newest first.
use Rattle.std.specs.Prelude.{ℕ, ◌≡◌, ◌≤◌, List, [], ◌∷◌, ◌++◌}
use Rattle.play_base.specs.Units.{units}
use Rattle.traffic_meter.specs.declared.rule.MeterRule.{MeterRule}
use Rattle.traffic_meter.specs.declared.rule.Colour.{Colour}
use Rattle.traffic_meter.specs.Buckets.{Buckets, full, filled, judged, paid}

-- a packet at a meter: its arrival, in nanoseconds, and its length, in bytes
pub record Metered : Type 0 where
  pub moment : ℕ
  pub len : ℕ

-- the colour of a packet, of what the buckets held after the one before
abbrev pub colour_of : MeterRule → Buckets → Metered → Colour
colour_of rule b a = judged rule (filled rule b a.moment) (units a.len)

-- what they hold after it
abbrev pub after : MeterRule → Buckets → Metered → Buckets
after rule b a = paid rule (colour_of rule b a) (filled rule b a.moment) (units a.len)

-- what they hold after a history
abbrev pub buckets : MeterRule → List Metered → Buckets
buckets rule [] = full rule
buckets rule (a ∷ h) = after rule (buckets rule h) a

-- the colour of a packet that comes after a history
abbrev pub colour_after : MeterRule → List Metered → Metered → Colour
colour_after rule h a = colour_of rule (buckets rule h) a

-- the colours of packets that came after a history
abbrev pub colours : MeterRule → (newer older : List Metered) → List Colour
colours rule [] h = []
colours rule (a ∷ newer) h = colour_after rule (newer ++ h) a ∷ colours rule newer h

-- the moment of the newest packet
abbrev pub latest : List Metered → ℕ
latest [] = 0
latest (a ∷ h) = a.moment

-- no packet arrives before the one before it
abbrev pub ArrivalsAreInOrder : List Metered → Type 0
ArrivalsAreInOrder [] = Unit {0}
ArrivalsAreInOrder (a ∷ h) = (latest h ≤ a.moment) × ArrivalsAreInOrder h

-- what contracts see of a meter
pub record Metering : Type 0 where
  pub rule : MeterRule
  pub buckets : Buckets

pub record Represents (m : Metering) (h : List Metered) : Type 0 where
  pub buckets : m.buckets ≡ buckets m.rule h
  pub in_order : ArrivalsAreInOrder h
