-- The meters of the classes of an interface, by the number of the class.
use Rattle.std.specs.Prelude.{ℕ, ◌+◌, ◌&&◌, zero, suc, nat_le, Bool, true, IsTrue, Option, Some, None, List, [], ◌∷◌, map}
use Rattle.std.specs.List.{list_all}
use Rattle.traffic_meter.specs.declared.rule.MeterRule.{MeterRule}
use Rattle.traffic_meter.specs.Buckets.{full}
use Rattle.traffic_meter.specs.History.{Metered, Metering, after, colour_of}
use Rattle.traffic_marks.specs.Marked.{Conditioner, assured_class, coloured_frame}

-- the meter of a class, which has none where its number is past the list
abbrev pub meter_of : List (Option Metering) → (class : ℕ) → Option Metering
meter_of [] class = None
meter_of (m ∷ ms) zero = m
meter_of (m ∷ ms) (suc class) = meter_of ms class

-- what a meter makes of a frame
abbrev pub frame_by : Option Metering → Metered → List ℕ → List ℕ
frame_by None a frame = frame
frame_by (Some m) a frame = coloured_frame m.rule (colour_of m.rule m.buckets a) frame

-- a meter once it has coloured a packet
abbrev pub meter_after : Option Metering → Metered → Option Metering
meter_after None a = None
meter_after (Some m) a = Some (record { rule = m.rule; buckets = after m.rule m.buckets a })

-- the meters once that of a class has coloured a packet
abbrev pub meters_after : List (Option Metering) → (class : ℕ) → Metered → List (Option Metering)
meters_after [] class a = []
meters_after (m ∷ ms) zero a = meter_after m a ∷ ms
meters_after (m ∷ ms) (suc class) a = m ∷ meters_after ms class a

-- meters that coloured no packet
abbrev pub new_meter : Option MeterRule → Option Metering
new_meter None = None
new_meter (Some rule) = Some (record { rule = rule; buckets = full rule })

abbrev pub new_meters : List (Option MeterRule) → List (Option Metering)
new_meters rules = map new_meter rules

-- the conditioners of classes, of which the first has this number
abbrev pub conditioners_from : (class : ℕ) → List (Option MeterRule) → List Conditioner
conditioners_from class [] = []
conditioners_from class (None ∷ rules) = conditioners_from (class + 1) rules
conditioners_from class (Some rule ∷ rules) = record { class = class; rule = rule } ∷ conditioners_from (class + 1) rules

-- a meter marks with a class of assured forwarding of at most 4, and coloured no packet after a moment
abbrev pub is_ready : (moment : ℕ) → Option Metering → Bool
is_ready moment None = true
is_ready moment (Some m) = nat_le (assured_class m.rule) 4 && nat_le m.buckets.moment moment

abbrev pub AreReady : (moment : ℕ) → List (Option Metering) → Type 0
AreReady moment meters = IsTrue (list_all (is_ready moment) meters)

-- the classes of assured forwarding are at most 4
abbrev pub is_assured : Option MeterRule → Bool
is_assured None = true
is_assured (Some rule) = nat_le (assured_class rule) 4

abbrev pub AreAssured : List (Option MeterRule) → Type 0
AreAssured rules = IsTrue (list_all is_assured rules)
