-- The worked capture: a meter of 8 Mbit/s and 1,000 bytes for frames of IPv4, and none for those of IPv6.
use Rattle.std.specs.Prelude.{List, [], ◌∷◌}
use Rattle.capture_model.specs.Capture.{Record}
use Rattle.traffic_meter.specs.declared.rule.MeterRule.{MeterRule}
use Rattle.traffic_meter.specs.declared.rule.MeterRule.TheVariants.{Single}
use Rattle.traffic_marks.specs.Marked.{Conditioning}
use Rattle.traffic_marks.specs.Rows.{by_version, packet, srtcm, v4, v6}

abbrev pub one_meter : Conditioning
one_meter = record { place = by_version; conditioners = srtcm 1 1000 0 1 ∷ [] }

abbrev pub meter : MeterRule
meter = Single 8000000 1000 0 1

-- at 2 ms, again at that moment with a stamp that falls, a nanosecond before 3 ms, and at 3 ms; and one of IPv6
abbrev pub four_and_one : List Record
four_and_one =
    packet 2000000 1000 (v4 0x00 0x65f3) ∷ packet 0 500 (v6 0x03) ∷ packet 1000000 1000 (v4 0x00 0x65f3) ∷ packet 2999999 1000 (v4 0x00 0x65f3)
    ∷ packet 3000000 1000 (v4 0x00 0x65f3) ∷ []
