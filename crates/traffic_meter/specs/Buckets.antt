-- The buckets of a meter, colour-blind: the single-rate one of RFC 2697 and the two-rate one of RFC 2698. The RFCs add tokens one
-- at a time; here a bucket is an exact fluid, which at a rate of R bits per second gains R units in a nanosecond.
use Rattle.std.specs.Prelude.{ℕ, ◌+◌, ◌-◌, ◌*◌, min, nat_le, if◌then◌else◌}
use Rattle.play_base.specs.Units.{units}
use Rattle.traffic_meter.specs.declared.rule.MeterRule.{MeterRule}
use Rattle.traffic_meter.specs.declared.rule.MeterRule.TheVariants.{Single, Two}
use Rattle.traffic_meter.specs.declared.rule.Colour.{Colour}
use Rattle.traffic_meter.specs.declared.rule.Colour.TheVariants.{Green, Yellow, Red}

-- the committed rate, in bits per second
abbrev pub committed_rate : MeterRule → ℕ
committed_rate (Single cir cbs ebs af) = cir
committed_rate (Two pir pbs cir cbs af) = cir

-- the committed burst, in bytes
abbrev pub committed_burst : MeterRule → ℕ
committed_burst (Single cir cbs ebs af) = cbs
committed_burst (Two pir pbs cir cbs af) = cbs

-- the excess burst of a single-rate meter, the peak burst of a two-rate one, in bytes
abbrev pub other_burst : MeterRule → ℕ
other_burst (Single cir cbs ebs af) = ebs
other_burst (Two pir pbs cir cbs af) = pbs

-- what the buckets hold at a moment, in units: the committed bucket, and that of the other burst
pub record Buckets : Type 0 where
  pub moment : ℕ
  pub committed : ℕ
  pub other : ℕ

-- both are full at first
abbrev pub full : MeterRule → Buckets
full rule = record { moment = 0; committed = units (committed_burst rule); other = units (other_burst rule) }

-- The same at a later moment. With a single rate, what the committed bucket cannot hold goes to the excess bucket; with two,
-- each bucket has a rate of its own.
abbrev pub filled : MeterRule → Buckets → (t : ℕ) → Buckets
filled (Single cir cbs ebs af) b t =
    let held = b.committed + cir * (t - b.moment) in
    record { moment = t; committed = min (units cbs) held; other = min (units ebs) (b.other + (held - units cbs)) }
filled (Two pir pbs cir cbs af) b t = record {
  moment = t;
  committed = min (units cbs) (b.committed + cir * (t - b.moment));
  other = min (units pbs) (b.other + pir * (t - b.moment));
}

-- the colour of a packet of U units. A single-rate meter asks the committed bucket first, a two-rate one the peak bucket.
abbrev pub judged : MeterRule → Buckets → (U : ℕ) → Colour
judged (Single cir cbs ebs af) b U = if nat_le U b.committed then Green else if nat_le U b.other then Yellow else Red
judged (Two pir pbs cir cbs af) b U = if nat_le U b.other then if nat_le U b.committed then Green else Yellow else Red

-- What is left once it has paid. A green packet pays from the committed bucket, with two rates from both; a yellow one from the
-- other bucket; a red one pays nothing.
abbrev pub paid : MeterRule → Colour → Buckets → (U : ℕ) → Buckets
paid rule Red b U = b
paid rule Yellow b U = record b { other = b.other - U }
paid (Single cir cbs ebs af) Green b U = record b { committed = b.committed - U }
paid (Two pir pbs cir cbs af) Green b U = record b { committed = b.committed - U; other = b.other - U }
