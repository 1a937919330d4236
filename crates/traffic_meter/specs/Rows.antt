-- How the worked rows are written: a meter by its rates and bursts, a packet by its length and its moment, and the packets in the
-- order in which they arrive.
use Rattle.std.specs.Prelude.{ℕ, List, [], ◌∷◌, reverse}
use Rattle.traffic_meter.specs.declared.rule.MeterRule.{MeterRule}
use Rattle.traffic_meter.specs.declared.rule.MeterRule.TheVariants.{Single, Two}
use Rattle.traffic_meter.specs.declared.rule.Colour.{Colour}
use Rattle.traffic_meter.specs.declared.rule.Colour.TheVariants as colour
use Rattle.traffic_meter.specs.History.{Metered, colours}

-- meters of the first class of assured forwarding
abbrev pub srtcm : (cir cbs ebs : ℕ) → MeterRule
srtcm cir cbs ebs = Single cir cbs ebs 1

abbrev pub trtcm : (pir pbs cir cbs : ℕ) → MeterRule
trtcm pir pbs cir cbs = Two pir pbs cir cbs 1

abbrev pub at : (len moment : ℕ) → Metered
at len moment = record { moment = moment; len = len }

-- packets of one length
abbrev pub each : (len : ℕ) → List ℕ → List Metered
each len [] = []
each len (t ∷ ts) = at len t ∷ each len ts

-- the colours of packets, in the order of their arrival
abbrev pub met : MeterRule → List Metered → List Colour
met rule as_they_come = reverse (colours rule (reverse as_they_come) [])

abbrev pub G : Colour
G = colour.Green

abbrev pub Y : Colour
Y = colour.Yellow

abbrev pub R : Colour
R = colour.Red
