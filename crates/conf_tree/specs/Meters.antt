-- The numbers of a meter that a configuration gives: rates of 1,000 to 10^12 bits per second, the committed one at most the peak one;
-- bursts of at most 2^30 bytes, of which the excess burst alone may be 0; and one of the four classes of assured forwarding.
use Rattle.std.specs.Prelude.{ℕ, ◌≤◌, Option, Some, None}
use Rattle.conf_lines.specs.Options.{most_rate, most_burst, most_af}
use Rattle.traffic_meter.specs.declared.rule.MeterRule.{MeterRule}
use Rattle.traffic_meter.specs.declared.rule.MeterRule.TheVariants.{Single, Two}

pub record IsSingle (cir cbs ebs af : ℕ) : Type 0 where
  pub rate_least : 1000 ≤ cir
  pub rate_most : cir ≤ most_rate
  pub burst_least : 1 ≤ cbs
  pub burst_most : cbs ≤ most_burst
  pub excess_most : ebs ≤ most_burst
  pub af_least : 1 ≤ af
  pub af_most : af ≤ most_af

pub record IsTwo (pir pbs cir cbs af : ℕ) : Type 0 where
  pub peak_most : pir ≤ most_rate
  pub peak_burst_least : 1 ≤ pbs
  pub peak_burst_most : pbs ≤ most_burst
  pub rate_least : 1000 ≤ cir
  pub rate_most : cir ≤ pir
  pub burst_least : 1 ≤ cbs
  pub burst_most : cbs ≤ most_burst
  pub af_least : 1 ≤ af
  pub af_most : af ≤ most_af

abbrev pub IsMeter : MeterRule → Type 0
IsMeter (Single cir cbs ebs af) = IsSingle cir cbs ebs af
IsMeter (Two pir pbs cir cbs af) = IsTwo pir pbs cir cbs af

abbrev pub IsMeterIfAny : Option MeterRule → Type 0
IsMeterIfAny None = Unit {0}
IsMeterIfAny (Some rule) = IsMeter rule
