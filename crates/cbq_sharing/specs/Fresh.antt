-- The classes that CBQ may be built of, and what it keeps of them at first.
use Rattle.std.specs.Prelude.{◌≡◌, ◌≤◌, ◌<◌, ◌^◌, ℕ, List, [], length, map, replicate, Some}
use Rattle.cbq_estimator.specs.Estimate.{Estimate}
use Rattle.cbq_estimator.specs.Now.{estimate_of}
use Rattle.cbq_model.specs.declared.CbqClass.{CbqClass}
use Rattle.cbq_model.specs.Tree.{class_of, pace_of}
use Rattle.cbq_sharing.specs.Shared.{Shared}

-- a class's numbers are in their ranges
pub record IsClass (k : CbqClass) : Type 0 where
  pub least_rate : 1000 ≤ k.rate
  pub most_rate : k.rate ≤ 10 ^ 12
  pub priority : k.priority ≤ 7
  pub some_packets : 1 ≤ k.maxburst
  pub few_packets : k.maxburst ≤ 1000
  pub some_bytes : 1 ≤ k.packetsize
  pub few_bytes : k.packetsize ≤ 262144

-- every parent stands earlier in the file
abbrev pub HasEarlierParents : List CbqClass → Type 0
HasEarlierParents cs = (c p : ℕ) → (class_of cs c).parent ≡ Some p → p < c

abbrev pub fresh_estimate : CbqClass → Estimate
fresh_estimate k = estimate_of (pace_of k) []

abbrev pub fresh : (rate : ℕ) → List CbqClass → Shared
fresh rate cs = record {
  rate = rate;
  tree = cs;
  estimates = map fresh_estimate cs;
  credits = replicate (length cs) 0;
  cursors = replicate 8 0;
  ended = 0;
}
