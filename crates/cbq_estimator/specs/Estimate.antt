-- What contracts see of an estimator, and the histories that it stands for.
use Rattle.std.specs.Prelude.{ℕ, ◌≡◌, ◌<◌, ◌≤◌, ◌^◌, ◌+◌, ◌-◌, ℤ, pos, negsuc, ◌≤ℤ◌, List, Option, unwrap_or}
use Rattle.cbq_estimator.specs.Average.{Pace, Ended, average, latest, EndsAreInOrder}

pub record Estimate : Type 0 where
  pub pace : Pace
  pub average : ℤ
  pub last : Option ℕ

pub record Represents (e : Estimate) (h : List Ended) : Type 0 where
  pub average : e.average ≡ average e.pace h
  pub last : e.last ≡ latest h
  pub in_order : EndsAreInOrder h

-- The average is at least that of packets of the greatest length, sent without a pause at the least rate, and at most the
-- cap, which is above 0.
pub record IsBounded (rate cap : ℕ) (average : ℤ) (last : Option ℕ) : Type 0 where
  pub least_rate : 1000 ≤ rate
  pub most_rate : rate ≤ 10 ^ 12
  pub some_cap : 0 < cap
  pub most_cap : cap ≤ 2 ^ 51
  pub least : negsuc (2 ^ 46 - 1) ≤ℤ average
  pub most : average ≤ℤ pos cap
  pub early : unwrap_or last 0 < 2 ^ 63 + 2 ^ 62
