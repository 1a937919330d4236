-- How far the average in fixed point may be from the exact one.
use Rattle.std.specs.Prelude.{ℕ, ◌≤◌, ◌<◌, ◌+◌, ◌*◌, ◌^◌}

-- exact / 512^n <= average < exact / 512^n + 512: the average is less than 1/4096 of a packet above the exact one. After n steps
-- from 0 the exact average, without rounding, is such a fraction.
pub record IsNear (n exact a : ℕ) : Type 0 where
  pub least : exact ≤ 512 ^ n * a
  pub most : 512 ^ n * a < exact + 512 ^ (n + 1)
