-- What a clock of a link is: its rate, and the link after the sendings that it was told of.
use Rattle.std.specs.Prelude.{ℕ, ◌≡◌, ◌≤◌, ◌+◌, ◌^◌}
use Rattle.play_base.specs.Units.{ceil_div}
use Rattle.altq_model.specs.Link.{Link}

pub record Clock : Type 0 where
  pub rate : ℕ
  pub link : Link

-- The rate is in its range, and the last end is that of the run. So the run's units are bounded by its time, and no number
-- overflows.
pub record IsRunning (rate free run sent : ℕ) : Type 0 where
  pub least : 1000 ≤ rate
  pub most : rate ≤ 10 ^ 12
  pub ends : free ≡ run + ceil_div sent rate
