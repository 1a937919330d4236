-- Amounts. A rate of R bits per second carries R·t units in t nanoseconds, so a byte is 8·10^9 units and every curve
-- takes whole numbers.
use Rattle.std.specs.Prelude.{ℕ, ◌+◌, ◌-◌, ◌*◌, ◌/◌, ◌^◌}

-- the units of a number of bytes
abbrev pub units : ℕ → ℕ
units bytes = bytes * (8 * 10 ^ 9)

-- amount / rate, rounded up
abbrev pub ceil_div : ℕ → ℕ → ℕ
ceil_div amount rate = (amount + (rate - 1)) / rate

-- the nanoseconds that a number of bytes takes at a rate, rounded up
abbrev pub time_of : ℕ → ℕ → ℕ
time_of bytes rate = ceil_div (units bytes) rate
