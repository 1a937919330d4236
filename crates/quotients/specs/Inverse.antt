-- The number by which quotients by a divisor are guessed. What a quotient is does not rest on it.
use Rattle.std.specs.Prelude.{◌==◌, ◌-◌, ◌/◌, ◌^◌, ℕ, if◌then◌else◌}

abbrev pub inverse : ℕ → ℕ
inverse divisor = if divisor == 0 then 0 else (2 ^ 64 - 1) / divisor
