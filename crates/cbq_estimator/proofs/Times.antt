-- The time of a packet at its class's rate.
use Rattle.std.proofs.Common.{◌≤◌, ◌*◌, ◌^◌, ℕ, arith}
use Rattle.std.proofs.lemmas.Nat.{mul-le}
use Rattle.play_base.specs.Units.{units, time_of}
use Rattle.link_clock.proofs.Rounded.{ceil_le}

-- a packet of the greatest length takes less than 2^41 ns at the least rate
pub own_time : (len rate : ℕ) → 1000 ≤ rate → len ≤ 262144 → time_of len rate ≤ 2 ^ 41
own_time len rate h k =
    let more : 1000 * 2 ^ 41 ≤ rate * 2 ^ 41 = mul-le 1000 (2 ^ 41) rate (2 ^ 41) h (omega arith) in
    ceil_le (units len) rate (2 ^ 41) (omega arith) (omega arith)
