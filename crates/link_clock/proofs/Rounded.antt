-- Quotients rounded up.
use Rattle.std.proofs.Common.{◌≡◌, ◌≤◌, ◌<◌, ◌+◌, ◌-◌, ◌*◌, ◌^◌, ℕ, arith}
use Rattle.std.proofs.lemmas.Nat.{mul-le, div_below}
use Rattle.play_base.specs.Units.{ceil_div, units}

pub le_ceil : (amount rate : ℕ) → 0 < rate → amount ≤ rate * ceil_div amount rate
le_ceil amount rate h = omega arith

pub ceil_le : (amount rate y : ℕ) → 0 < rate → amount ≤ rate * y → ceil_div amount rate ≤ y
ceil_le amount rate y h k =
    let one : amount + (rate - 1) < (y + 1) * rate = omega arith in
    let two = div_below (amount + (rate - 1)) rate (y + 1) h one in
    omega arith

-- a sum takes no longer than its parts
pub ceil_sum : (a b rate : ℕ) → 0 < rate → ceil_div (a + b) rate ≤ ceil_div a rate + ceil_div b rate
ceil_sum a b rate h =
    let one = le_ceil a rate h in
    let two = le_ceil b rate h in
    ceil_le (a + b) rate (ceil_div a rate + ceil_div b rate) h (omega arith)

-- a packet whose length fits 32 bits takes less than 2^55 ns at 1,000 bits per second or more
pub packet_time : (len rate : ℕ) → 1000 ≤ rate → len < 2 ^ 32 → ceil_div (units len) rate ≤ 2 ^ 55
packet_time len rate h k =
    let more : 1000 * 2 ^ 55 ≤ rate * 2 ^ 55 = mul-le 1000 (2 ^ 55) rate (2 ^ 55) h (omega arith) in
    ceil_le (units len) rate (2 ^ 55) (omega arith) (omega arith)

-- what a run had sent is at most what its time carries at the greatest rate
pub run_units : (sent rate time : ℕ) → 0 < rate → rate ≤ 10 ^ 12 → ceil_div sent rate ≤ time → sent ≤ 10 ^ 12 * time
run_units sent rate time p h k =
    let one = le_ceil sent rate p in
    let two = mul-le rate (ceil_div sent rate) (10 ^ 12) time h k in
    omega arith

-- one packet more takes a run's end less than 2^62 further
pub goes_on : (rate free run sent len : ℕ) → 1000 ≤ rate → free ≡ run + ceil_div sent rate → len < 2 ^ 32 → free ≤ 2 ^ 63
    → run + ceil_div (sent + units len) rate < 2 ^ 63 + 2 ^ 62
goes_on rate free run sent len h e k f =
    let sum = ceil_sum sent (units len) rate (omega arith) in
    let one = packet_time len rate h k in
    omega arith
