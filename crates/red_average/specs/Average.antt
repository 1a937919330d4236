-- The moving average of the packets that wait (Floyd and Jacobson 1993, "Random early detection gateways for congestion
-- avoidance"), in packets times 2^21. The newest number weighs 1/512: a step with q waiting packets makes the average
-- 511/512 of itself and 1/512 of q, the first rounded up.
use Rattle.std.specs.Prelude.{ℕ, zero, suc, ◌+◌, ◌-◌, ◌*◌, ◌/◌, ◌==◌, if◌then◌else◌}

-- one step of the average where `q` packets wait
abbrev pub stepped : (q a : ℕ) → ℕ
stepped q a = a + 4096 * q - a / 512

-- `steps` steps with no packet waiting
abbrev pub idled : (steps a : ℕ) → ℕ
idled zero a = a
idled (suc m) a = idled m (stepped 0 a)

-- how many steps the time without a waiting packet is worth: none where the arrival is before its beginning
abbrev pub idle_steps : (step idle now : ℕ) → ℕ
idle_steps step idle now = (now - idle) / step

-- the average after an arrival that finds `q` packets waiting
abbrev pub moved : (step idle now q a : ℕ) → ℕ
moved step idle now q a = if q == 0 then idled (idle_steps step idle now) a else stepped q a
