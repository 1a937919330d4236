-- The random words of a seed: those of PCG XSH RR 64/32 (O'Neill, "PCG: a family of simple fast space-efficient statistically good
-- algorithms for random number generation", 2014) on stream 54, in order.
use Rattle.std.specs.Prelude.{◌≡◌, ◌≤◌, ◌<◌, ◌+◌, ◌-◌, ◌^◌, ℕ, zero, suc}
use Rattle.altq_model.specs.History.{DrawnWords}
use Rattle.rand_pcg.specs.Lcg.{Lcg, next, started, increment_of}
use Rattle.rand_pcg.specs.Pcg.{multiplier_64, pcg32}

-- the generator of a seed after `n` words
abbrev pub generator : (seed n : ℕ) → Lcg
generator seed zero = started 64 multiplier_64 seed (increment_of 64 54)
generator seed (suc n) = next 64 multiplier_64 (generator seed n)

-- the word of a seed that comes after `n` words
abbrev pub word : (seed n : ℕ) → ℕ
word seed n = (pcg32 (generator seed n)).0

-- the generator of a seed of which `drawn` words are drawn, as long as their count is known
abbrev pub IsDrawn : (seed drawn : ℕ) → Lcg → Type 0
IsDrawn seed drawn g = drawn < 2 ^ 64 - 1 → g ≡ generator seed drawn

-- an offer drew `took` words, one at most
pub record Drew (old new : DrawnWords) (took : ℕ) : Type 0 where
  pub seed : new.seed ≡ old.seed
  pub drawn : new.drawn ≡ old.drawn + took
  pub one : took ≤ 1
