-- Steps with nothing waiting, taken one by one, and those that change nothing.
use Rattle.std.proofs.Common.{◌≡◌, ◌<◌, ◌-◌, ◌/◌, ℕ, zero, suc, refl, ap, ◌∙◌, arith}
use Rattle.red_average.specs.Average.{stepped, idled}

same_step : (a : ℕ) → stepped 0 a ≡ a - a / 512
same_step a = omega arith

rest : (a : ℕ) → a < 512 → stepped 0 a ≡ a
rest a h = omega arith

one_less : (m : ℕ) → m ≡ suc m - 1
one_less m = omega arith

pub idled_next : (m a : ℕ) → 0 < m → idled m a ≡ idled (m - 1) (a - a / 512)
idled_next zero a h = absurd (omega arith)
idled_next (suc m) a h = ap (idled m) (same_step a) ∙ ap (λ k. idled k (a - a / 512)) (one_less m)

pub idled_rest : (m a : ℕ) → a < 512 → idled m a ≡ a
idled_rest zero a h = refl
idled_rest (suc m) a h = ap (idled m) (rest a h) ∙ idled_rest m a h

pub idled_none : (m a : ℕ) → m ≡ 0 → idled m a ≡ a
idled_none m a h = ap (λ k. idled k a) h
