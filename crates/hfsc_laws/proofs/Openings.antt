-- What the openings of a leaf allow up to a moment.
use Rattle.std.proofs.Common.{◌≡◌, ◌≤◌, ◌<◌, ◌+◌, ◌-◌, ℕ, Bool, true, false, List, [], ◌∷◌, refl, arith}
use Rattle.std.specs.Prelude.{nat_le, if◌then◌else◌}
use Rattle.std.proofs.lemmas.Bool.Decides.{nat_tests}
use Rattle.service_curve.specs.declared.Curve.{Curve}
use Rattle.service_curve.specs.Curve.{amount}
use Rattle.service_curve.proofs.Amounts.{amount_mono}
use Rattle.runtime_curve.specs.declared.Opening.{Opening}
use Rattle.runtime_curve.specs.Opening.{line, Reaches, eligible_curve}
use Rattle.runtime_curve.specs.Deadline.{reaches}
use Rattle.hfsc_laws.proofs.Curves.{amount_add}

-- openings that allow a count allow a smaller one
pub reaches_less : (s : Curve) (os : List Opening) (t low high : ℕ) → low ≤ high → Reaches s os t high → Reaches s os t low
reaches_less s [] t low high h r = tt
reaches_less s (o ∷ os) t low high h r = (omega (arith, r.0), reaches_less s os t low high h r.1)

-- where a head was too early at a moment, its openings allow later at most what the curve gives from its start in the time since
pub early_most : (s : Curve) (os : List Opening) (now t count x : ℕ) → reaches (eligible_curve s) os now count ≡ false → Reaches s os t x
    → x ≤ count + amount s (t - now)
early_most s [] now t count x e r = absurd cc
early_most s (o ∷ os) now t count x e r = go (nat_le count (line (eligible_curve s) now o)) refl e (λ f. early_most s os now t count x f r.1)
  where
    go : (b : Bool) → nat_le count (line (eligible_curve s) now o) ≡ b → (if b then reaches (eligible_curve s) os now count else false) ≡ false
        → (reaches (eligible_curve s) os now count ≡ false → x ≤ count + amount s (t - now)) → x ≤ count + amount s (t - now)
    go true f g rest = rest g
    go false f g rest =
        let low : line (eligible_curve s) now o < count = grind (arith, nat_tests, f) in
        let one = amount_mono s (t - o.at) ((now - o.at) + (t - now)) (omega arith) in
        let two = amount_add s (now - o.at) (t - now) in
        omega (arith, r.0)
