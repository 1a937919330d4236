-- Sums over classes.
use Rattle.std.proofs.Common.{◌≡◌, ◌≤◌, ◌<◌, ◌+◌, ◌⊎◌, inl, inr, ℕ, zero, suc, Bool, true, false, List, [], ◌∷◌, None, Some, length, refl, sym, subst, arith}
use Rattle.std.specs.Prelude.{Option, sum_by, if◌then◌else◌}
use Rattle.std.proofs.lemmas.Bool.{cases_lt}
use Rattle.std.proofs.lemmas.List.Sums.{sum_by-cons}
use Rattle.service_curve.specs.declared.Curve.{Curve}
use Rattle.hfsc_model.specs.RealTime.{curve_of, is_zero, unless_zero}
use Rattle.hfsc_model.specs.Timely.{amount_of}

abbrev pub sum_below : (ℕ → ℕ) → ℕ → ℕ
sum_below f zero = 0
sum_below f (suc n) = sum_below f n + f n

pub sum_same : (f g : ℕ → ℕ) (n : ℕ) → ((c : ℕ) → c < n → f c ≡ g c) → sum_below f n ≡ sum_below g n
sum_same f g zero e = refl
sum_same f g (suc n) e = omega (arith, sum_same f g n (λ c h. e c (omega arith)), e n (omega arith))

pub sum_mono : (f g : ℕ → ℕ) (n : ℕ) → ((c : ℕ) → f c ≤ g c) → sum_below f n ≤ sum_below g n
sum_mono f g zero e = omega arith
sum_mono f g (suc n) e = omega (arith, sum_mono f g n e, e n)

pub sum_add : (f g : ℕ → ℕ) (n : ℕ) → sum_below (λ c. f c + g c) n ≡ sum_below f n + sum_below g n
sum_add f g zero = refl
sum_add f g (suc n) = omega (arith, sum_add f g n)

-- where one term rises and the others stay
pub sum_one : (f g : ℕ → ℕ) (n k u : ℕ) → k < n → g k ≡ f k + u → ((c : ℕ) → (c ≡ k → ⊥) → g c ≡ f c) → sum_below g n ≡ sum_below f n + u
sum_one f g zero k u h e o = absurd (omega arith)
sum_one f g (suc n) k u h e o = go (cases_lt k n) (λ a. sum_one f g n k u a e o)
  where
    go : (k < n) ⊎ (n ≤ k) → (k < n → sum_below g n ≡ sum_below f n + u) → sum_below g (suc n) ≡ sum_below f (suc n) + u
    go (inl a) more =
        let other : g n ≡ f n = o n (λ x. omega arith) in
        omega (arith, more a)
    go (inr a) more =
        let same : n ≡ k = omega arith in
        let here : g n ≡ f n + u = subst (λ (x : ℕ). g x ≡ f x + u) (sym same) e in
        omega (arith, sum_same g f n (λ c b. o c (λ x. omega arith)), here)

from_first : (f : ℕ → ℕ) (n : ℕ) → sum_below f (suc n) ≡ f 0 + sum_below (λ c. f (suc c)) n
from_first f zero = omega arith
from_first f (suc n) = let rest = from_first f n in omega arith

no_more : (o : Option Curve) (t : ℕ) → amount_of (unless_zero o) t ≤ amount_of o t
no_more None t = omega arith
no_more (Some s) t = go (is_zero s)
  where
    go : (b : Bool) → amount_of (if b then None else Some s) t ≤ amount_of (Some s) t
    go true = omega arith
    go false = omega arith

-- a curve of 0 counts as none, so the classes' curves give together at most what all curves give
pub sum_of_curves : (curves : List (Option Curve)) (t : ℕ) → sum_below (λ c. amount_of (curve_of curves c) t) (length curves) ≤ sum_by (λ o. amount_of o t) curves
sum_of_curves [] t = omega arith
sum_of_curves (o ∷ os) t =
    let first = from_first (λ c. amount_of (curve_of (o ∷ os) c) t) (length os) in
    let one = no_more o t in
    let rest = sum_of_curves os t in
    let sum = sum_by-cons (λ x. amount_of x t) o os in
    omega arith
