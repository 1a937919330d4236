-- Quotients and steps.
use Rattle.std.proofs.Common.{◌≡◌, ◌≤◌, ◌<◌, ◌+◌, ◌*◌, ◌⊎◌, inl, inr, ℕ, min, max, true, false, List, [], ◌∷◌, ◌++◌, None, Some, eqb, map, refl, ap, sym, arith, ◌∙◌}
use Rattle.std.specs.Prelude.{Option, ◌/◌, ◌%◌}
use Rattle.std.specs.Option.{option_eq}
use Rattle.std.specs.List.{filter, range_with_len}
use Rattle.std.proofs.lemmas.Grind.{div_ceil_times}
use Rattle.std.proofs.lemmas.Bool.{cases_lt}
use Rattle.play_base.specs.Units.{ceil_div}
use Rattle.service_curve.proofs.Firsts.{time_comes, time_reaches}
use Rattle.service_curve.proofs.Amounts.{mul_mono}
use Rattle.hfsc_model.specs.declared.HfscClass.{HfscClass}
use Rattle.hfsc_model.specs.Share.{greatest}
use Rattle.hfsc_model.specs.Tree.{class_of, is_child, is_number}
use Rattle.fair_shares.specs.Sharing.{step_of}
use Rattle.share_gaps.proofs.Ranges.{more_fails, more_passes}

pub ceil_is : (a b : ℕ) → 0 < b → a / b + min 1 (a % b) ≡ ceil_div a b
ceil_is a b some =
    let q = a / b + min 1 (a % b) in
    let x = div_ceil_times a b some in
    let low = time_comes b a (a / b + min 1 (a % b)) some (let one = x.0 in omega (arith, one)) in
    let there = time_reaches b a (ceil_div a b) some (omega arith) in
    let high = go (cases_lt (ceil_div a b) (a / b + min 1 (a % b))) x.1 there in
    omega (arith, low, high)
  where
    go : (ceil_div a b < a / b + min 1 (a % b)) ⊎ (a / b + min 1 (a % b) ≤ ceil_div a b) → (a / b + min 1 (a % b)) * b < a + b → a ≤ b * ceil_div a b
        → a / b + min 1 (a % b) ≤ ceil_div a b
    go (inr m) y z = m
    go (inl m) y z =
        let more = mul_mono b (ceil_div a b + 1) (a / b + min 1 (a % b)) (omega (arith, m)) in
        absurd (omega (arith, more, y, z))

pub number_is : (o : Option ℕ) (p : ℕ) → is_number p o ≡ option_eq eqb o (Some p)
number_is None p = refl
number_is (Some q) p = refl

greatest_more : (f : ℕ → ℕ) (xs : List ℕ) (k : ℕ) → greatest (map f (xs ++ k ∷ [])) ≡ max (greatest (map f xs)) (f k)
greatest_more f [] k = omega arith
greatest_more f (x ∷ xs) k = let rest = greatest_more f xs k in omega (arith, rest)

pub step_more : (cs : List HfscClass) (p u k : ℕ) → is_child cs p k ≡ true
    → max (greatest (map (λ c. step_of (class_of cs c).share u) (filter (is_child cs p) (range_with_len 0 k)))) (step_of (class_of cs k).share u)
    ≡ greatest (map (λ c. step_of (class_of cs c).share u) (filter (is_child cs p) (range_with_len 0 (k + 1))))
step_more cs p u k e =
    sym (greatest_more (λ c. step_of (class_of cs c).share u) (filter (is_child cs p) (range_with_len 0 k)) k)
    ∙ ap (λ (xs : List ℕ). greatest (map (λ c. step_of (class_of cs c).share u) xs)) (sym (more_passes (is_child cs p) k e))

pub step_stays : (cs : List HfscClass) (p u k : ℕ) → is_child cs p k ≡ false
    → greatest (map (λ c. step_of (class_of cs c).share u) (filter (is_child cs p) (range_with_len 0 k)))
    ≡ greatest (map (λ c. step_of (class_of cs c).share u) (filter (is_child cs p) (range_with_len 0 (k + 1))))
step_stays cs p u k e = ap (λ (xs : List ℕ). greatest (map (λ c. step_of (class_of cs c).share u) xs)) (sym (more_fails (is_child cs p) k e))
