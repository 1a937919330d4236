-- The sum of curves is under a line everywhere where it is at their bends and by their last slopes.
use Rattle.std.proofs.Common.{◌≡◌, ◌≤◌, ◌<◌, ◌+◌, ◌-◌, ◌*◌, ◌⊎◌, inl, inr, ℕ, max, List, [], ◌∷◌, refl, ap, sym, subst, arith, ◌∙◌}
use Rattle.std.proofs.lemmas.Bool.{cases_lt}
use Rattle.std.proofs.lemmas.List.Sums.{sum_by-cons}
use Rattle.service_curve.specs.declared.Curve.{Curve}
use Rattle.service_curve.specs.Curve.{amount}
use Rattle.service_curve.proofs.Amounts.{mul_mono, amount_before, amount_after}
use Rattle.admission.specs.Fit.{Fits, total}
use Rattle.admission.specs.Bends.{last_bend, slopes}

-- at the bend of each curve the sum of all is under the line
abbrev pub UnderAt : ℕ → List Curve → List Curve → Type 0
UnderAt rate all [] = Unit {0}
UnderAt rate all (s ∷ ss) = (total all s.d ≤ rate * s.d) × UnderAt rate all ss

-- no bend lies strictly between two moments
abbrev Straight : ℕ → ℕ → List Curve → Type 0
Straight lo hi [] = Unit {0}
Straight lo hi (s ∷ ss) = ((s.d ≤ lo) ⊎ (hi ≤ s.d)) × Straight lo hi ss

-- no bend lies after a moment
abbrev pub Bent : ℕ → List Curve → Type 0
Bent lo [] = Unit {0}
Bent lo (s ∷ ss) = (s.d ≤ lo) × Bent lo ss

-- from the bend on a curve grows by its second slope
next_amount : (s : Curve) (lo x : ℕ) → s.d ≤ lo → amount s (lo + x) ≡ amount s lo + s.m2 * x
next_amount s lo x h =
    let one = amount_after s lo h in
    let two = amount_after s (lo + x) (omega arith) in
    let more : (lo + x) - s.d ≡ (lo - s.d) + x = omega arith in
    let three = ap (λ n. s.m2 * n) more in
    omega arith

pub next_total : (ss : List Curve) (lo x : ℕ) → Bent lo ss → total ss (lo + x) ≡ total ss lo + slopes ss * x
next_total [] lo x b = omega arith
next_total (s ∷ ss) lo x b =
    let one = sum_by-cons (λ (s : Curve). amount s (lo + x)) s ss in
    let two = sum_by-cons (λ (s : Curve). amount s lo) s ss in
    let three = sum_by-cons (λ (s : Curve). s.m2) s ss in
    let four = next_amount s lo x b.0 in
    let rest = next_total ss lo x b.1 in
    let five = ap (λ n. n * x) three in
    omega arith

-- between two moments without a bend between them a curve is a line
line_through : (m lo a b : ℕ) → (a + b) * (m * (lo + a)) ≡ b * (m * lo) + a * (m * (lo + a + b))
line_through m lo a b = omega arith

line_from : (m y a b : ℕ) → (a + b) * (y + m * a) ≡ b * y + a * (y + m * (a + b))
line_from m y a b = omega arith

between : (s : Curve) (lo a b : ℕ) → (s.d ≤ lo) ⊎ (lo + a + b ≤ s.d) → (a + b) * amount s (lo + a) ≡ b * amount s lo + a * amount s (lo + a + b)
between s lo a b (inl h) =
    let one = next_amount s lo a h in
    let whole : lo + a + b ≡ lo + (a + b) = omega arith in
    let two : amount s (lo + a + b) ≡ amount s lo + s.m2 * (a + b) = ap (amount s) whole ∙ next_amount s lo (a + b) h in
    ap (λ n. (a + b) * n) one ∙ line_from s.m2 (amount s lo) a b ∙ sym (ap (λ n. b * amount s lo + a * n) two)
between s lo a b (inr h) =
    let one = amount_before s lo (omega arith) in
    let two = amount_before s (lo + a) (omega arith) in
    let three = amount_before s (lo + a + b) h in
    ap (λ n. (a + b) * n) two ∙ line_through s.m1 lo a b
    ∙ sym (ap (λ n. b * n + a * amount s (lo + a + b)) one ∙ ap (λ n. b * (s.m1 * lo) + a * n) three)

add_between : (k a b x y z u v w : ℕ) → k * x ≡ b * y + a * z → k * u ≡ b * v + a * w → k * (x + u) ≡ b * (y + v) + a * (z + w)
add_between k a b x y z u v w e f = omega arith

total_between : (ss : List Curve) (lo a b : ℕ) → Straight lo (lo + a + b) ss → (a + b) * total ss (lo + a) ≡ b * total ss lo + a * total ss (lo + a + b)
total_between [] lo a b x = omega arith
total_between (s ∷ ss) lo a b x =
    let one = sum_by-cons (λ (s : Curve). amount s (lo + a)) s ss in
    let two = sum_by-cons (λ (s : Curve). amount s lo) s ss in
    let three = sum_by-cons (λ (s : Curve). amount s (lo + a + b)) s ss in
    ap (λ n. (a + b) * n) one ∙ add_between (a + b) a b _ _ _ _ _ _ (between s lo a b x.0) (total_between ss lo a b x.1)
    ∙ sym (ap (λ n. b * n + a * total (s ∷ ss) (lo + a + b)) two ∙ ap (λ n. b * (amount s lo + total ss lo) + a * n) three)

less_product : (k x y : ℕ) → 0 < k → k * x ≤ k * y → x ≤ y
less_product k x y h e = go (cases_lt y x)
  where
    go : (y < x) ⊎ (x ≤ y) → x ≤ y
    go (inl a) = let one = mul_mono k (y + 1) x (omega arith) in absurd (omega arith)
    go (inr a) = a

under_between : (rate : ℕ) (ss : List Curve) (lo a b : ℕ) → 0 < a + b → Straight lo (lo + a + b) ss
    → total ss lo ≤ rate * lo → total ss (lo + a + b) ≤ rate * (lo + a + b) → total ss (lo + a) ≤ rate * (lo + a)
under_between rate ss lo a b h x f g =
    let one = total_between ss lo a b x in
    let two = mul_mono b (total ss lo) (rate * lo) f in
    let three = mul_mono a (total ss (lo + a + b)) (rate * (lo + a + b)) g in
    let four = line_through rate lo a b in
    less_product (a + b) (total ss (lo + a)) (rate * (lo + a)) h (omega arith)

under_after : (rate : ℕ) (ss : List Curve) (lo x : ℕ) → Bent lo ss → slopes ss ≤ rate → total ss lo ≤ rate * lo → total ss (lo + x) ≤ rate * (lo + x)
under_after rate ss lo x b h f =
    let one = next_total ss lo x b in
    let two = mul_mono x (slopes ss) rate h in
    omega arith

-- where a moment lies among the bends: after all of some curves, or between two moments without a bend of theirs between
data Spot (rate t : ℕ) (all ss : List Curve) : Type 0 where
  Last : (lo : ℕ) → lo ≤ t → total all lo ≤ rate * lo → Bent lo ss → Spot rate t all ss
  Inside : (lo hi : ℕ) → lo ≤ t → t < hi → total all lo ≤ rate * lo → total all hi ≤ rate * hi → Straight lo hi ss → Spot rate t all ss

bent_more : (lo up : ℕ) (ss : List Curve) → lo ≤ up → Bent lo ss → Bent up ss
bent_more lo up [] h x = tt
bent_more lo up (s ∷ ss) h x = (omega (arith, x.0), bent_more lo up ss h x.1)

straight_fewer : (lo hi up down : ℕ) (ss : List Curve) → lo ≤ up → down ≤ hi → Straight lo hi ss → Straight up down ss
straight_fewer lo hi up down [] h k x = tt
straight_fewer lo hi up down (s ∷ ss) h k x = (go x.0, straight_fewer lo hi up down ss h k x.1)
  where
    go : (s.d ≤ lo) ⊎ (hi ≤ s.d) → (s.d ≤ up) ⊎ (down ≤ s.d)
    go (inl a) = inl (omega arith)
    go (inr a) = inr (omega arith)

bent_straight : (lo hi : ℕ) (ss : List Curve) → Bent lo ss → Straight lo hi ss
bent_straight lo hi [] x = tt
bent_straight lo hi (s ∷ ss) x = (inl x.0, bent_straight lo hi ss x.1)

spot_more : (rate t : ℕ) (all : List Curve) (s : Curve) (ss : List Curve) → total all s.d ≤ rate * s.d → Spot rate t all ss → Spot rate t all (s ∷ ss)
spot_more rate t all s ss u (Last lo a f b) = go (cases_lt t s.d) (cases_lt lo s.d)
  where
    go : (t < s.d) ⊎ (s.d ≤ t) → (lo < s.d) ⊎ (s.d ≤ lo) → Spot rate t all (s ∷ ss)
    go (inl x) y = Inside lo s.d a x f u (inr (omega arith), bent_straight lo s.d ss b)
    go (inr x) (inl y) = Last s.d x u (omega arith, bent_more lo s.d ss (omega arith) b)
    go (inr x) (inr y) = Last lo a f (y, b)
spot_more rate t all s ss u (Inside lo hi a b f g x) = go (cases_lt t s.d) (cases_lt lo s.d) (cases_lt s.d hi)
  where
    go : (t < s.d) ⊎ (s.d ≤ t) → (lo < s.d) ⊎ (s.d ≤ lo) → (s.d < hi) ⊎ (hi ≤ s.d) → Spot rate t all (s ∷ ss)
    go (inl p) q (inl r) = Inside lo s.d a p f u (inr (omega arith), straight_fewer lo hi lo s.d ss (omega arith) (omega arith) x)
    go (inl p) q (inr r) = Inside lo hi a b f g (inr r, x)
    go (inr p) (inl q) r = Inside s.d hi p b u g (inl (omega arith), straight_fewer lo hi s.d hi ss (omega arith) (omega arith) x)
    go (inr p) (inr q) r = Inside lo hi a b f g (inl q, x)

pub total_none : (ss : List Curve) → total ss 0 ≡ 0
total_none [] = refl
total_none (s ∷ ss) =
    let one = sum_by-cons (λ (s : Curve). amount s 0) s ss in
    let two = amount_before s 0 (omega arith) in
    let rest = total_none ss in
    omega arith

spot : (rate t : ℕ) (all ss : List Curve) → UnderAt rate all ss → Spot rate t all ss
spot rate t all [] u = Last 0 (omega arith) (let one = total_none all in omega arith) tt
spot rate t all (s ∷ ss) u = spot_more rate t all s ss u.0 (spot rate t all ss u.1)

under : (rate t : ℕ) (ss : List Curve) → slopes ss ≤ rate → Spot rate t ss ss → total ss t ≤ rate * t
under rate t ss h (Last lo a f b) =
    let sum : lo + (t - lo) ≡ t = omega arith in
    subst (λ (n : ℕ). total ss n ≤ rate * n) sum (under_after rate ss lo (t - lo) b h f)
under rate t ss h (Inside lo hi a b f g x) =
    let sum : lo + (t - lo) ≡ t = omega arith in
    let whole : hi ≡ lo + (t - lo) + (hi - t) = omega arith in
    subst (λ (n : ℕ). total ss n ≤ rate * n) sum
    (under_between rate ss lo (t - lo) (hi - t) (omega arith) (subst (λ (n : ℕ). Straight lo n ss) whole x) f
    (subst (λ (n : ℕ). total ss n ≤ rate * n) whole g))

-- curves fit where their sum is under the line at each bend, and their last slopes together are not above the rate
pub fits_by_bends : (rate : ℕ) (ss : List Curve) → UnderAt rate ss ss → slopes ss ≤ rate → Fits rate ss
fits_by_bends rate ss u h = λ t. under rate t ss h (spot rate t ss ss u)

pub all_bent : (ss : List Curve) → Bent (last_bend ss) ss
all_bent [] = tt
all_bent (s ∷ ss) = (omega arith, bent_more (last_bend ss) (max s.d (last_bend ss)) ss (omega arith) (all_bent ss))
