-- What holds where the sum is above at no breakpoint.
use Rattle.std.proofs.Common.{◌≡◌, ◌≤◌, ◌<◌, ◌+◌, ◌-◌, ◌*◌, ◌/◌, ◌%◌, ◌⊎◌, inl, inr, ℕ, List, [], ◌∷◌, refl, ap, subst, sym, arith}
use Rattle.std.specs.Prelude.{None}
use Rattle.std.proofs.lemmas.Bool.{cases_lt}
use Rattle.std.proofs.lemmas.Nat.{div_below}
use Rattle.service_curve.specs.declared.Curve.{Curve}
use Rattle.service_curve.specs.Moment.{IsFirst}
use Rattle.admission.specs.Fit.{Fits, total, IsAbove, IsBend, IsBendAbove, IsPastAbove, IsExcess}
use Rattle.admission.specs.Bends.{last_bend, slopes}
use Rattle.admission.proofs.Breakpoints.{last_bend_is, bend_by_last}
use Rattle.admission.proofs.Between.{UnderAt, next_total, all_bent, total_none, fits_by_bends}

-- then it is under the line at each bend
under_at : (rate : ℕ) (all : List Curve) (s : Curve) → ((t : ℕ) → IsBend all t → IsAbove rate all t → ⊥) → (0 < s.d → IsBend all s.d)
    → total all s.d ≤ rate * s.d
under_at rate all s none bend = go (cases_lt (rate * s.d) (total all s.d)) (cases_lt 0 s.d)
  where
    go : (rate * s.d < total all s.d) ⊎ (total all s.d ≤ rate * s.d) → (0 < s.d) ⊎ (s.d ≤ 0) → total all s.d ≤ rate * s.d
    go (inr a) b = a
    go (inl a) (inl b) = absurd (none s.d (bend b) a)
    go (inl a) (inr b) =
        let zero_bend : s.d ≡ 0 = omega arith in
        let one = ap (λ n. total all n) zero_bend in
        let two = total_none all in
        omega arith

under_each : (rate : ℕ) (all some : List Curve) → ((t : ℕ) → IsBend all t → IsAbove rate all t → ⊥) → ((t : ℕ) → IsBend some t → IsBend all t)
    → UnderAt rate all some
under_each rate all [] none into = tt
under_each rate all (s ∷ ss) none into =
    (under_at rate all s none (λ h. into s.d (inl (refl, h))), under_each rate all ss none (λ t b. into t (inr b)))

none_above : (rate : ℕ) (ss : List Curve) → IsFirst (IsBendAbove rate ss) None → (t : ℕ) → IsBend ss t → IsAbove rate ss t → ⊥
none_above rate ss none t b a = none t (record { bend = b; above = a })

-- the curves fit if their last slopes together are not above the rate
pub fits_past_bends : (rate : ℕ) (ss : List Curve) → IsFirst (IsBendAbove rate ss) None → slopes ss ≤ rate → Fits rate ss
fits_past_bends rate ss none h = fits_by_bends rate ss (under_each rate ss ss (none_above rate ss none) (λ t b. b)) h

-- there is room, or none, at the last breakpoint
pub room_at_last : (rate : ℕ) (ss : List Curve) → IsFirst (IsBendAbove rate ss) None → total ss (last_bend ss) ≤ rate * last_bend ss
room_at_last rate ss none = go (last_bend_is ss) (cases_lt (rate * last_bend ss) (total ss (last_bend ss)))
  where
    go : (last_bend ss ≡ 0) ⊎ IsBend ss (last_bend ss) → (rate * last_bend ss < total ss (last_bend ss)) ⊎ (total ss (last_bend ss) ≤ rate * last_bend ss)
        → total ss (last_bend ss) ≤ rate * last_bend ss
    go b (inr a) = a
    go (inr b) (inl a) = absurd (none_above rate ss none (last_bend ss) b a)
    go (inl b) (inl a) = let one = ap (λ n. total ss n) b in let two = total_none ss in omega arith

-- after x nanoseconds the room is smaller by x times the loss
room_after : (rate last low high room loss slope x : ℕ) → low ≤ rate * last → room ≡ rate * last - low → slope ≡ rate + loss
    → high ≡ low + slope * x → rate * (last + x) + loss * x ≡ high + room
room_after rate last low high room loss slope x h r e f = let one = ap (λ n. n * x) e in omega arith

-- a quotient and its rest
used_up : (room loss : ℕ) → 0 < loss → room < loss * (room / loss + 1)
used_up room loss h = omega arith

rest_of : (room loss : ℕ) → 0 < loss → loss * (room / loss + 1) ≡ room + (loss - room % loss)
rest_of room loss h = omega arith

rest_some : (room loss : ℕ) → 0 < loss → 0 < loss - room % loss
rest_some room loss h = omega arith

first_used : (room loss x : ℕ) → 0 < loss → room < loss * x → room / loss + 1 ≤ x
first_used room loss x h k = let one : room < x * loss = omega arith in let two = div_below room loss x h one in omega arith

-- a moment past all breakpoints is not before the last
past_is_after : (rate : ℕ) (ss : List Curve) (t : ℕ) → IsPastAbove rate ss t → last_bend ss ≤ t
past_is_after rate ss t p = go (last_bend_is ss)
  where
    go : (last_bend ss ≡ 0) ⊎ IsBend ss (last_bend ss) → last_bend ss ≤ t
    go (inl b) = omega arith
    go (inr b) = let one = p.past (last_bend ss) b in omega arith

-- where the last slopes together are above the rate
pub excess_past_bends : (rate : ℕ) (ss : List Curve) (room loss : ℕ) → IsFirst (IsBendAbove rate ss) None → rate < slopes ss
    → room ≡ rate * last_bend ss - total ss (last_bend ss) → loss ≡ slopes ss - rate
    → IsExcess rate ss (last_bend ss + (room / loss + 1)) (loss - room % loss)
excess_past_bends rate ss room loss none h r l = record {
  moment = inr (none, (record { past = past; after = omega arith; above = above }, least));
  amount = amount_is;
  some = rest_some room loss some_loss;
}
  where
    some_loss : 0 < loss
    some_loss = omega arith

    after : (x : ℕ) → rate * (last_bend ss + x) + loss * x ≡ total ss (last_bend ss + x) + room
    after x =
        room_after rate (last_bend ss) (total ss (last_bend ss)) (total ss (last_bend ss + x)) room loss (slopes ss) x
        (room_at_last rate ss none) r (omega arith) (next_total ss (last_bend ss) x (all_bent ss))

    past : (u : ℕ) → IsBend ss u → u < last_bend ss + (room / loss + 1)
    past u b = let one = bend_by_last ss u b in omega arith

    above : IsAbove rate ss (last_bend ss + (room / loss + 1))
    above = let one = after (room / loss + 1) in let two = used_up room loss some_loss in omega (arith, one, two)

    least : (t : ℕ) → IsPastAbove rate ss t → last_bend ss + (room / loss + 1) ≤ t
    least t p =
        let late = past_is_after rate ss t p in
        let sum : last_bend ss + (t - last_bend ss) ≡ t = omega arith in
        let there = subst (λ (n : ℕ). IsAbove rate ss n) (sym sum) p.above in
        let one = after (t - last_bend ss) in
        let used : room < loss * (t - last_bend ss) = omega (arith, one, there) in
        let two = first_used room loss (t - last_bend ss) some_loss used in
        omega (arith, late, two)

    amount_is : rate * (last_bend ss + (room / loss + 1)) + (loss - room % loss) ≡ total ss (last_bend ss + (room / loss + 1))
    amount_is = let one = after (room / loss + 1) in let two = rest_of room loss some_loss in omega (arith, one, two)

-- the same with what the code keeps
pub excess_computed : (rate : ℕ) (ss : List Curve) (last low slope : ℕ) → last ≡ last_bend ss → low ≡ total ss last → slope ≡ slopes ss
    → IsFirst (IsBendAbove rate ss) None → rate < slope
    → IsExcess rate ss (last + ((rate * last - low) / (slope - rate) + 1)) (slope - rate - (rate * last - low) % (slope - rate))
excess_computed rate ss last low slope e f g none h =
    subst (λ (l : ℕ). low ≡ total ss l → IsExcess rate ss (l + ((rate * l - low) / (slope - rate) + 1)) (slope - rate - (rate * l - low) % (slope - rate)))
    (sym e)
    (λ f. excess_past_bends rate ss (rate * last_bend ss - low) (slope - rate) none (omega arith)
    (ap (λ n. rate * last_bend ss - n) f) (ap (λ n. n - rate) g)) f

pub excess_is_no_fit : (rate : ℕ) (ss : List Curve) (at by : ℕ) → IsExcess rate ss at by → Fits rate ss → ⊥
excess_is_no_fit rate ss at by x f = let one = f at in let two = x.amount in let three = x.some in omega arith
