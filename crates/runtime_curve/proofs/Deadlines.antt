-- The computed deadline is the first moment up to which the least over all openings reaches the count.
use Rattle.std.proofs.Common.{◌≡◌, ◌≤◌, ◌<◌, ◌-◌, ℕ, max, Bool, true, false, List, [], ◌∷◌, refl, ap, arith}
use Rattle.std.proofs.lemmas.Bool.Decides.{nat_tests}
use Rattle.std.specs.Prelude.{nat_le, if◌then◌else◌, ◌↔◌, Option, None, Some}
use Rattle.service_curve.specs.declared.Curve.{Curve}
use Rattle.service_curve.specs.Curve.{amount, first}
use Rattle.service_curve.specs.Moment.{IsFirst, HasCome}
use Rattle.service_curve.proofs.Amounts.{time_passed}
use Rattle.service_curve.proofs.Firsts.{first_comes, first_reaches, first_of}
use Rattle.runtime_curve.specs.declared.Opening.{Opening}
use Rattle.runtime_curve.specs.Opening.{line, least_over, IsAtLeast, Reaches}
use Rattle.runtime_curve.specs.Deadline.{later_of, shifted, reached_at, deadline}
use Rattle.runtime_curve.specs.Lines.{allows_by}
use Rattle.runtime_curve.proofs.Reaching.{least_reaches, least_reached}

pub later_comes : (a b : Option ℕ) (t : ℕ) → HasCome a t → HasCome b t → HasCome (later_of a b) t
later_comes None b t x y = absurd x
later_comes (Some a) None t x y = absurd y
later_comes (Some a) (Some b) t x y = omega arith

pub later_came : (a b : Option ℕ) (t : ℕ) → HasCome (later_of a b) t → HasCome a t × HasCome b t
later_came None b t x = absurd x
later_came (Some a) None t x = absurd x
later_came (Some a) (Some b) t x = (omega arith, omega arith)

shifted_comes : (at : ℕ) (o : Option ℕ) (t : ℕ) → at ≤ t → HasCome o (t - at) → HasCome (shifted at o) t
shifted_comes at None t h x = x
shifted_comes at (Some u) t h x = omega arith

shifted_came : (at : ℕ) (o : Option ℕ) (t : ℕ) → HasCome (shifted at o) t → HasCome o (t - at)
shifted_came at None t x = x
shifted_came at (Some u) t x = omega arith

-- one opening
line_comes : (s : Curve) (o : Opening) (t count : ℕ) → count ≤ line s t o → HasCome (reached_at s o count) t
line_comes s o t count h = go (nat_le count o.count) refl
  where
    go : (b : Bool) → nat_le count o.count ≡ b → HasCome (if b then Some 0 else shifted o.at (first s (count - o.count))) t
    go true e = omega arith
    go false e =
        let past : o.count < count = grind (arith, e) in
        let given : count - o.count ≤ amount s (t - o.at) = omega arith in
        let came = first_comes s (count - o.count) (t - o.at) given in
        let open_before = time_passed s o.at t (omega arith) in
        shifted_comes o.at (first s (count - o.count)) t (omega arith) came

line_came : (s : Curve) (o : Opening) (t count : ℕ) → HasCome (reached_at s o count) t → count ≤ line s t o
line_came s o t count = go (nat_le count o.count) refl
  where
    go : (b : Bool) → nat_le count o.count ≡ b → HasCome (if b then Some 0 else shifted o.at (first s (count - o.count))) t → count ≤ line s t o
    go true e h = let low : count ≤ o.count = grind (arith, e) in omega arith
    go false e h = let came = first_reaches s (count - o.count) (t - o.at) (shifted_came o.at (first s (count - o.count)) t h) in omega arith

-- all openings
pub deadline_comes : (s : Curve) (os : List Opening) (t count : ℕ) → Reaches s os t count → HasCome (deadline s os count) t
deadline_comes s [] t count r = omega arith
deadline_comes s (o ∷ os) t count r =
    later_comes (reached_at s o count) (deadline s os count) t (line_comes s o t count r.0) (deadline_comes s os t count r.1)

pub deadline_came : (s : Curve) (os : List Opening) (t count : ℕ) → HasCome (deadline s os count) t → Reaches s os t count
deadline_came s [] t count h = tt
deadline_came s (o ∷ os) t count h =
    let both = later_came (reached_at s o count) (deadline s os count) t h in
    (line_came s o t count both.0, deadline_came s os t count both.1)

pub deadline_is_for_each : (s : Curve) (os : List Opening) (t count : ℕ) → HasCome (deadline s os count) t ↔ Reaches s os t count
deadline_is_for_each s os t count = (deadline_came s os t count, deadline_comes s os t count)

pub deadline_is_first : (s : Curve) (os : List Opening) (count : ℕ) → IsFirst (λ t. IsAtLeast (least_over s os t) count) (deadline s os count)
deadline_is_first s os count =
    first_of (λ t. IsAtLeast (least_over s os t) count) (deadline s os count)
    (λ t r. deadline_comes s os t count (least_reached s os t count r))
    (λ t h. least_reaches s os t count (deadline_came s os t count h))

-- of two openings, where the first allows a count by the moment of the second, that moment is the deadline
pub second_is_later : (s : Curve) (one other : Opening) (count : ℕ) → allows_by s one (reached_at s other count) count ≡ true
    → reached_at s other count ≡ deadline s (one ∷ other ∷ []) count
second_is_later s one other count = go (reached_at s other count)
  where
    of_first : (t : ℕ) (o : Option ℕ) → HasCome o t → Some t ≡ later_of o (Some (max t 0))
    of_first t None x = absurd x
    of_first t (Some u) x = ap (λ n. Some n) (let e : t ≡ max u (max t 0) = omega arith in e)

    go : (o : Option ℕ) → allows_by s one o count ≡ true → o ≡ later_of (reached_at s one count) (later_of o (Some 0))
    go None e = absurd cc
    go (Some t) e =
        let given : count ≤ line s t one = grind (arith, nat_tests, e) in
        of_first t (reached_at s one count) (line_comes s one t count given)
