-- What is answered by what is kept, and what may follow it.
use Rattle.std.proofs.Common.{◌≡◌, ◌≤◌, ◌∙◌, ℕ, max, Bool, true, false, List, [], ◌∷◌, Some, refl, ap, sym, subst, arith}
use Rattle.std.proofs.lemmas.Bool.Decides.{nat_tests}
use Rattle.std.specs.Prelude.{nat_le, if◌then◌else◌}
use Rattle.std.specs.declared.option.Option.{Option}
use Rattle.service_curve.specs.declared.Curve.{Curve}
use Rattle.runtime_curve.specs.declared.Opening.{Opening}
use Rattle.runtime_curve.specs.declared.Running.{Running}
use Rattle.runtime_curve.specs.declared.held.HeldOpenings.{HeldOpenings}
use Rattle.runtime_curve.specs.declared.held.Kept.{Kept}
use Rattle.runtime_curve.specs.declared.held.Kept.TheVariants.{One, Three}
use Rattle.runtime_curve.specs.Opening.{eligible_curve, line}
use Rattle.runtime_curve.specs.Deadline.{deadline, from_last, later_of, reaches}
use Rattle.runtime_curve.specs.Held.{IsUpTo, MayFollow, Stand, StandFor, both, held_one, last_held, three}
use Rattle.runtime_curve.specs.Running.{deadline_now, eligible_now, last_of, soonest_now}
use Rattle.runtime_curve.proofs.Reaching.{counted}

-- answers by what is kept are those of the value
pub kept_deadline : (r : Running) (count : ℕ) (k : Kept) (o : Option ℕ) → r.kept ≡ k → o ≡ deadline r.curve (both (three k)) count → o ≡ deadline_now r count
unfolding deadline_now
kept_deadline r count k o is e = e ∙ sym (ap (λ (x : Kept). deadline r.curve (both (three x)) count) is)

pub kept_eligible : (r : Running) (now count : ℕ) (k : Kept) (s : Curve) (b : Bool) → r.kept ≡ k → s ≡ eligible_curve r.curve → b ≡ reaches s (both (three k)) now count
    → b ≡ eligible_now r now count
unfolding eligible_now
kept_eligible r now count k s b is e f =
    f ∙ ap (λ (x : Curve). reaches x (both (three k)) now count) e ∙ sym (ap (λ (x : Kept). reaches (eligible_curve r.curve) (both (three x)) now count) is)

pub kept_soonest : (r : Running) (count : ℕ) (k : Kept) (o : Option ℕ) → r.kept ≡ k
    → o ≡ from_last (last_held (three k)) (deadline (eligible_curve r.curve) (both (three k)) count) → o ≡ soonest_now r count
unfolding soonest_now last_of
kept_soonest r count k o is e =
    e ∙ sym (ap (λ (x : Kept). from_last (last_held (three x)) (deadline (eligible_curve r.curve) (both (three x)) count)) is)

-- one opening allows what it allows twice
twice : (b : Bool) → b ≡ (if b then (if b then true else false) else false)
twice true = refl
twice false = refl

pub one_allows : (s : Curve) (o : Opening) (t count : ℕ) → nat_le count (line s t o) ≡ reaches s (o ∷ o ∷ []) t count
one_allows s o t count = twice (nat_le count (line s t o))

-- what is reached from moment 0 on is reached at the last opening
pub at_last : (t : ℕ) (o : Option ℕ) → o ≡ Some 0 → Some t ≡ later_of o (Some t)
at_last t o e = ap (λ n. Some n) (let same : t ≡ max 0 t = omega arith in same) ∙ sym (ap (λ (x : Option ℕ). later_of x (Some t)) e)

pub one_counted : (s : Curve) (o : Opening) (count : ℕ) → count ≤ o.count → deadline s (o ∷ o ∷ []) count ≡ Some 0
one_counted s o count h = let had : nat_le count o.count ≡ true = grind (arith, nat_tests, h) in counted s o o count had had

-- what may follow what is kept
pub follows_one : (k : Kept) (only new : Opening) → k ≡ One only → MayFollow (three k) new → IsUpTo new only
follows_one k only new is f = f (held_one only) (ap three is)

pub follows_three : (k : Kept) (h : HeldOpenings) (new : Opening) → k ≡ Three h → MayFollow (three k) new → IsUpTo new h.last
follows_three k h new is f = f h (ap three is)

-- and what it stands for
pub stands_one : (s : Curve) (k : Kept) (only : Opening) (os : List Opening) → k ≡ One only → Stand s (three k) os → StandFor s (held_one only) os
stands_one s k only os is x = subst (λ (y : Kept). Stand s (three y) os) is x

pub stands_three : (s : Curve) (k : Kept) (h : HeldOpenings) (os : List Opening) → k ≡ Three h → Stand s (three k) os → StandFor s h os
stands_three s k h os is x = subst (λ (y : Kept). Stand s (three y) os) is x
