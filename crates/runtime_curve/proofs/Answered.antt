-- The answers of a value are those over all openings that it stands for.
use Rattle.std.proofs.Common.{◌≡◌, ◌≤◌, ◌<◌, ℕ, List, ◌∷◌, None, Some, ap, sym, subst, rules, ◌∙◌}
use Rattle.std.specs.Prelude.{◌↔◌, IsTrue, IsSome, IsSomeAnd}
use Rattle.std.specs.Option.{ForSome}
use Rattle.std.specs.declared.option.Option.{Option}
use Rattle.service_curve.specs.declared.Curve.{Curve}
use Rattle.service_curve.specs.Moment.{IsFirst}
use Rattle.runtime_curve.specs.declared.Opening.{Opening}
use Rattle.runtime_curve.specs.declared.Running.{Running}
use Rattle.runtime_curve.specs.declared.held.HeldOpenings.{HeldOpenings}
use Rattle.runtime_curve.specs.Opening.{RisesFromZero, least_over, IsAtLeast, eligible_curve, IsFrom}
use Rattle.runtime_curve.specs.Deadline.{deadline, reaches, from_last, soonest}
use Rattle.runtime_curve.specs.Held.{Stand, AreUpTo, MayFollow, both, last_held, three}
use Rattle.runtime_curve.specs.Running.{Represents, last_of, deadline_now, eligible_now, soonest_now}
use Rattle.runtime_curve.proofs.Reaching.{reaches_least}
use Rattle.runtime_curve.proofs.Deadlines.{deadline_is_first}
use Rattle.runtime_curve.proofs.TwoLines.{two_deadline}
use Rattle.runtime_curve.proofs.Early.{two_eligible, two_soonest, soonest_is_first}

held_deadline : (s : Curve) (o : Option HeldOpenings) (os : List Opening) (count : ℕ) → RisesFromZero s → Stand s o os
    → IsSomeAnd (last_held o) (λ last. last.count < count) → deadline s (both o) count ≡ deadline s os count
held_deadline s None os count k stands past = absurd past
held_deadline s (Some h) os count k stands past = two_deadline s h os count k stands past

held_eligible : (s : Curve) (o : Option HeldOpenings) (os : List Opening) (now count : ℕ) → Stand s o os
    → IsSomeAnd (last_held o) (λ last. last.at ≤ now) → reaches (eligible_curve s) (both o) now count ≡ reaches (eligible_curve s) os now count
held_eligible s None os now count stands past = absurd past
held_eligible s (Some h) os now count stands past = two_eligible s h os now count stands past

held_soonest : (s : Curve) (o : Option HeldOpenings) (os : List Opening) (count : ℕ) → Stand s o os → IsSome (last_held o)
    → from_last (last_held o) (deadline (eligible_curve s) (both o) count) ≡ soonest s os count
held_soonest s None os count stands past = absurd (search rules)
held_soonest s (Some h) os count stands past = two_soonest s h os count stands

-- the answers by value are those over all openings
pub deadline_stands : (r : Running) (s : Curve) (os : List Opening) (count : ℕ) → Represents r s os
    → IsSomeAnd (last_of r) (λ last. last.count < count) → deadline_now r count ≡ deadline s os count
unfolding last_of deadline_now
deadline_stands r s os count stands past =
    subst (λ (c : Curve). deadline c (both (three r.kept)) count ≡ deadline s os count) (sym stands.curve)
    (held_deadline s (three r.kept) os count (subst RisesFromZero stands.curve r.slopes) stands.held past)

pub eligible_stands : (r : Running) (s : Curve) (os : List Opening) (now count : ℕ) → Represents r s os
    → IsSomeAnd (last_of r) (λ last. last.at ≤ now) → eligible_now r now count ≡ reaches (eligible_curve s) os now count
unfolding last_of eligible_now
eligible_stands r s os now count stands past =
    subst (λ (c : Curve). reaches (eligible_curve c) (both (three r.kept)) now count ≡ reaches (eligible_curve s) os now count) (sym stands.curve)
    (held_eligible s (three r.kept) os now count stands.held past)

pub soonest_stands : (r : Running) (s : Curve) (os : List Opening) (count : ℕ) → Represents r s os
    → IsSome (last_of r) → soonest_now r count ≡ soonest s os count
unfolding last_of soonest_now
soonest_stands r s os count stands past =
    subst (λ (c : Curve). from_last (last_held (three r.kept)) (deadline (eligible_curve c) (both (three r.kept)) count) ≡ soonest s os count) (sym stands.curve)
    (held_soonest s (three r.kept) os count stands.held past)

-- and so they are the first moment, and the truth
pub deadline_now_first : (r : Running) (s : Curve) (os : List Opening) (count : ℕ) → Represents r s os
    → IsSomeAnd (last_of r) (λ last. last.count < count) → IsFirst (λ t. IsAtLeast (least_over s os t) count) (deadline_now r count)
deadline_now_first r s os count stands past =
    subst (λ (o : Option ℕ). IsFirst (λ t. IsAtLeast (least_over s os t) count) o) (sym (deadline_stands r s os count stands past))
    (deadline_is_first s os count)

pub soonest_now_first : (r : Running) (s : Curve) (os : List Opening) (count : ℕ) → Represents r s os
    → IsSome (last_of r) → IsFirst (λ t. IsFrom os t × IsAtLeast (least_over (eligible_curve s) os t) count) (soonest_now r count)
soonest_now_first r s os count stands past =
    subst (λ (o : Option ℕ). IsFirst (λ t. IsFrom os t × IsAtLeast (least_over (eligible_curve s) os t) count) o)
    (sym (soonest_stands r s os count stands past)) (soonest_is_first s os count)

pub eligible_now_true : (r : Running) (s : Curve) (os : List Opening) (now count : ℕ) → Represents r s os
    → IsSomeAnd (last_of r) (λ last. last.at ≤ now) → IsTrue (eligible_now r now count) ↔ IsAtLeast (least_over (eligible_curve s) os now) count
eligible_now_true r s os now count stands past =
    subst (λ b. IsTrue b ↔ IsAtLeast (least_over (eligible_curve s) os now) count) (sym (eligible_stands r s os now count stands past))
    (reaches_least (eligible_curve s) os now count)

-- one opening more
pub may_follow : (o : Option HeldOpenings) (new : Opening) → ForSome (last_held o) (λ last. (last.at ≤ new.at) × (last.count ≤ new.count)) → MayFollow o new
may_follow o new later = λ h e. let last = later h.last (ap last_held e) in record { at = last.0; count = last.1 }

-- what is kept stands for the openings by the curve that is kept
pub kept_stands : (r : Running) (s : Curve) (os : List Opening) → Represents r s os → Stand r.curve (three r.kept) os
kept_stands r s os stands = subst (λ (c : Curve). Stand c (three r.kept) os) (sym stands.curve) stands.held

stood : (s : Curve) (k : Option HeldOpenings) (o : Opening) (os : List Opening) → last_held k ≡ Some o → Stand s k os → AreUpTo o os
stood s None o os e x = absurd cc
stood s (Some h) o os e x = let same : h.last ≡ o = cc in subst (λ (y : Opening). AreUpTo y os) same x.up_to

pub begun_stands : (old new : Running) (s : Curve) (os : List Opening) (o : Opening) → Represents old s os → new.curve ≡ old.curve
    → last_held (three new.kept) ≡ Some o → Stand s (three new.kept) (o ∷ os) → Represents new s (o ∷ os)
unfolding last_of
begun_stands old new s os o stands same last for = record {
  curve = same ∙ stands.curve;
  last = last;
  up_to = stood s (three new.kept) o (o ∷ os) last for;
  held = for;
}
