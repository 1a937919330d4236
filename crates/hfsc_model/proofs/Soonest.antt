-- A head is eligible from its soonest moment on.
use Rattle.std.proofs.Common.{◌≡◌, ℕ, Bool, true, false, List, [], ◌∷◌, None, Some, refl, sym, arith}
use Rattle.std.specs.Prelude.{Option, ◌&&◌, if◌then◌else◌}
use Rattle.std.proofs.lemmas.Bool.Decides.{nat_tests}
use Rattle.service_curve.specs.declared.Curve.{Curve}
use Rattle.service_curve.specs.Moment.{HasCome}
use Rattle.runtime_curve.specs.declared.Opening.{Opening}
use Rattle.runtime_curve.specs.Opening.{eligible_curve}
use Rattle.runtime_curve.specs.Deadline.{reaches, soonest}
use Rattle.runtime_curve.proofs.Reaching.{reaches_true, true_reaches}
use Rattle.runtime_curve.proofs.Early.{soonest_comes, soonest_came}
use Rattle.hfsc_model.specs.Leaf.{Leaf, Waiting, is_waiting}
use Rattle.hfsc_model.specs.RealTime.{has_come, is_eligible, soonest_of, IsOpenBy}

pub come_true : (o : Option ℕ) (t : ℕ) → HasCome o t → has_come o t ≡ true
come_true None t h = absurd h
come_true (Some x) t h = grind (arith, nat_tests, h)

pub true_come : (o : Option ℕ) (t : ℕ) → has_come o t ≡ true → HasCome o t
true_come None t e = absurd cc
true_come (Some x) t e = grind (arith, nat_tests, e)

same_truth : (a b : Bool) → (a ≡ true → b ≡ true) → (b ≡ true → a ≡ true) → a ≡ b
same_truth true true f g = refl
same_truth true false f g = sym (f refl)
same_truth false true f g = g refl
same_truth false false f g = refl

reached_from : (s : Curve) (os : List Opening) (now count : ℕ) → IsOpenBy os now → reaches (eligible_curve s) os now count ≡ has_come (soonest s os count) now
reached_from s [] now count h = sym (come_true (Some 0) now (omega arith))
reached_from s (o ∷ os) now count h =
    same_truth (reaches (eligible_curve s) (o ∷ os) now count) (has_come (soonest s (o ∷ os) count) now)
    (λ e. come_true (soonest s (o ∷ os) count) now (soonest_comes s (o ∷ os) o now count h.0 (reaches_true (eligible_curve s) (o ∷ os) now count e)))
    (λ e. true_reaches (eligible_curve s) (o ∷ os) now count (soonest_came s (o ∷ os) o now count (true_come (soonest s (o ∷ os) count) now e)).1)

waiting_from : (s : Curve) (l : Leaf) (ws : List Waiting) (now : ℕ) → IsOpenBy l.openings now
    → (is_waiting ws && reaches (eligible_curve s) l.openings now l.count) ≡ has_come (if is_waiting ws then soonest s l.openings l.count else None) now
waiting_from s l [] now h = refl
waiting_from s l (w ∷ ws) now h = reached_from s l.openings now l.count h

pub eligible_from_soonest : (o : Option Curve) (l : Leaf) (now : ℕ) → IsOpenBy l.openings now → is_eligible o l now ≡ has_come (soonest_of o l) now
eligible_from_soonest None l now h = refl
eligible_from_soonest (Some s) l now h = waiting_from s l l.waiting now h
