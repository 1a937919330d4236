-- From when on a leaf may send.
use Rattle.std.proofs.Common.{◌≡◌, ◌≤◌, ◌*◌, ◌+◌, ◌-◌, ℕ, max, Bool, true, false, List, [], ◌∷◌, None, Some, refl, ap, sym, arith, ◌∙◌}
use Rattle.std.specs.Prelude.{Option, ◌==◌, ◌&&◌, ◌||◌, nat_le, if◌then◌else◌}
use Rattle.std.specs.List.{list_all}
use Rattle.std.proofs.lemmas.Bool.Decides.{nat_tests}
use Rattle.service_curve.specs.declared.Curve.{Curve}
use Rattle.service_curve.specs.Curve.{first, time_at}
use Rattle.runtime_curve.specs.declared.Opening.{Opening}
use Rattle.runtime_curve.specs.Opening.{eligible_curve}
use Rattle.runtime_curve.specs.Deadline.{deadline, later_of, reached_at, shifted, reaches}
use Rattle.runtime_curve.proofs.Reaching.{reaches_true, true_reaches}
use Rattle.runtime_curve.proofs.Deadlines.{deadline_comes, deadline_came}
use Rattle.hfsc_model.specs.declared.HfscClass.{HfscClass}
use Rattle.hfsc_model.specs.Event.{HfscHistory}
use Rattle.hfsc_model.specs.Leaf.{Leaf, leaf, is_waiting}
use Rattle.hfsc_model.specs.Tree.{class_of, is_leaf, path, reals}
use Rattle.hfsc_model.specs.RealTime.{curve_of, has_come, is_eligible}
use Rattle.hfsc_model.specs.Share.{total}
use Rattle.hfsc_model.specs.Limit.{arrivals_of, within, is_within, is_open, may_share}
use Rattle.hfsc_model.specs.Choice.{may_send}
use Rattle.hfsc_model.proofs.Soonest.{come_true, true_come}
use Rattle.hfsc_laws.proofs.Tree.{same_truth, and_true, true_and}
use Rattle.hfsc_policy.specs.Classes.{IsClassTree}
use Rattle.hfsc_policy.specs.Policy.{eligible_from, within_from, open_from, earlier_of, send_from, not_before}

pub reaches_is : (s : Curve) (os : List Opening) (t count : ℕ) → reaches s os t count ≡ has_come (deadline s os count) t
reaches_is s os t count =
    same_truth (reaches s os t count) (has_come (deadline s os count) t)
    (λ e. come_true (deadline s os count) t (deadline_comes s os t count (reaches_true s os t count e)))
    (λ e. true_reaches s os t count (deadline_came s os t count (true_come (deadline s os count) t e)))

and_false : (b : Bool) → (b && false) ≡ false
and_false true = refl
and_false false = refl

or_false : (b : Bool) → (b || false) ≡ b
or_false true = refl
or_false false = refl

later_come : (a b : Option ℕ) (t : ℕ) → has_come (later_of a b) t ≡ (has_come a t && has_come b t)
later_come None b t = refl
later_come (Some x) None t = sym (and_false (nat_le x t))
later_come (Some x) (Some y) t =
    same_truth (nat_le (max x y) t) (nat_le x t && nat_le y t)
    (λ e. true_and (nat_le x t) (nat_le y t) (grind (arith, nat_tests, e)) (grind (arith, nat_tests, e)))
    (λ e. let b = and_true (nat_le x t) (nat_le y t) e in grind (arith, nat_tests, b.0, b.1))

pub earlier_come : (a b : Option ℕ) (t : ℕ) → has_come (earlier_of a b) t ≡ (has_come a t || has_come b t)
earlier_come None b t = refl
earlier_come (Some x) None t = sym (or_false (nat_le x t))
earlier_come (Some x) (Some y) t = go (nat_le x t) refl (nat_le y t) refl
  where
    go : (b : Bool) → nat_le x t ≡ b → (d : Bool) → nat_le y t ≡ d → has_come (earlier_of (Some x) (Some y)) t ≡ (b || d)
    go true e d f = grind (arith, nat_tests, e)
    go false e true f = grind (arith, nat_tests, f)
    go false e false f = grind (arith, nat_tests, e, f)

within_is : (o : Option Curve) (os : List Opening) (now u : ℕ) → within o os now u ≡ has_come (within_from o os u) now
within_is None os now u = grind (arith, nat_tests)
within_is (Some s) os now u = reaches_is s os now u

open_is : (cs : List HfscClass) (h : HfscHistory) (now : ℕ) (up : List ℕ) → list_all (is_within cs h now) up ≡ has_come (open_from cs h up) now
open_is cs h now [] = grind (arith, nat_tests)
open_is cs h now (c ∷ up) =
    let rest = open_is cs h now up in
    ap (λ b. b && list_all (is_within cs h now) up) (within_is (class_of cs c).limit (arrivals_of cs h c) now (total cs h c))
    ∙ ap (λ b. has_come (within_from (class_of cs c).limit (arrivals_of cs h c) (total cs h c)) now && b) rest
    ∙ sym (later_come (within_from (class_of cs c).limit (arrivals_of cs h c) (total cs h c)) (open_from cs h up) now)

eligible_is : (o : Option Curve) (l : Leaf) (now : ℕ) → is_waiting l.waiting ≡ true → is_eligible o l now ≡ has_come (eligible_from o l) now
eligible_is None l now w = refl
eligible_is (Some s) l now w = rw w (reaches_is (eligible_curve s) l.openings now l.count)

share_is : (a b c : Bool) → a ≡ true → b ≡ true → (a && (b && c)) ≡ c
share_is a b c e f = rw e (rw f refl)

-- a leaf in which a packet waits may send exactly from its moment on
pub send_is : (cs : List HfscClass) (h : HfscHistory) (now c : ℕ) → is_leaf cs c ≡ true → is_waiting (leaf h c).waiting ≡ true
    → may_send cs h now c ≡ has_come (send_from cs h c) now
send_is cs h now c l w =
    ap (λ b. b || may_share cs h now c) (eligible_is (curve_of (reals cs) c) (leaf h c) now w)
    ∙ ap (λ b. has_come (eligible_from (curve_of (reals cs) c) (leaf h c)) now || b)
    (share_is (is_leaf cs c) (is_waiting (leaf h c).waiting) (is_open cs h now c) l w ∙ open_is cs h now (path cs c))
    ∙ sym (earlier_come (eligible_from (curve_of (reals cs) c) (leaf h c)) (open_from cs h (path cs c)) now)

-- and there is one, as limits rise without end
pub record IsThere (o : Option ℕ) : Type 0 where
  pub value : ℕ
  pub is : o ≡ Some value

first_there : (s : Curve) (wanted : ℕ) → 1000 ≤ s.m2 → IsThere (first s wanted)
first_there s wanted p = go (nat_le wanted (s.m1 * s.d)) (s.m2 == 0) refl
  where
    go : (b z : Bool) → (s.m2 == 0) ≡ z
        → IsThere (if b then Some (time_at s.m1 wanted) else if z then None else Some (s.d + time_at s.m2 (wanted - s.m1 * s.d)))
    go true z e = record { value = time_at s.m1 wanted; is = refl }
    go false true e = absurd (grind (arith, nat_tests, e, p))
    go false false e = record { value = s.d + time_at s.m2 (wanted - s.m1 * s.d); is = refl }

shifted_there : (at : ℕ) (o : Option ℕ) → IsThere o → IsThere (shifted at o)
shifted_there at None x = let no = x.is in absurd cc
shifted_there at (Some t) x = record { value = at + t; is = refl }

reached_there : (s : Curve) (o : Opening) (count : ℕ) → 1000 ≤ s.m2 → IsThere (reached_at s o count)
reached_there s o count p = go (nat_le count o.count)
  where
    go : (b : Bool) → IsThere (if b then Some 0 else shifted o.at (first s (count - o.count)))
    go true = record { value = 0; is = refl }
    go false = shifted_there o.at (first s (count - o.count)) (first_there s (count - o.count) p)

later_there : (a b : Option ℕ) → IsThere a → IsThere b → IsThere (later_of a b)
later_there None b x y = let no = x.is in absurd cc
later_there (Some u) None x y = let no = y.is in absurd cc
later_there (Some u) (Some v) x y = record { value = max u v; is = refl }

deadline_there : (s : Curve) (os : List Opening) (count : ℕ) → 1000 ≤ s.m2 → IsThere (deadline s os count)
deadline_there s [] count p = record { value = 0; is = refl }
deadline_there s (o ∷ os) count p = later_there (reached_at s o count) (deadline s os count) (reached_there s o count p) (deadline_there s os count p)

within_there : (o : Option Curve) (os : List Opening) (u : ℕ) → ((s : Curve) → o ≡ Some s → 1000 ≤ s.m2) → IsThere (within_from o os u)
within_there None os u f = record { value = 0; is = refl }
within_there (Some s) os u f = deadline_there s os u (f s refl)

open_there : (cs : List HfscClass) (h : HfscHistory) (up : List ℕ) → IsClassTree cs → IsThere (open_from cs h up)
open_there cs h [] k = record { value = 0; is = refl }
open_there cs h (c ∷ up) k =
    later_there (within_from (class_of cs c).limit (arrivals_of cs h c) (total cs h c)) (open_from cs h up)
    (within_there (class_of cs c).limit (arrivals_of cs h c) (total cs h c) (λ s e. (k.limits c s e).second)) (open_there cs h up k)

earlier_there : (a b : Option ℕ) → IsThere b → IsThere (earlier_of a b)
earlier_there None b x = x
earlier_there (Some u) None x = let no = x.is in absurd cc
earlier_there (Some u) (Some v) x = record { value = _; is = refl }

pub send_there : (cs : List HfscClass) (h : HfscHistory) (c : ℕ) → IsClassTree cs → IsThere (send_from cs h c)
send_there cs h c k =
    earlier_there (eligible_from (curve_of (reals cs) c) (leaf h c)) (open_from cs h (path cs c)) (open_there cs h (path cs c) k)

pub from_come : (o : Option ℕ) (t : ℕ) → IsThere o → has_come o (not_before t o) ≡ true
from_come None t x = let no = x.is in absurd cc
from_come (Some u) t x = grind (arith, nat_tests)

pub from_least : (o : Option ℕ) (t u : ℕ) → t ≤ u → has_come o u ≡ true → not_before t o ≤ u
from_least None t u l e = absurd cc
from_least (Some v) t u l e = grind (arith, nat_tests, l, e)

pub from_later : (o : Option ℕ) (t : ℕ) → t ≤ not_before t o
from_later None t = omega arith
from_later (Some u) t = omega arith

-- a moment that is its own answer has come
pub come_at : (o : Option ℕ) (t : ℕ) → IsThere o → not_before t o ≡ t → has_come o t ≡ true
come_at None t x e = let no = x.is in absurd cc
come_at (Some u) t x e = grind (arith, nat_tests, e)

pub at_come : (o : Option ℕ) (t : ℕ) → has_come o t ≡ true → not_before t o ≡ t
at_come None t e = absurd cc
at_come (Some u) t e = grind (arith, nat_tests, e)
