-- What bounds a leaf's real-time count at a moment t, from a moment `now` on at which it was `base`.
use Rattle.std.proofs.Common.{◌≡◌, ◌≤◌, ◌<◌, ◌+◌, ◌-◌, ◌⊎◌, inl, inr, ℕ, Bool, true, false, List, [], ◌∷◌, None, Some, refl, sym, subst, arith}
use Rattle.std.specs.Prelude.{Option, ◌&&◌}
use Rattle.std.proofs.lemmas.Bool.{cases_lt}
use Rattle.play_base.specs.Units.{units}
use Rattle.service_curve.specs.declared.Curve.{Curve}
use Rattle.service_curve.specs.Curve.{amount}
use Rattle.service_curve.proofs.Amounts.{amount_mono, time_passed}
use Rattle.runtime_curve.specs.declared.Opening.{Opening}
use Rattle.runtime_curve.specs.Opening.{Reaches, eligible_curve}
use Rattle.runtime_curve.specs.Deadline.{deadline, reaches}
use Rattle.runtime_curve.proofs.Deadlines.{deadline_comes, deadline_came}
use Rattle.hfsc_model.specs.Leaf.{Leaf, Waiting, after_kept, after_sent, is_waiting, new_leaf}
use Rattle.hfsc_model.specs.RealTime.{deadline_of, has_come, head_deadline, is_eligible}
use Rattle.hfsc_model.specs.Timely.{IsHead, amount_of}
use Rattle.hfsc_model.proofs.Soonest.{come_true, true_come}
use Rattle.hfsc_laws.proofs.Openings.{reaches_less, early_most}

-- the openings of a class with a curve allow up to t at most this count
abbrev pub AllowAtMost : Option Curve → List Opening → ℕ → ℕ → Type 0
AllowAtMost None os t most = ⊥
AllowAtMost (Some s) os t most = (x : ℕ) → Reaches s os t x → x ≤ most

-- no head has a deadline that came by t, and none was sent by real time since; or the openings bound the leaf
pub data Bounded (o : Option Curve) (t now base : ℕ) (l : Leaf) : Type 0 where
  NotDue : has_come (head_deadline o l) t ≡ false → l.count ≡ base → Bounded o t now base l
  ByOpenings : AllowAtMost o l.openings t (base + amount_of o (t - now)) → Bounded o t now base l

pub record Standing (o : Option Curve) (t now base : ℕ) (l : Leaf) : Type 0 where
  pub grown : base ≤ l.count
  pub within : l.count ≤ base + amount_of o (t - now)
  pub bounded : Bounded o t now base l

pub stands : (o : Option Curve) (t now : ℕ) (l : Leaf) → Bounded o t now l.count l → Standing o t now l.count l
stands o t now l x = record { grown = omega arith; within = omega arith; bounded = x }

pub new_stands : (o : Option Curve) (t now : ℕ) → Standing o t now 0 new_leaf
new_stands None t now = stands None t now new_leaf (NotDue refl refl)
new_stands (Some s) t now = stands (Some s) t now new_leaf (NotDue refl refl)

abbrev leaf_of : List Waiting → ℕ → List Opening → Leaf
leaf_of ws count os = record { waiting = ws; count = count; openings = os }

-- a leaf that opens is bounded from then on
opened_most : (s : Curve) (t now at count x : ℕ) → now ≤ at → x ≤ count + amount s (t - at) → x ≤ count + amount s (t - now)
opened_most s t now at count x h k = let one = amount_mono s (t - at) (t - now) (omega arith) in omega arith

kept_parts : (o : Option Curve) (t now base at len : ℕ) (ws : List Waiting) (count : ℕ) (os : List Opening) → now ≤ at
    → Bounded o t now base (leaf_of ws count os) → Bounded o t now base (after_kept at len (leaf_of ws count os))
kept_parts None t now base at len ws count os h (NotDue e c) = NotDue refl c
kept_parts None t now base at len ws count os h (ByOpenings f) = absurd f
kept_parts (Some s) t now base at len [] count os h (NotDue e c) = ByOpenings (λ x r. let one = opened_most s t now at count x h r.0 in omega arith)
kept_parts (Some s) t now base at len (w ∷ ws) count os h (NotDue e c) = NotDue e c
kept_parts (Some s) t now base at len [] count os h (ByOpenings f) = ByOpenings (λ x r. f x r.1)
kept_parts (Some s) t now base at len (w ∷ ws) count os h (ByOpenings f) = ByOpenings f

pub kept_standing : (o : Option Curve) (t now base at len : ℕ) (l : Leaf) → now ≤ at → Standing o t now base l → Standing o t now base (after_kept at len l)
kept_standing o t now base at len l h x = record {
  grown = x.grown;
  within = x.within;
  bounded = kept_parts o t now base at len l.waiting l.count l.openings h x.bounded;
}

-- by the deadline of a head its openings allow the count with it
due_reaches : (s : Curve) (l : Leaf) (ws : List Waiting) (t len : ℕ) → IsHead ws len → has_come (deadline_of s l ws) t ≡ true → Reaches s l.openings t (l.count + units len)
due_reaches s l [] t len h e = absurd h
due_reaches s l (w ∷ ws) t len h e =
    subst (λ n. Reaches s l.openings t (l.count + units n)) h
    (deadline_came s l.openings t (l.count + units w.len) (true_come (deadline s l.openings (l.count + units w.len)) t e))

pub reaches_due : (s : Curve) (l : Leaf) (ws : List Waiting) (t len : ℕ) → IsHead ws len → Reaches s l.openings t (l.count + units len) → has_come (deadline_of s l ws) t ≡ true
reaches_due s l [] t len h r = absurd h
reaches_due s l (w ∷ ws) t len h r =
    come_true (deadline s l.openings (l.count + units w.len)) t
    (deadline_comes s l.openings t (l.count + units w.len) (subst (λ n. Reaches s l.openings t (l.count + units n)) (sym h) r))

-- after a sending by real time whose deadline has come by t
pub due_standing : (o : Option Curve) (t now base len : ℕ) (l : Leaf) → IsHead l.waiting len → has_come (head_deadline o l) t ≡ true
    → Standing o t now base l → Standing o t now base (after_sent len true l)
due_standing None t now base len l h e x = absurd cc
due_standing (Some s) t now base len l h e x = go x.bounded
  where
    go : Bounded (Some s) t now base l → Standing (Some s) t now base (after_sent len true l)
    go (NotDue n c) = absurd cc
    go (ByOpenings f) = record {
      grown = omega (arith, x.grown);
      within = f (l.count + units len) (due_reaches s l l.waiting t len h e);
      bounded = ByOpenings f;
    }

-- a choice at the moment `now`, of a leaf that it did not send: if its head was eligible, then its deadline is past t
early_parts : (o : Option Curve) (t now : ℕ) (ws : List Waiting) (count : ℕ) (os : List Opening)
    → is_eligible o (leaf_of ws count os) now ≡ false → Bounded o t now count (leaf_of ws count os)
early_parts None t now ws count os e = NotDue refl refl
early_parts (Some s) t now [] count os e = NotDue refl refl
early_parts (Some s) t now (w ∷ ws) count os e = ByOpenings (λ x r. early_most s os now t count x e r)

pub passed_over : (o : Option Curve) (t now : ℕ) (l : Leaf) → (is_eligible o l now ≡ true → has_come (head_deadline o l) t ≡ false) → Standing o t now l.count l
passed_over o t now l f = stands o t now l (go (is_eligible o l now) refl)
  where
    go : (b : Bool) → is_eligible o l now ≡ b → Bounded o t now l.count l
    go true e = NotDue (f e) refl
    go false e = early_parts o t now l.waiting l.count l.openings e

-- a head that is too early has a later deadline
pub early_passed : (s : Curve) (l : Leaf) (ws : List Waiting) (t now len : ℕ) → 1 ≤ len → IsHead ws len → (is_waiting ws && reaches (eligible_curve s) l.openings now l.count) ≡ false
    → Reaches s l.openings t (l.count + units len) → now < t
early_passed s l [] t now len z h e r = absurd h
early_passed s l (w ∷ ws) t now len z h e r =
    let one = early_most s l.openings now t l.count (l.count + units len) e r in
    time_passed s now t (omega arith)

-- of the leaf that it sent by share
shared_parts : (o : Option Curve) (t now len : ℕ) (ws : List Waiting) (count : ℕ) (os : List Opening) → IsHead ws len
    → is_eligible o (leaf_of ws count os) now ≡ false → Bounded o t now count (after_sent len false (leaf_of ws count os))
shared_parts None t now len ws count os h e = NotDue refl refl
shared_parts (Some s) t now len [] count os h e = absurd h
shared_parts (Some s) t now len (w ∷ ws) count os h e = ByOpenings (λ x r. early_most s os now t count x e r)

pub shared : (o : Option Curve) (t now len : ℕ) (l : Leaf) → IsHead l.waiting len → is_eligible o l now ≡ false
    → Standing o t now l.count (after_sent len false l)
shared o t now len l h e = stands o t now (after_sent len false l) (shared_parts o t now len l.waiting l.count l.openings h e)

-- of the leaf that it sent by real time, its deadline being past t
late_parts : (o : Option Curve) (t now len : ℕ) (ws : List Waiting) (count : ℕ) (os : List Opening) → IsHead ws len
    → has_come (head_deadline o (leaf_of ws count os)) t ≡ false → Bounded o t now (count + units len) (after_sent len true (leaf_of ws count os))
late_parts None t now len ws count os h e = NotDue refl refl
late_parts (Some s) t now len [] count os h e = absurd h
late_parts (Some s) t now len (w ∷ ws) count os h e = ByOpenings (λ x r. go x r (cases_lt (count + units len) x))
  where
    go : (x : ℕ) → Reaches s os t x → (count + units len < x) ⊎ (x ≤ count + units len) → x ≤ count + units len + amount s (t - now)
    go x r (inl a) = let come = reaches_due s (leaf_of (w ∷ ws) count os) (w ∷ ws) t len h (reaches_less s os t (count + units len) x (omega arith) r) in absurd cc
    go x r (inr a) = omega arith

pub late : (o : Option Curve) (t now len : ℕ) (l : Leaf) → IsHead l.waiting len → has_come (head_deadline o l) t ≡ false
    → Standing o t now (l.count + units len) (after_sent len true l)
late o t now len l h e = stands o t now (after_sent len true l) (late_parts o t now len l.waiting l.count l.openings h e)
