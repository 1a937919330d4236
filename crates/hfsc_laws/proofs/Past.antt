-- What holds of a leaf and of the link after a history, by its events.
use Rattle.std.proofs.Common.{◌≡◌, ◌≤◌, ◌<◌, ◌+◌, ◌-◌, ◌*◌, ◌⊎◌, inl, inr, ℕ, Bool, true, false, List, [], ◌∷◌, ◌++◌, None, Some, refl, ap, arith}
use Rattle.std.specs.Prelude.{Option, drop, if◌then◌else◌, ◌==◌}
use Rattle.std.proofs.lemmas.Bool.{cases_lt}
use Rattle.play_base.specs.Units.{units, ceil_div}
use Rattle.service_curve.specs.declared.Curve.{Curve}
use Rattle.service_curve.proofs.Amounts.{mul_mono}
use Rattle.runtime_curve.specs.declared.Opening.{Opening}
use Rattle.hfsc_model.specs.Event.{HfscHistory, Enqueued, Sent}
use Rattle.hfsc_model.specs.Leaf.{Leaf, Waiting, after_kept, after_sent, leaf}
use Rattle.hfsc_model.specs.Link.{Run, free, started, with_units, run_after, AreOneByOne}
use Rattle.hfsc_model.specs.Timely.{ArriveFrom, AreInOrder, StartBefore, moment}
use Rattle.hfsc_laws.proofs.Curves.{le_ceil, ceil_le}
use Rattle.hfsc_laws.proofs.Standing.{Bounded, NotDue, Standing, kept_standing, new_stands, stands}

-- a fact of both branches
pub either_leaf : (P : Leaf → Type 0) (b : Bool) (x y : Leaf) → (b ≡ true → P x) → (b ≡ false → P y) → P (if b then x else y)
either_leaf P true x y f g = f refl
either_leaf P false x y f g = g refl

-- these packets arrived at this moment or before
abbrev ArriveBy : ℕ → List Waiting → Type 0
ArriveBy t [] = Unit {0}
ArriveBy t (p ∷ ps) = (p.at ≤ t) × ArriveBy t ps

by_more : (t u : ℕ) (ps : List Waiting) → t ≤ u → ArriveBy t ps → ArriveBy u ps
by_more t u [] h a = tt
by_more t u (p ∷ ps) h a = (omega (arith, a.0), by_more t u ps h a.1)

by_push : (t : ℕ) (ps : List Waiting) (p : Waiting) → p.at ≤ t → ArriveBy t ps → ArriveBy t (ps ++ p ∷ [])
by_push t [] p h a = (h, tt)
by_push t (q ∷ qs) p h a = (a.0, by_push t qs p h a.1)

by_drop : (t : ℕ) (ps : List Waiting) → ArriveBy t ps → ArriveBy t (drop 1 ps)
by_drop t [] a = tt
by_drop t (p ∷ ps) a = a.1

-- what waits has arrived
arrived : (h : HfscHistory) (c : ℕ) → AreInOrder h → ArriveBy (moment h) (leaf h c).waiting
arrived [] c o = tt
arrived (Enqueued d at len ∷ h) c o =
    let before = by_more (moment h) at (leaf h c).waiting o.0 (arrived h c o.2) in
    either_leaf (λ l. ArriveBy at l.waiting) (d == c) (after_kept at len (leaf h c)) (leaf h c)
    (λ _. by_push at (leaf h c).waiting (record { at = at; len = len }) (omega arith) before) (λ _. before)
arrived (Sent d len real start ∷ h) c o =
    let before = by_more (moment h) start (leaf h c).waiting o.0 (arrived h c o.2) in
    either_leaf (λ l. ArriveBy start l.waiting) (d == c) (after_sent len real (leaf h c)) (leaf h c)
    (λ _. by_drop start (leaf h c).waiting before) (λ _. before)

from_front : (t : ℕ) (ps : List Waiting) (p : Waiting) → ArriveFrom t (ps ++ p ∷ []) → ArriveFrom t ps
from_front t [] p a = tt
from_front t (q ∷ qs) p a = (a.0, from_front t qs p a.1)

from_last : (t : ℕ) (ps : List Waiting) (p : Waiting) → ArriveFrom t (ps ++ p ∷ []) → t ≤ p.at
from_last t [] p a = a.0
from_last t (q ∷ qs) p a = from_last t qs p a.1

-- where nothing waits, no head is due
none_waits : (o : Option Curve) (t from now : ℕ) (ws : List Waiting) (count : ℕ) (os : List Opening) → from < now → ArriveBy from ws → ArriveFrom now ws
    → Bounded o t now count (record { waiting = ws; count = count; openings = os })
none_waits None t from now ws count os h a b = NotDue refl refl
none_waits (Some s) t from now [] count os h a b = NotDue refl refl
none_waits (Some s) t from now (w ∷ ws) count os h a b = absurd (omega (arith, a.0, b.0))

abbrev Fresh : Option Curve → (t now : ℕ) → Leaf → Type 0
Fresh o t now l = ArriveFrom now l.waiting → Standing o t now l.count l

-- where each start lies before a moment and each packet that waits arrived from it on, a leaf is bounded from it on
pub fresh : (o : Option Curve) (t now : ℕ) (h : HfscHistory) (c : ℕ) → AreInOrder h → StartBefore h now → Fresh o t now (leaf h c)
fresh o t now [] c i b = λ a. new_stands o t now
fresh o t now (Enqueued d at len ∷ h) c i b =
    let rest = fresh o t now h c i.2 b in
    let p : Waiting = record { at = at; len = len } in
    either_leaf (Fresh o t now) (d == c) (after_kept at len (leaf h c)) (leaf h c)
    (λ _ a. kept_standing o t now (leaf h c).count at len (leaf h c) (from_last now (leaf h c).waiting p a) (rest (from_front now (leaf h c).waiting p a)))
    (λ _. rest)
fresh o t now (Sent d len real start ∷ h) c i b = λ a.
    let l = leaf (Sent d len real start ∷ h) c in
    stands o t now l (none_waits o t start now l.waiting l.count l.openings b.0 (arrived (Sent d len real start ∷ h) c i) a)

-- the run of a sending, and its end
pub ceil_mono : (rate x y : ℕ) → 0 < rate → x ≤ y → ceil_div x rate ≤ ceil_div y rate
ceil_mono rate x y h k = let one = le_ceil rate y h in ceil_le rate x (ceil_div y rate) h (omega arith)

-- what the link carries up to the start of a run, and what the run has sent
abbrev pub carried : ℕ → Run → ℕ
carried rate r = rate * r.start + r.sent

run_by : (rate : ℕ) (r : Run) → 0 < rate → carried rate r ≤ rate * free rate r
run_by rate r h = let one = le_ceil rate r.sent h in omega arith

pub free_by : (rate : ℕ) (r : Run) (t : ℕ) → 0 < rate → carried rate r ≤ rate * t → free rate r ≤ t
free_by rate r t h k = go (cases_lt t r.start)
  where
    go : (t < r.start) ⊎ (r.start ≤ t) → free rate r ≤ t
    go (inl a) = let one = mul_mono rate (t + 1) r.start (omega arith) in absurd (omega arith)
    go (inr a) =
        let sum : t ≡ r.start + (t - r.start) = omega arith in
        let one = ap (λ z. rate * z) sum in
        let two = ceil_le rate r.sent (t - r.start) h (omega arith) in
        omega arith

-- the run that a sending goes on with or begins has sent by the sending's start at most what fits
pub started_by : (rate : ℕ) (r : Run) (start : ℕ) → 0 < rate → free rate r ≤ start → carried rate (started rate r start) ≤ rate * start
started_by rate r start h k = go (start == free rate r) refl
  where
    go : (b : Bool) → (start == free rate r) ≡ b → carried rate (if b then r else record { start = start; sent = 0 }) ≤ rate * start
    go true e = let one = run_by rate r h in let two = mul_mono rate (free rate r) start k in omega arith
    go false e = omega arith

-- no sending ends before it starts
end_later : (rate : ℕ) (r : Run) (start amount : ℕ) → 0 < rate → start ≤ free rate (with_units (started rate r start) amount)
end_later rate r start amount h = go (start == free rate r) refl
  where
    go : (b : Bool) → (start == free rate r) ≡ b → start ≤ free rate (with_units (if b then r else record { start = start; sent = 0 }) amount)
    go true e =
        let same : start ≡ free rate r = grind (arith, e) in
        let one = ceil_mono rate r.sent (r.sent + amount) h (omega arith) in omega arith
    go false e = omega arith

-- each start lies before a moment that is later than the last end
pub starts_before : (rate : ℕ) (h : HfscHistory) (t : ℕ) → 0 < rate → AreOneByOne rate h → free rate (run_after rate h) < t → StartBefore h t
starts_before rate [] t z l f = tt
starts_before rate (Enqueued d at len ∷ h) t z l f = starts_before rate h t z l f
starts_before rate (Sent d len real start ∷ h) t z l f =
    let one = end_later rate (run_after rate h) start (units len) z in
    let two : start < t = omega arith in
    (two, starts_before rate h t z l.1 (omega (arith, l.0)))
