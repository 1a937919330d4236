-- From all units of a leaf to those sent by real time: by a moment that is due for a packet its deadline has come.
use Rattle.std.proofs.Common.{◌≡◌, ◌≤◌, ◌<◌, ◌+◌, ◌-◌, ℕ, Bool, true, false, List, [], ◌∷◌, ◌++◌, drop, refl, ap, subst, arith}
use Rattle.std.specs.Prelude.{Option, nat_lt, if◌then◌else◌, ◌==◌}
use Rattle.std.proofs.lemmas.Bool.Decides.{nat_tests}
use Rattle.play_base.specs.Units.{units}
use Rattle.service_curve.specs.declared.Curve.{Curve}
use Rattle.service_curve.specs.Curve.{amount}
use Rattle.runtime_curve.specs.declared.Opening.{Opening}
use Rattle.runtime_curve.specs.Opening.{Reaches, opening}
use Rattle.hfsc_model.specs.Event.{HfscHistory, Enqueued, Sent}
use Rattle.hfsc_model.specs.Leaf.{Leaf, Waiting, after_kept, after_sent, leaf, opened}
use Rattle.hfsc_model.specs.Link.{free, run_after}
use Rattle.hfsc_model.specs.Timely.{Row, AreChosen, AreInOrder, IsHead, StartBefore, opens, rows, units_of, with_row}
use Rattle.hfsc_laws.proofs.Openings.{reaches_less}

-- where the packets sent, with the head's row, have openings that allow their units and some more by a moment, the openings of
-- the leaf allow its count and as much more
abbrev Cover : List Waiting → ℕ → List Opening → List Row → Type 0
Cover ws count os rs = (start end : ℕ) (s : Curve) (u more : ℕ) → Reaches s (opens (with_row ws start end rs)) u (units_of rs + more) → Reaches s os u (count + more)

-- one more packet keeps the packets that open
reaches_before : (s : Curve) (r : Row) (rs : List Row) (u x : ℕ) → Reaches s (opens (r ∷ rs)) u x → Reaches s (opens rs) u x
reaches_before s r [] u x a = tt
reaches_before s r (q ∷ rs) u x a = go (nat_lt q.start r.at) a
  where
    go : (b : Bool) → Reaches s (if b then opening r.at (units_of (q ∷ rs)) ∷ opens (q ∷ rs) else opens (q ∷ rs)) u x → Reaches s (opens (q ∷ rs)) u x
    go true a = a.1
    go false a = a

before_row : (s : Curve) (ws : List Waiting) (start end : ℕ) (rs : List Row) (u x : ℕ) → Reaches s (opens (with_row ws start end rs)) u x → Reaches s (opens rs) u x
before_row s [] start end rs u x a = a
before_row s (w ∷ ws) start end rs u x a = reaches_before s (record { at = w.at; len = w.len; start = start; end = end }) rs u x a

-- a packet that comes at this moment, after the last start, opens
abbrev StartedBefore : List Row → ℕ → Type 0
StartedBefore [] at = Unit {0}
StartedBefore (r ∷ rs) at = r.start < at

opens_next : (s : Curve) (r : Row) (rs : List Row) (u more : ℕ) → StartedBefore rs r.at → Reaches s (opens (r ∷ rs)) u (units_of rs + more) → more ≤ amount s (u - r.at)
opens_next s r [] u more b a = omega (arith, a.0)
opens_next s r (q ∷ rs) u more b a = go (nat_lt q.start r.at) refl a
  where
    go : (t : Bool) → nat_lt q.start r.at ≡ t
        → Reaches s (if t then opening r.at (units_of (q ∷ rs)) ∷ opens (q ∷ rs) else opens (q ∷ rs)) u (units_of (q ∷ rs) + more) → more ≤ amount s (u - r.at)
    go true e a = omega (arith, a.0)
    go false e a = absurd (grind (arith, nat_tests, e, b))

kept_cover : (at len : ℕ) (ws : List Waiting) (count : ℕ) (os : List Opening) (rs : List Row) → StartedBefore rs at → Cover ws count os rs
    → Cover (ws ++ record { at = at; len = len } ∷ []) count (opened ws at count os) rs
kept_cover at len [] count os rs b x = λ start end s u more a.
    let r : Row = record { at = at; len = len; start = start; end = end } in
    let one = opens_next s r rs u more b a in
    (omega arith, x start end s u more (reaches_before s r rs u (units_of rs + more) a))
kept_cover at len (w ∷ ws) count os rs b x = x

sent_cover : (len start end : ℕ) (real : Bool) (ws : List Waiting) (count : ℕ) (os : List Opening) (rs : List Row) → IsHead ws len → Cover ws count os rs
    → Cover (drop 1 ws) (if real then count + units len else count) os (with_row ws start end rs)
sent_cover len start end real [] count os rs h x = absurd h
sent_cover len start end real (w ∷ ws) count os rs h x = λ next until s u more a.
    let r : Row = record { at = w.at; len = w.len; start = start; end = end } in
    let before = before_row s ws next until (r ∷ rs) u (units_of rs + units w.len + more) a in
    let all = x start end s u (units w.len + more) (reaches_less s (opens (r ∷ rs)) u _ _ (omega arith) before) in
    let same = ap units h in
    let less = counted real in
    reaches_less s os u _ _ (omega arith) all
  where
    counted : (b : Bool) → (if b then count + units len else count) ≤ count + units len
    counted true = omega arith
    counted false = omega arith

started_before : (rate : ℕ) (h : HfscHistory) (c t : ℕ) → StartBefore h t → StartedBefore (rows rate h c) t
started_before rate [] c t b = tt
started_before rate (Enqueued d at len ∷ h) c t b = started_before rate h c t b
started_before rate (Sent d len real start ∷ h) c t b = go (d == c) (leaf h c).waiting (started_before rate h c t b.1)
  where
    go : (q : Bool) (ws : List Waiting) → StartedBefore (rows rate h c) t
        → StartedBefore (if q then with_row ws start (free rate (run_after rate (Sent d len real start ∷ h))) (rows rate h c) else rows rate h c) t
    go true [] x = x
    go true (w ∷ ws) x = b.0
    go false ws x = x

abbrev LeafCover : Leaf → List Row → Type 0
LeafCover l rs = Cover l.waiting l.count l.openings rs

pub covered : (rate : ℕ) (curves : List (Option Curve)) (h : HfscHistory) (c : ℕ) → AreInOrder h → AreChosen curves h → LeafCover (leaf h c) (rows rate h c)
covered rate curves [] c o x = λ start end s u more a. tt
covered rate curves (Enqueued d at len ∷ h) c o x = go (d == c) (covered rate curves h c o.2 x)
  where
    go : (q : Bool) → LeafCover (leaf h c) (rows rate h c) → LeafCover (if q then after_kept at len (leaf h c) else leaf h c) (rows rate h c)
    go true y = kept_cover at len (leaf h c).waiting (leaf h c).count (leaf h c).openings (rows rate h c) (started_before rate h c at o.1) y
    go false y = y
covered rate curves (Sent d len real start ∷ h) c o x = go (d == c) refl (covered rate curves h c o.2 x.1)
  where
    go : (q : Bool) → (d == c) ≡ q → LeafCover (leaf h c) (rows rate h c)
        → LeafCover (if q then after_sent len real (leaf h c) else leaf h c) (if q then with_row (leaf h c).waiting start (free rate (run_after rate (Sent d len real start ∷ h))) (rows rate h c) else rows rate h c)
    go true e y =
        let same : d ≡ c = grind (arith, nat_tests, e) in
        sent_cover len start (free rate (run_after rate (Sent d len real start ∷ h))) real (leaf h c).waiting (leaf h c).count (leaf h c).openings (rows rate h c)
        (subst (λ (k : ℕ). IsHead (leaf h k).waiting len) same x.0.head) y
    go false e y = y
