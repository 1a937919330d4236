-- Due moments: the guarantee of a service curve, after Stoica, Zhang and Ng, SIGCOMM 1997. It names arrivals, starts and
-- ends alone, and not the rule that sent a packet.
use Rattle.std.specs.Prelude.{◌≡◌, ◌≤◌, ◌<◌, ◌+◌, ◌-◌, ◌*◌, ℕ, nat_lt, max, sum_by, Bool, true, false, List, [], ◌∷◌, length, Option, None, Some, if◌then◌else◌, ◌==◌}
use Rattle.play_base.specs.Units.{units, ceil_div}
use Rattle.service_curve.specs.declared.Curve.{Curve}
use Rattle.service_curve.specs.Curve.{amount}
use Rattle.runtime_curve.specs.declared.Opening.{Opening}
use Rattle.runtime_curve.specs.Opening.{opening, Reaches}
use Rattle.hfsc_model.specs.Event.{HfscHistory, Enqueued, Sent}
use Rattle.hfsc_model.specs.Leaf.{Waiting, leaf}
use Rattle.hfsc_model.specs.Link.{free, run_after}
use Rattle.hfsc_model.specs.RealTime.{curve_of, IsRealPick, NoneIsEligible}

-- a packet that was sent
pub record Row : Type 0 where
  pub at : ℕ
  pub len : ℕ
  pub start : ℕ
  pub end : ℕ

-- the row of the head
abbrev pub with_row : List Waiting → ℕ → ℕ → List Row → List Row
with_row [] start end rows = rows
with_row (w ∷ ws) start end rows = record { at = w.at; len = w.len; start = start; end = end } ∷ rows

-- the packets sent of a class, the newest first, each with the end of its run
abbrev pub rows : ℕ → HfscHistory → ℕ → List Row
rows rate [] c = []
rows rate (Enqueued d at len ∷ h) c = rows rate h c
rows rate (Sent d len real start ∷ h) c =
    if d == c then with_row (leaf h c).waiting start (free rate (run_after rate (Sent d len real start ∷ h))) (rows rate h c) else rows rate h c

-- the units of packets
abbrev pub units_of : List Row → ℕ
units_of [] = 0
units_of (r ∷ rs) = units_of rs + units r.len

-- the packets that open: the first, and each that arrives later than the start of the one before; with the units before it
abbrev pub opens : List Row → List Opening
opens [] = []
opens (r ∷ []) = opening r.at 0 ∷ []
opens (r ∷ q ∷ rs) = if nat_lt q.start r.at then opening r.at (units_of (q ∷ rs)) ∷ opens (q ∷ rs) else opens (q ∷ rs)

-- a moment is due for the newest packet: from each opening on, the curve has given by then all up to and with it
abbrev pub IsDue : Curve → List Row → ℕ → Type 0
IsDue s rs u = Reaches s (opens rs) u (units_of rs)

-- each packet ends at most `most` after each moment that is due for it
abbrev pub AreTimely : Curve → ℕ → List Row → Type 0
AreTimely s most [] = Unit {0}
AreTimely s most (r ∷ rs) = ((u : ℕ) → IsDue s (r ∷ rs) u → r.end ≤ u + most) × AreTimely s most rs

-- the longest packet sent
abbrev pub longest : HfscHistory → ℕ
longest [] = 0
longest (Enqueued c at len ∷ h) = longest h
longest (Sent c len real start ∷ h) = max len (longest h)

-- each packet of a class with a real-time curve ends at most the time of the longest packet, rounded up, after each of its due
-- moments
abbrev pub IsTimely : ℕ → List (Option Curve) → HfscHistory → Type 0
IsTimely rate curves h = (c : ℕ) (s : Curve) → curve_of curves c ≡ Some s → AreTimely s (ceil_div (units (longest h)) rate) (rows rate h c)

-- the curves together never exceed the link
abbrev pub amount_of : Option Curve → ℕ → ℕ
amount_of None t = 0
amount_of (Some s) t = amount s t

abbrev pub FitLink : ℕ → List (Option Curve) → Type 0
FitLink rate curves = (t : ℕ) → sum_by (λ o. amount_of o t) curves ≤ rate * t

-- the moment of the last event
abbrev pub moment : HfscHistory → ℕ
moment [] = 0
moment (Enqueued c at len ∷ h) = at
moment (Sent c len real start ∷ h) = start

abbrev pub StartBefore : HfscHistory → ℕ → Type 0
StartBefore [] t = Unit {0}
StartBefore (Enqueued c at len ∷ h) t = StartBefore h t
StartBefore (Sent c len real start ∷ h) t = (start < t) × StartBefore h t

-- moments never go back, each packet arrives later than every start before it, and no packet sent is empty
abbrev pub AreInOrder : HfscHistory → Type 0
AreInOrder [] = Unit {0}
AreInOrder (Enqueued c at len ∷ h) = (moment h ≤ at) × StartBefore h at × AreInOrder h
AreInOrder (Sent c len real start ∷ h) = (moment h ≤ start) × (1 ≤ len) × AreInOrder h

-- the packets arrived at t or later
abbrev pub ArriveFrom : ℕ → List Waiting → Type 0
ArriveFrom t [] = Unit {0}
ArriveFrom t (w ∷ ws) = (t ≤ w.at) × ArriveFrom t ws

-- no head was eligible just before `start`, and at `start` nothing but packets came since
pub data IsHeld (curves : List (Option Curve)) (start : ℕ) : HfscHistory → Type 0 where
  Before : (h : HfscHistory) → NoneIsEligible curves h (start - 1) → IsHeld curves start h
  Came : (c len : ℕ) (h : HfscHistory) → IsHeld curves start h → IsHeld curves start (Enqueued c start len ∷ h)

-- why a sending starts when it does: the one before it ended; or the first waiting packet came; or the link was held till `start`
pub data IsBusyAt (rate : ℕ) (curves : List (Option Curve)) (h : HfscHistory) (start : ℕ) : Type 0 where
  Goes_on : start ≡ free rate (run_after rate h) → IsBusyAt rate curves h start
  Begins : ((c : ℕ) → ArriveFrom start (leaf h c).waiting) → IsBusyAt rate curves h start
  Held : IsHeld curves start h → IsBusyAt rate curves h start

abbrev pub IsBusy : ℕ → List (Option Curve) → HfscHistory → Type 0
IsBusy rate curves [] = Unit {0}
IsBusy rate curves (Enqueued c at len ∷ h) = IsBusy rate curves h
IsBusy rate curves (Sent c len real start ∷ h) = IsBusyAt rate curves h start × IsBusy rate curves h

-- the head of a class is sent, with its length
abbrev pub IsHead : List Waiting → ℕ → Type 0
IsHead [] len = ⊥
IsHead (w ∷ ws) len = w.len ≡ len

-- the part of the choice that is about real time: by that rule the pick is sent, and by share only where no head is eligible
pub record IsChosen (curves : List (Option Curve)) (h : HfscHistory) (c len : ℕ) (real : Bool) (start : ℕ) : Type 0 where
  pub class : c < length curves
  pub head : IsHead (leaf h c).waiting len
  pub by_real_time : real ≡ true → IsRealPick curves h start c
  pub by_share : real ≡ false → NoneIsEligible curves h start

abbrev pub AreChosen : List (Option Curve) → HfscHistory → Type 0
AreChosen curves [] = Unit {0}
AreChosen curves (Enqueued c at len ∷ h) = AreChosen curves h
AreChosen curves (Sent c len real start ∷ h) = IsChosen curves h c len real start × AreChosen curves h
