-- How near to each other siblings stay, after Stoica, Zhang and Ng, "A Hierarchical Fair Service Curve Algorithm for Link-Sharing,
-- Real-Time and Priority Services", SIGCOMM 1997. Sharing by rates, from which the work of two siblings is measured, is that of
-- Parekh and Gallager, "A Generalized Processor Sharing Approach to Flow Control", IEEE/ACM Transactions on Networking 1993.
use Rattle.std.specs.Prelude.{◌≡◌, ◌≤◌, ◌+◌, ◌*◌, ℕ, true, false, List, [], ◌∷◌, ◌++◌}
use Rattle.hfsc_model.specs.declared.HfscClass.{HfscClass}
use Rattle.hfsc_model.specs.Event.{HfscEvent, HfscHistory}
use Rattle.hfsc_model.specs.Share.{active, total, virtual_time}
use Rattle.hfsc_model.specs.Tree.{is_child}
use Rattle.fair_shares.specs.Sharing.{HasRate, most_step}

-- c is a child of p, and active
pub record IsActiveChild (cs : List HfscClass) (h : HfscHistory) (p c : ℕ) : Type 0 where
  pub child : is_child cs p c ≡ true
  pub is_active : active cs h c ≡ true

-- v is the least virtual time of the active children of p, of which there is one
pub record IsLeastActive (cs : List HfscClass) (h : HfscHistory) (p v : ℕ) : Type 0 where
  pub class : ℕ
  pub there : IsActiveChild cs h p class
  pub time : virtual_time cs h class ≡ v
  pub least : (d : ℕ) → IsActiveChild cs h p d → v ≤ virtual_time cs h d

-- the virtual times of two active siblings differ by at most Δ
abbrev pub AreClose : List HfscClass → HfscHistory → Type 0
AreClose cs h = (p c d : ℕ) → IsActiveChild cs h p c → IsActiveChild cs h p d → virtual_time cs h d ≤ virtual_time cs h c + most_step cs h p

-- while a child is active, one that is not is at most Δ ahead of the least active
abbrev pub AreLittleAhead : List HfscClass → HfscHistory → Type 0
AreLittleAhead cs h = (p v d : ℕ) → IsLeastActive cs h p v → is_child cs p d ≡ true → active cs h d ≡ false → virtual_time cs h d ≤ v + most_step cs h p

-- an event does not lower the least active virtual time of a family, where there is one before and after it
abbrev pub LeastNeverFalls : List HfscClass → HfscEvent → HfscHistory → Type 0
LeastNeverFalls cs e h = (p v w : ℕ) → IsLeastActive cs h p v → IsLeastActive cs (e ∷ h) p w → v ≤ w

-- after each event of a stretch that follows h some child of p is active
abbrev pub StaysActive : List HfscClass → (p : ℕ) → (stretch h : HfscHistory) → Type 0
StaysActive cs p [] h = Unit {0}
StaysActive cs p (e ∷ es) h = ((c : ℕ) × IsActiveChild cs (e ∷ es ++ h) p c) × StaysActive cs p es h

-- so is the least over a stretch
abbrev pub LeastRises : List HfscClass → (stretch h : HfscHistory) → Type 0
LeastRises cs es h = (p v w : ℕ) → StaysActive cs p es h → IsLeastActive cs h p v → IsLeastActive cs (es ++ h) p w → v ≤ w

-- after each event of a stretch that follows h both classes are active
abbrev pub AreBothActive : List HfscClass → (c d : ℕ) → (stretch h : HfscHistory) → Type 0
AreBothActive cs c d [] h = Unit {0}
AreBothActive cs c d (e ∷ es) h = (active cs (e ∷ es ++ h) c ≡ true) × (active cs (e ∷ es ++ h) d ≡ true) × AreBothActive cs c d es h

-- the work of a class in a stretch: the units sent in it or below it
abbrev pub work : List HfscClass → (stretch : HfscHistory) → (c : ℕ) → ℕ
work cs es c = total cs es c

-- two siblings of linear curves
pub record AreLinear (cs : List HfscClass) (p c d rate other : ℕ) : Type 0 where
  pub first : is_child cs p c ≡ true
  pub second : is_child cs p d ≡ true
  pub rate_is : HasRate cs c rate
  pub other_is : HasRate cs d other

-- two numbers differ by at most this
pub record DifferBy (most x y : ℕ) : Type 0 where
  pub above : x ≤ y + most
  pub below : y ≤ x + most

-- a part of a history: what came before it and what came after it are parts too
pub record IsStretch (g stretch h : HfscHistory) : Type 0 where
  pub later : HfscHistory
  pub parts : g ≡ later ++ (stretch ++ h)

-- in every stretch of a history after each event of which both siblings are active, the work of each by the rate of the other differs
-- by at most 2·Δ + 2 by both rates
abbrev pub IsFair : List HfscClass → HfscHistory → Type 0
IsFair cs g = (es h : HfscHistory) (p c d rate other : ℕ) → IsStretch g es h → AreLinear cs p c d rate other → AreBothActive cs c d es h
    → DifferBy ((2 * most_step cs g p + 2) * (rate * other)) (work cs es c * other) (work cs es d * rate)
