-- What the slot of a class stands for, and what it answers.
use Rattle.std.specs.Prelude.{◌≡◌, ℕ, Bool, Option}
use Rattle.std.specs.Option.{ForSome}
use Rattle.service_curve.specs.declared.Curve.{Curve}
use Rattle.runtime_curve.specs.declared.Opening.{Opening}
use Rattle.hfsc_model.specs.Leaf.{Leaf, head_len}
use Rattle.hfsc_eligible.specs.declared.slot.Slot.{Slot}
use Rattle.hfsc_eligible.specs.Real.{last_in, holds_head, deadline_in, soonest_in, RealStands}

abbrev pub head_of : Slot → Option ℕ
head_of x = x.head

abbrev pub last_opening : Slot → Option Opening
last_opening x = last_in x.real

-- its last opening, where it has a curve, is at a moment
abbrev pub IsOpenedAt : ℕ → Slot → Type 0
IsOpenedAt at new = ForSome (last_opening new) (λ last. last.at ≡ at)

abbrev pub slot_has_head : Slot → Bool
slot_has_head x = holds_head x.real x.head

abbrev pub slot_deadline : Slot → Option ℕ
slot_deadline x = deadline_in x.real x.count x.head

abbrev pub slot_soonest : Slot → Option ℕ
slot_soonest x = soonest_in x.real x.count x.head

-- it stands for a class of this curve, none where it is 0 everywhere, that has this
pub record SlotStands (x : Slot) (o : Option Curve) (l : Leaf) : Type 0 where
  pub real : RealStands x.real o l.openings
  pub count : l.count ≡ x.count
  pub head : x.head ≡ head_len l.waiting
