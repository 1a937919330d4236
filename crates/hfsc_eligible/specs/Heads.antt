-- The lists of the heads.
use Rattle.std.specs.Prelude.{◌≡◌, ◌<◌, ℕ, true, false, List, length, slice_index_or, Option, None}
use Rattle.service_curve.specs.declared.Curve.{Curve}
use Rattle.ranking.specs.declared.Ranking.{Ranking}
use Rattle.ranking.specs.Order.{is_in, key_of}
use Rattle.ranking.specs.Ranking.{first_of, keys_of, order_of}
use Rattle.hfsc_model.specs.Leaf.{new_leaf}
use Rattle.hfsc_model.specs.RealTime.{curve_of}
use Rattle.hfsc_eligible.specs.declared.slot.Slot.{Slot}
use Rattle.hfsc_eligible.specs.Slot.{SlotStands, last_opening, slot_has_head}

-- exactly the classes with a curve and a head stand in a list, each with its key
pub record Holds (key : Slot → Option ℕ) (slots : List Slot) (ranking : Ranking) : Type 0 where
  pub first : first_of ranking ≡ 0
  pub classes : length (keys_of ranking) ≡ length slots
  pub heads : (c : ℕ) (d : Slot) → c < length slots → is_in c (order_of ranking) ≡ slot_has_head (slice_index_or slots c d)
  pub keys : (c : ℕ) (d : Slot) → c < length slots → slot_has_head (slice_index_or slots c d) ≡ true
      → key_of (keys_of ranking) c ≡ key (slice_index_or slots c d)

-- slots of the first classes, without a packet
pub record AreNew (curves : List (Option Curve)) (slots : List Slot) : Type 0 where
  pub each : (c : ℕ) (d : Slot) → c < length slots → SlotStands (slice_index_or slots c d) (curve_of curves c) new_leaf
  pub none : (c : ℕ) (d : Slot) → c < length slots → slot_has_head (slice_index_or slots c d) ≡ false
  pub closed : (c : ℕ) (d : Slot) → c < length slots → last_opening (slice_index_or slots c d) ≡ None
