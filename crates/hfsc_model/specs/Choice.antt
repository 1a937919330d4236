-- The choice of HFSC: by real time where some head is eligible, else by share where some path is open, else none.
use Rattle.std.specs.Prelude.{◌||◌, ℕ, Bool, true, false, List, [], ◌∷◌, Option, None, Some}
use Rattle.hfsc_model.specs.declared.HfscClass.{HfscClass}
use Rattle.hfsc_model.specs.Event.{HfscHistory, Sent}
use Rattle.hfsc_model.specs.Leaf.{leaf, head_len}
use Rattle.hfsc_model.specs.Tree.{reals}
use Rattle.hfsc_model.specs.RealTime.{curve_of, is_eligible, real_pick}
use Rattle.hfsc_model.specs.Limit.{may_share, share_pick}

-- a class, and whether its head is sent by real time or by share
pub record Choice : Type 0 where
  pub class : ℕ
  pub real : Bool

abbrev pub by_real_time : ℕ → Choice
by_real_time c = record { class = c; real = true }

abbrev pub by_share : ℕ → Choice
by_share c = record { class = c; real = false }

abbrev pub first_choice : Option ℕ → Option ℕ → Option Choice
first_choice (Some c) b = Some (by_real_time c)
first_choice None (Some c) = Some (by_share c)
first_choice None None = None

abbrev pub choice : List HfscClass → HfscHistory → ℕ → Option Choice
choice cs h now = first_choice (real_pick (reals cs) h now) (share_pick cs h now)

-- a waiting leaf may send: its head is eligible, or its path is open
abbrev pub may_send : List HfscClass → HfscHistory → ℕ → ℕ → Bool
may_send cs h now c = is_eligible (curve_of (reals cs) c) (leaf h c) now || may_share cs h now c

-- the history with the sending that is chosen at a start, and with those that are chosen at several starts one after another
abbrev pub sending_of : HfscHistory → ℕ → Option Choice → HfscHistory
sending_of h start None = h
sending_of h start (Some x) = elim (head_len (leaf h x.class).waiting) [ None ↦ h | Some len ↦ Sent x.class len x.real start ∷ h ]

abbrev pub with_chosen : List HfscClass → HfscHistory → List ℕ → HfscHistory
with_chosen cs h [] = h
with_chosen cs h (start ∷ starts) = with_chosen cs (sending_of h start (choice cs h start)) starts
