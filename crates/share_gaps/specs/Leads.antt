-- The greatest difference, computed event by event.
use Rattle.std.specs.Prelude.{◌&&◌, ◌+◌, ◌-◌, ◌*◌, ℕ, max, List, [], ◌∷◌, if◌then◌else◌}
use Rattle.play_base.specs.Units.{units}
use Rattle.hfsc_model.specs.declared.HfscClass.{HfscClass}
use Rattle.hfsc_model.specs.Event.{HfscHistory, Enqueued, Sent}
use Rattle.hfsc_model.specs.Share.{active}
use Rattle.hfsc_model.specs.Tree.{is_leaf, is_under}

-- what a sending of the leaf l adds to the work of c by a rate
abbrev pub gain : List HfscClass → (l len c rate : ℕ) → ℕ
gain cs l len c rate = if is_under cs c l then units len * rate else 0

-- by how much, at most, the work of c by the rate of d is ahead of that of d by the rate of c in a stretch of common activity that
-- ends now
abbrev pub lead : List HfscClass → (c d rate other : ℕ) → HfscHistory → ℕ
lead cs c d rate other [] = 0
lead cs c d rate other (Enqueued l at len ∷ h) = lead cs c d rate other h
lead cs c d rate other (Sent l len real start ∷ h) =
    if active cs (Sent l len real start ∷ h) c && active cs (Sent l len real start ∷ h) d
    then lead cs c d rate other h + gain cs l len c other - gain cs l len d rate else 0

-- and in any stretch, whichever of them is ahead
abbrev pub most_lead : List HfscClass → (c d rate other : ℕ) → HfscHistory → ℕ
most_lead cs c d rate other [] = 0
most_lead cs c d rate other (e ∷ h) =
    max (most_lead cs c d rate other h) (max (lead cs c d rate other (e ∷ h)) (lead cs d c other rate (e ∷ h)))

-- the packets that wait in c or below it
abbrev pub held : List HfscClass → (c : ℕ) → HfscHistory → ℕ
held cs c [] = 0
held cs c (Enqueued l at len ∷ h) = if is_leaf cs l && is_under cs c l then held cs c h + 1 else held cs c h
held cs c (Sent l len real start ∷ h) = if is_leaf cs l && is_under cs c l then held cs c h - 1 else held cs c h
