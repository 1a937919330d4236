-- Link sharing: totals, activations, virtual times and high marks, after Stoica, Zhang and Ng, SIGCOMM 1997; and upper limits.
-- A class is active while a packet waits in a leaf that it is or that stands below it.
use Rattle.std.specs.Prelude.{◌&&◌, ◌+◌, ◌/◌, ℕ, min, max, not, Bool, true, false, List, [], ◌∷◌, map, Option, None, Some, if◌then◌else◌}
use Rattle.std.specs.List.{list_any, filter}
use Rattle.play_base.specs.Units.{units}
use Rattle.service_curve.specs.declared.Curve.{Curve}
use Rattle.runtime_curve.specs.declared.Opening.{Opening}
use Rattle.runtime_curve.specs.Opening.{opening}
use Rattle.runtime_curve.specs.Deadline.{deadline}
use Rattle.hfsc_model.specs.declared.HfscClass.{HfscClass}
use Rattle.hfsc_model.specs.Event.{HfscHistory, Enqueued, Sent}
use Rattle.hfsc_model.specs.Leaf.{leaf, is_waiting}
use Rattle.hfsc_model.specs.Tree.{class_of, numbers, is_child, is_leaf, is_under}

-- a packet waits in the leaf d, which is c or stands below it
abbrev pub waits_under : List HfscClass → HfscHistory → ℕ → ℕ → Bool
waits_under cs h c d = is_leaf cs d && (is_under cs c d && is_waiting (leaf h d).waiting)

abbrev pub active : List HfscClass → HfscHistory → ℕ → Bool
active cs h c = list_any (waits_under cs h c) (numbers cs)

-- the units that were sent in a class or below it, by either rule
abbrev pub total : List HfscClass → HfscHistory → ℕ → ℕ
total cs [] c = 0
total cs (Enqueued d at len ∷ h) c = total cs h c
total cs (Sent d len real start ∷ h) c = if is_under cs c d then total cs h c + units len else total cs h c

-- a packet kept in d makes c active
abbrev pub activates : List HfscClass → HfscHistory → ℕ → ℕ → Bool
activates cs h d c = is_leaf cs d && (is_under cs c d && not (active cs h c))

-- the virtual time of a class with these activations and this total: the v of the latest, or if that is later the first
-- virtual time at which the link-sharing curve over all of them reaches the total
abbrev pub or_zero : Option ℕ → ℕ
or_zero None = 0
or_zero (Some x) = x

abbrev pub reach : Option Curve → List Opening → ℕ → ℕ
reach None os u = 0
reach (Some s) os u = or_zero (deadline s os u)

abbrev pub virtual_time_of : Option Curve → List Opening → ℕ → ℕ
virtual_time_of s [] u = 0
virtual_time_of s (o ∷ os) u = max o.at (reach s (o ∷ os) u)

abbrev pub greatest : List ℕ → ℕ
greatest [] = 0
greatest (v ∷ vs) = max v (greatest vs)

abbrev pub least : ℕ → List ℕ → ℕ
least v [] = v
least v (w ∷ ws) = min v (least w ws)

-- the virtual time with which a class becomes active: the middle of its active siblings' virtual times, or where no
-- sibling is active the high mark of its parent, and in no case less than its own
abbrev pub activation : ℕ → List ℕ → ℕ → ℕ
activation own [] high = max own high
activation own (v ∷ vs) high = max own ((least v vs + greatest (v ∷ vs)) / 2)

-- the children of the parent of a class, itself among them
abbrev pub siblings : List HfscClass → ℕ → Option ℕ → List ℕ
siblings cs c None = []
siblings cs c (Some p) = filter (is_child cs p) (numbers cs)

-- the v of a class that becomes active after h, where `acts` are the activations of each class
abbrev pub activation_time : List HfscClass → HfscHistory → (ℕ → List Opening) → ℕ → ℕ
activation_time cs h acts c =
    let time : ℕ → ℕ = λ d. virtual_time_of (class_of cs d).share (acts d) (total cs h d) in
    let all = siblings cs c (class_of cs c).parent in
    activation (time c) (map time (filter (active cs h) all)) (greatest (map time all))

-- the activations of a class: each with its virtual time and the total then, the newest first. The root has none
abbrev pub has_parent : List HfscClass → ℕ → Bool
has_parent cs c = elim (class_of cs c).parent [ None ↦ false | Some p ↦ true ]

abbrev pub activations : List HfscClass → HfscHistory → ℕ → List Opening
activations cs [] c = []
activations cs (Enqueued d at len ∷ h) c =
    if has_parent cs c && activates cs h d c
    then opening (activation_time cs h (activations cs h) c) (total cs h c) ∷ activations cs h c
    else activations cs h c
activations cs (Sent d len real start ∷ h) c = activations cs h c

abbrev pub virtual_time : List HfscClass → HfscHistory → ℕ → ℕ
virtual_time cs h c = virtual_time_of (class_of cs c).share (activations cs h c) (total cs h c)
