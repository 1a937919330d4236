-- Upper limits: a class with a limit is sent by share only within its curve. Real-time service does not look at limits.
use Rattle.std.specs.Prelude.{◌&&◌, ℕ, zero, suc, nat_le, Bool, true, List, [], ◌∷◌, Option, None, Some, if◌then◌else◌}
use Rattle.std.specs.List.{list_any, list_all, filter}
use Rattle.service_curve.specs.declared.Curve.{Curve}
use Rattle.runtime_curve.specs.declared.Opening.{Opening}
use Rattle.runtime_curve.specs.Opening.{opening}
use Rattle.runtime_curve.specs.Deadline.{reaches}
use Rattle.hfsc_model.specs.declared.HfscClass.{HfscClass}
use Rattle.hfsc_model.specs.Event.{HfscHistory, Enqueued, Sent}
use Rattle.hfsc_model.specs.Leaf.{leaf, is_waiting}
use Rattle.hfsc_model.specs.Tree.{class_of, numbers, is_child, is_leaf, path, is_under}
use Rattle.hfsc_model.specs.Share.{total, activates, virtual_time}

-- the arrivals that made a class active, each with the total then, the newest first
abbrev pub arrivals_of : List HfscClass → HfscHistory → ℕ → List Opening
arrivals_of cs [] c = []
arrivals_of cs (Enqueued d at len ∷ h) c =
    if activates cs h d c then opening at (total cs h c) ∷ arrivals_of cs h c else arrivals_of cs h c
arrivals_of cs (Sent d len real start ∷ h) c = arrivals_of cs h c

-- the class is within its limit at a moment
abbrev pub within : Option Curve → List Opening → ℕ → ℕ → Bool
within None os now u = true
within (Some s) os now u = reaches s os now u

abbrev pub is_within : List HfscClass → HfscHistory → ℕ → ℕ → Bool
is_within cs h now c = within (class_of cs c).limit (arrivals_of cs h c) now (total cs h c)

-- the path of a leaf is open: the leaf and every class above it are within their limits
abbrev pub is_open : List HfscClass → HfscHistory → ℕ → ℕ → Bool
is_open cs h now d = list_all (is_within cs h now) (path cs d)

-- a packet waits in the leaf d, which is c or stands below it and whose path is open
abbrev pub may_share : List HfscClass → HfscHistory → ℕ → ℕ → Bool
may_share cs h now d = is_leaf cs d && (is_waiting (leaf h d).waiting && is_open cs h now d)

abbrev pub shares_under : List HfscClass → HfscHistory → ℕ → ℕ → Bool
shares_under cs h now c = list_any (λ d. is_under cs c d && may_share cs h now d) (numbers cs)

-- of the classes the one of least f, the first of several
abbrev pub least_by : (ℕ → ℕ) → List ℕ → Option ℕ
least_by f [] = None
least_by f (c ∷ cs) = elim (least_by f cs) [ None ↦ Some c | Some d ↦ if nat_le (f c) (f d) then Some c else Some d ]

-- down from a class by the child of least virtual time among those that stand on an open path of a waiting leaf, a tie
-- going to the class that stands earlier in the file, over at most `levels` levels
abbrev pub path_down : ℕ → List HfscClass → HfscHistory → ℕ → ℕ → ℕ
path_down zero cs h now c = c
path_down (suc levels) cs h now c =
    elim (least_by (virtual_time cs h) (filter (shares_under cs h now) (filter (is_child cs c) (numbers cs))))
    [ None ↦ c | Some d ↦ path_down levels cs h now d ]

-- the leaf that is sent by share, where some path is open; the first class is the root
abbrev pub share_pick : List HfscClass → HfscHistory → ℕ → Option ℕ
share_pick cs h now = if shares_under cs h now 0 then Some (path_down 8 cs h now 0) else None
