-- Histories in which link sharing alone decides.
use Rattle.std.specs.Prelude.{◌≡◌, ◌+◌, ◌*◌, ℕ, nat_lt, List, [], ◌∷◌, map, Option, None, Some, if◌then◌else◌}
use Rattle.std.specs.List.{filter}
use Rattle.play_base.specs.Units.{units}
use Rattle.service_curve.specs.declared.Curve.{Curve}
use Rattle.service_curve.specs.Curve.{amount, time_at}
use Rattle.hfsc_model.specs.declared.HfscClass.{HfscClass}
use Rattle.hfsc_model.specs.Event.{HfscHistory, Enqueued, Sent}
use Rattle.hfsc_model.specs.Choice.{choice}
use Rattle.hfsc_model.specs.RealTime.{curve_of}
use Rattle.hfsc_model.specs.Share.{greatest}
use Rattle.hfsc_model.specs.Timely.{longest}
use Rattle.hfsc_model.specs.Tree.{class_of, is_child, numbers, reals}
use Rattle.hfsc_policy.specs.Classes.{HaveNoLimits, IsClassTree}
use Rattle.hfsc_order.specs.Order.{HaveSlopes}

-- no class has a real-time curve, but for one that is 0 everywhere
abbrev pub HaveNoRealTime : List HfscClass → Type 0
HaveNoRealTime cs = (c : ℕ) → curve_of (reals cs) c ≡ None

-- classes among which link sharing alone decides; each link-sharing curve reaches every amount
pub record ShareAlone (cs : List HfscClass) : Type 0 where
  pub tree : IsClassTree cs
  pub slopes : HaveSlopes cs
  pub no_limits : HaveNoLimits cs
  pub no_real_time : HaveNoRealTime cs

-- each sending has the class and the rule of HFSC's choice at its start
abbrev pub AreChoices : List HfscClass → HfscHistory → Type 0
AreChoices cs [] = Unit {0}
AreChoices cs (Enqueued c at len ∷ h) = AreChoices cs h
AreChoices cs (Sent c len real start ∷ h) = (choice cs h start ≡ Some (record { class = c; real = real })) × AreChoices cs h

-- by how much, at most, a packet moves the virtual time of its class: the time that its units take at the second slope, and
-- where the curve rises the bend too
abbrev pub bend_of : Curve → ℕ
bend_of s = if nat_lt s.m1 s.m2 then s.d else 0

abbrev pub step_of : Option Curve → (sent : ℕ) → ℕ
step_of None u = 0
step_of (Some s) u = time_at s.m2 u + bend_of s

-- Δ: the greatest such step of the children of p, for the longest packet sent
abbrev pub most_step : List HfscClass → HfscHistory → (p : ℕ) → ℕ
most_step cs h p = greatest (map (λ c. step_of (class_of cs c).share (units (longest h))) (filter (is_child cs p) (numbers cs)))

-- the link-sharing curve of a class is the line of slope r
abbrev pub IsLine : Curve → (r : ℕ) → Type 0
IsLine s r = (t : ℕ) → amount s t ≡ r * t

pub record HasRate (cs : List HfscClass) (c r : ℕ) : Type 0 where
  pub curve : Curve
  pub has : (class_of cs c).share ≡ Some curve
  pub line : IsLine curve r
