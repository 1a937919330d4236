-- HFSC as a policy: from when on a leaf may send, and which leaf is chosen.
use Rattle.std.specs.Prelude.{ℕ, min, max, List, [], ◌∷◌, Option, None, Some}
use Rattle.service_curve.specs.declared.Curve.{Curve}
use Rattle.runtime_curve.specs.declared.Opening.{Opening}
use Rattle.runtime_curve.specs.Opening.{eligible_curve}
use Rattle.runtime_curve.specs.Deadline.{deadline, later_of}
use Rattle.altq_model.specs.declared.Rule.TheVariants.{Share}
use Rattle.altq_model.specs.Play.{Policy, Choice}
use Rattle.altq_model.specs.Policies.{Answering}
use Rattle.hfsc_model.specs.declared.HfscClass.{HfscClass}
use Rattle.hfsc_model.specs.Event.{HfscHistory}
use Rattle.hfsc_model.specs.Leaf.{Leaf, leaf}
use Rattle.hfsc_model.specs.Tree.{class_of, path, reals}
use Rattle.hfsc_model.specs.RealTime.{curve_of}
use Rattle.hfsc_model.specs.Share.{total}
use Rattle.hfsc_model.specs.Limit.{arrivals_of}
use Rattle.hfsc_model.specs.Choice.{choice, Choice as Chosen}
use Rattle.hfsc_policy.specs.Events.{hfsc_history, rule_of}
use Rattle.hfsc_policy.specs.Classes.{leaves}

-- the first moment at which the head of a class is eligible, while one waits; `None` means never
abbrev pub eligible_from : Option Curve → Leaf → Option ℕ
eligible_from None l = None
eligible_from (Some s) l = deadline (eligible_curve s) l.openings l.count

-- the first moment at which a class is within its limit
abbrev pub within_from : Option Curve → List Opening → ℕ → Option ℕ
within_from None os u = Some 0
within_from (Some s) os u = deadline s os u

-- the first moment at which all classes of a path are within their limits
abbrev pub open_from : List HfscClass → HfscHistory → List ℕ → Option ℕ
open_from cs h [] = Some 0
open_from cs h (c ∷ up) = later_of (within_from (class_of cs c).limit (arrivals_of cs h c) (total cs h c)) (open_from cs h up)

-- the earlier of two moments; `None` means never, and is later than every moment
abbrev pub earlier_of : Option ℕ → Option ℕ → Option ℕ
earlier_of None b = b
earlier_of (Some x) None = Some x
earlier_of (Some x) (Some y) = Some (min x y)

-- the first moment at which a leaf in which a packet waits may send: by real time or by share
abbrev pub send_from : List HfscClass → HfscHistory → ℕ → Option ℕ
send_from cs h c = earlier_of (eligible_from (curve_of (reals cs) c) (leaf h c)) (open_from cs h (path cs c))

-- the later of two moments, the second of which is there wherever limits rise without end
abbrev pub not_before : ℕ → Option ℕ → ℕ
not_before t None = t
not_before t (Some u) = max t u

abbrev pub choice_of : Option Chosen → Choice
choice_of None = record { class = 0; rule = Share }
choice_of (Some x) = record { class = x.class; rule = rule_of x.real }

-- the leaves of these classes send, whose queues answer so
abbrev pub hfsc_policy : List HfscClass → Answering → Policy
hfsc_policy cs answer = record {
  classes = leaves cs;
  answer = answer;
  start_from = λ h c t. not_before t (send_from cs (hfsc_history h) c);
  pick = λ h t. choice_of (choice cs (hfsc_history h) t);
}
