-- What an interface promises of each play of it.
use Rattle.std.specs.Prelude.{◌≡◌, ℕ, List, [], ◌∷◌}
use Rattle.altq_model.specs.History.{Arrival, Event, Offered, Sent, LabelledEvent, Sending, unlabelled}
use Rattle.altq_model.specs.Idle.{NeverIdles}
use Rattle.conf_tree.specs.declared.interface.Interface.{Interface}
use Rattle.conf_tree.specs.declared.interface.Kind.TheVariants.{Hfsc, Cbq}
use Rattle.admission.specs.Fit.{Fits}
use Rattle.link_fit.specs.Curves.{curves_of}
use Rattle.hfsc_model.specs.Link.{free, run_after}
use Rattle.hfsc_model.specs.Timely.{IsTimely}
use Rattle.hfsc_model.specs.Tree.{reals}
use Rattle.hfsc_policy.specs.Classes.{HaveNoLimits}
use Rattle.hfsc_policy.specs.Events.{hfsc_history}
use Rattle.cbq_model.specs.Capped.{KeepsItsRate}
use Rattle.cbq_rounds.specs.Kept.{IsOwnStretch}
use Rattle.interface_policy.specs.Classes.{hfsc_classes, cbq_classes}

-- each end of a history is the one by which its packets are timely
abbrev pub AreTheirEnds : (rate : ℕ) → List Event → Type 0
AreTheirEnds rate [] = Unit {0}
AreTheirEnds rate (Offered a w v ∷ h) = AreTheirEnds rate h
AreTheirEnds rate (Sent s ∷ h) = (s.end ≡ free rate (run_after rate (hfsc_history (Sent s ∷ h)))) × AreTheirEnds rate h

-- HFSC. Where no class has an upper limit, the link never idles while a packet waits. Where the real-time curves fit the link, each
-- packet of a leaf with such a curve ends at most the time of the longest packet, rounded up, after each moment that is due for it;
-- due moments are those of arrivals, starts and ends alone, whatever the rule
pub record KeepsHfsc (i : Interface) (arrived : List Arrival) (g : List LabelledEvent) : Type 0 where
  pub never_idles : HaveNoLimits (hfsc_classes i.classes) → NeverIdles i.rate arrived g
  pub ends : AreTheirEnds i.rate (unlabelled g)
  pub timely : Fits i.rate (curves_of i) → IsTimely i.rate (reals (hfsc_classes i.classes)) (hfsc_history (unlabelled g))

-- CBQ. Within each stretch in which a class without children, not the root, does not borrow, it is at most one burst and one packet
-- ahead of 32/31 of its rate
pub record KeepsCbq (i : Interface) (g : List LabelledEvent) : Type 0 where
  pub capped : (c : ℕ) (last : Sending) (between : List Event) (first : Sending)
      → IsOwnStretch (cbq_classes i.classes) c (unlabelled g) last between first → KeepsItsRate (cbq_classes i.classes) c last between first

pub record KeepsPromises (i : Interface) (arrived : List Arrival) (g : List LabelledEvent) : Type 0 where
  pub hfsc : i.kind ≡ Hfsc → KeepsHfsc i arrived g
  pub cbq : i.kind ≡ Cbq → KeepsCbq i g
