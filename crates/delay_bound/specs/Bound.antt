-- How long a packet of a leaf takes at most, after Stoica, Zhang and Ng, "A Hierarchical Fair Service Curve Algorithm for
-- Link-Sharing, Real-Time and Priority Services", SIGCOMM 1997. That a service curve bounds the delay of traffic that keeps to a rate
-- and a burst is of Cruz, "A Calculus for Network Delay", IEEE Transactions on Information Theory 1991. Moments are nanoseconds,
-- rates bits per second, lengths and bursts bytes.
use Rattle.std.specs.Prelude.{◌≡◌, ◌≤◌, ◌+◌, ◌==◌, ℕ, List, [], ◌∷◌, Option, Some, option_map, if◌then◌else◌}
use Rattle.play_base.specs.Units.{units, time_of}
use Rattle.service_curve.specs.declared.Curve.{Curve}
use Rattle.service_curve.specs.Curve.{first}
use Rattle.runtime_curve.specs.Opening.{RisesFromZero}
use Rattle.traffic_meter.specs.Conforming.{Conforms}
use Rattle.traffic_meter.specs.History.{Metered}
use Rattle.altq_model.specs.History.{Arrival, Event, Offered, Sent}
use Rattle.altq_model.specs.Lawful.{latest}
use Rattle.hfsc_model.specs.declared.HfscClass.{HfscClass}
use Rattle.hfsc_model.specs.RealTime.{curve_of}
use Rattle.hfsc_model.specs.Timely.{Row, longest, rows}
use Rattle.hfsc_model.specs.Tree.{reals}
use Rattle.hfsc_policy.specs.Events.{hfsc_history}

-- a packet as a meter sees it
abbrev pub metered : Arrival → Metered
metered a = record { moment = a.at; len = a.len }

-- the packets that were offered to a class, dropped ones too, the newest first
abbrev pub offers_in : (c : ℕ) → List Event → List Metered
offers_in c [] = []
offers_in c (Offered a w v ∷ h) = if a.class == c then metered a ∷ offers_in c h else offers_in c h
offers_in c (Sent s ∷ h) = offers_in c h

-- the bound: the first moment at which the curve gives a whole burst, and the time of the longest packet on the link
abbrev pub bound : Curve → (link_rate most burst : ℕ) → Option ℕ
bound s link_rate most burst = option_map (λ t. t + time_of most link_rate) (first s (units burst))

-- a class has this real-time curve, whose second slope is at least this rate; a slope that rises rises from 0
pub record IsServed (cs : List HfscClass) (c : ℕ) (s : Curve) (rate burst : ℕ) : Type 0 where
  pub curve : curve_of (reals cs) c ≡ Some s
  pub rises : RisesFromZero s
  pub second : rate ≤ s.m2
  pub some : 1 ≤ burst

-- each packet that was sent ends at most `most` after it arrived
abbrev pub EndWithin : (most : ℕ) → List Row → Type 0
EndWithin most [] = Unit {0}
EndWithin most (r ∷ rs) = (r.end ≤ r.at + most) × EndWithin most rs

-- whatever the other classes do: where the packets offered to a class keep to a rate and a burst that its curve serves, and no packet
-- sent on the link is longer than `most`, each of them that is sent ends within the bound
abbrev pub KeepsBounds : List HfscClass → (link_rate : ℕ) → List Event → Type 0
KeepsBounds cs link_rate h = (c : ℕ) (s : Curve) (rate burst most n : ℕ) → IsServed cs c s rate burst → Conforms rate burst (offers_in c h)
    → longest (hfsc_history h) ≤ most → bound s link_rate most burst ≡ Some n → EndWithin n (rows link_rate (hfsc_history h) c)

-- no packet is offered before one that was offered earlier
abbrev pub OffersRise : List Event → Type 0
OffersRise [] = Unit {0}
OffersRise (Offered a w v ∷ h) = (latest h ≤ a.at) × OffersRise h
OffersRise (Sent s ∷ h) = OffersRise h
