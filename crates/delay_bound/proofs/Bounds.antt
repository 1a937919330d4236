-- A packet of traffic that its curve serves ends within the bound.
use Rattle.std.proofs.Common.{◌≡◌, ◌≤◌, ◌<◌, ◌+◌, ◌-◌, ◌*◌, ◌⊎◌, inl, inr, ℕ, Bool, true, false, List, [], ◌∷◌, None, Some, refl, ap, subst, sym, arith}
use Rattle.std.specs.Prelude.{Option, IsSome, nat_le, nat_lt, option_map, if◌then◌else◌, ◌==◌}
use Rattle.std.proofs.lemmas.Bool.Decides.{nat_tests}
use Rattle.play_base.specs.Units.{units, ceil_div, time_of}
use Rattle.service_curve.specs.declared.Curve.{Curve}
use Rattle.service_curve.specs.Curve.{amount, first, time_at}
use Rattle.runtime_curve.specs.Opening.{Reaches, opening}
use Rattle.altq_model.specs.Busy.{IsBusy}
use Rattle.altq_model.specs.History.{Arrival, Event, Offered, Sent, LabelledEvent, unlabelled, offered}
use Rattle.altq_model.specs.Lawful.{AreRising, IsLawful}
use Rattle.altq_model.specs.Link.{HasLinkEnds}
use Rattle.altq_model.specs.Play.{Policy, AreDue}
use Rattle.altq_model.specs.Policies.{Answering}
use Rattle.discipline.specs.Moments.{IsOrderly}
use Rattle.hfsc_model.specs.declared.HfscClass.{HfscClass}
use Rattle.hfsc_model.specs.Timely.{Row, AreTimely, FitLink, IsTimely, longest, opens, rows, units_of}
use Rattle.hfsc_model.specs.Tree.{reals}
use Rattle.hfsc_laws.proofs.Past.{ceil_mono}
use Rattle.hfsc_policy.specs.Classes.{IsClassTree}
use Rattle.hfsc_policy.specs.Events.{hfsc_history}
use Rattle.hfsc_policy.specs.Heads.{AreSized}
use Rattle.hfsc_policy.specs.Policy.{hfsc_policy}
use Rattle.hfsc_policy.proofs.Lawful.{lawful}
use Rattle.hfsc_policy.proofs.Orderly.{timely_in_order}
use Rattle.hfsc_policy.proofs.Plays.{play_timely}
use Rattle.play_laws.specs.Events.{IsOffer, IsSending}
use Rattle.play_laws.proofs.DueLemmas.{offer_event}
use Rattle.play_laws.proofs.TimeLemmas.{IsOnTime, follows, on_time}
use Rattle.delay_bound.specs.Bound.{EndWithin, IsServed, KeepsBounds, OffersRise, bound, offers_in}
use Rattle.delay_bound.proofs.Growth.{burst_served}
use Rattle.delay_bound.proofs.Conforming.{Keep, Within, conforming_keep}
use Rattle.delay_bound.proofs.Kept.{offers_in_order, sent_keep, sent_rows}

-- the curve gives a burst at t, and from there on at least this rate
abbrev Serves : Curve → (rate burst t : ℕ) → Type 0
Serves s rate burst t = (x : ℕ) → units burst + rate * x ≤ amount s (t + x)

-- from one opening on
one_opens : (s : Curve) (rate burst t at from more : ℕ) → Serves s rate burst t → from ≤ at → more ≤ units burst + rate * (at - from)
    → more ≤ amount s ((at + t) - from)
one_opens s rate burst t at from more g h k =
    let one = g (at - from) in
    let time : t + (at - from) ≡ (at + t) - from = omega arith in
    let two = ap (λ n. amount s n) time in
    omega arith

each_opens : (s : Curve) (rate burst t at n total : ℕ) (rs : List Row) → Serves s rate burst t → total ≡ n + units_of rs
    → Within rate burst at n (sent_rows rs) → Reaches s (opens rs) (at + t) total
each_opens s rate burst t at n total [] g e a = tt
each_opens s rate burst t at n total (r ∷ []) g e a =
    let one = one_opens s rate burst t at r.at (n + units r.len) g a.0 a.1 in
    (omega arith, tt)
each_opens s rate burst t at n total (r ∷ q ∷ rs) g e a =
    go (nat_lt q.start r.at) (each_opens s rate burst t at (n + units r.len) total (q ∷ rs) g (omega arith) a.2)
  where
    go : (b : Bool) → Reaches s (opens (q ∷ rs)) (at + t) total
        → Reaches s (if b then opening r.at (units_of (q ∷ rs)) ∷ opens (q ∷ rs) else opens (q ∷ rs)) (at + t) total
    go true x =
        let one = one_opens s rate burst t at r.at (n + units r.len) g a.0 a.1 in
        (omega (arith, one, e), x)
    go false x = x

rows_within : (s : Curve) (rate burst t most : ℕ) (rs : List Row) → Serves s rate burst t → AreTimely s most rs → Keep rate burst (sent_rows rs)
    → EndWithin (t + most) rs
rows_within s rate burst t most [] g x k = tt
rows_within s rate burst t most (r ∷ rs) g x k = (
  (let one = x.0 (r.at + t) (each_opens s rate burst t r.at 0 (units_of (r ∷ rs)) (r ∷ rs) g (omega arith) k.0) in omega arith),
  rows_within s rate burst t most rs g x.1 k.1,
)

ends_more : (x y : ℕ) (rs : List Row) → x ≤ y → EndWithin x rs → EndWithin y rs
ends_more x y [] h a = tt
ends_more x y (r ∷ rs) h a = (omega (arith, a.0), ends_more x y rs h a.1)

pub keeps_bounds : (cs : List HfscClass) (link_rate : ℕ) (h : List Event) → 0 < link_rate → OffersRise h → IsTimely link_rate (reals cs) (hfsc_history h)
    → KeepsBounds cs link_rate h
keeps_bounds cs link_rate h z o x = λ c s rate burst most n served conforms short is.
    let sent = sent_keep link_rate rate burst c h (conforming_keep rate burst (offers_in c h) (offers_in_order c h o) conforms) in
    let timely = x c s served.curve in
    let time = ceil_mono link_rate (units (longest (hfsc_history h))) (units most) z (omega (arith, short)) in
    go c s rate burst most n served sent timely time (first s (units burst)) refl is
  where
    go : (c : ℕ) (s : Curve) (rate burst most n : ℕ) → IsServed cs c s rate burst → Keep rate burst (sent_rows (rows link_rate (hfsc_history h) c))
        → AreTimely s (ceil_div (units (longest (hfsc_history h))) link_rate) (rows link_rate (hfsc_history h) c)
        → ceil_div (units (longest (hfsc_history h))) link_rate ≤ time_of most link_rate
        → (f : Option ℕ) → first s (units burst) ≡ f → option_map (λ t. t + time_of most link_rate) f ≡ Some n → EndWithin n (rows link_rate (hfsc_history h) c)
    go c s rate burst most n served sent timely time None e is = absurd cc
    go c s rate burst most n served sent timely time (Some t) e is =
        let whole : t + time_of most link_rate ≡ n = cc in
        ends_more (t + ceil_div (units (longest (hfsc_history h))) link_rate) n (rows link_rate (hfsc_history h) c) (omega (arith, time, whole))
        (rows_within s rate burst t (ceil_div (units (longest (hfsc_history h))) link_rate) (rows link_rate (hfsc_history h) c)
        (λ x. burst_served s rate burst t x served.rises served.second served.some e) timely sent)

orderly_rise : (p : Policy) (h : List Event) → IsOrderly p h → OffersRise h
orderly_rise p [] o = tt
orderly_rise p (Offered a w v ∷ h) o = (o.0.arrived, orderly_rise p h o.2)
orderly_rise p (Sent s ∷ h) o = orderly_rise p h o.1

pub histories_keep : (cs : List HfscClass) (answer : Answering) (rate : ℕ) (h : List Event) → 0 < rate → IsClassTree cs → IsOrderly (hfsc_policy cs answer) h
    → HasLinkEnds rate h → IsBusy (hfsc_policy cs answer) rate h → FitLink rate (reals cs) → KeepsBounds cs rate h
histories_keep cs answer rate h z k o e b fit =
    keeps_bounds cs rate h z (orderly_rise (hfsc_policy cs answer) h o) (timely_in_order cs answer rate h z k o e b fit)

module _ (p : Policy) (rate seed : ℕ) (arrived : List Arrival) (pos : 0 < rate) (law : IsLawful p) (rise : AreRising arrived) where
  event_rises : (g : List LabelledEvent) (e : LabelledEvent) → IsOffer p rate seed arrived g e ⊎ IsSending p rate arrived g e → IsOnTime p rate arrived (unlabelled g)
      → OffersRise (unlabelled g) → OffersRise (unlabelled (e ∷ g))
  event_rises g e (inl x) t r =
      subst (λ (z : Event). OffersRise (z ∷ unlabelled g)) (sym (offer_event p rate seed arrived g e x)) (t.comes (offered (unlabelled g)) x.packet (omega arith) x.next, r)
  event_rises g e (inr y) t r = subst (λ (z : Event). OffersRise (z ∷ unlabelled g)) (sym y.event) r

  due_rise : (g : List LabelledEvent) → AreDue p rate seed arrived g → OffersRise (unlabelled g)
  due_rise [] d = tt
  due_rise (e ∷ g) d =
      let t = on_time p rate seed arrived g pos law rise d.1 in
      event_rises g e (follows p rate seed arrived g e law t d.0) t (due_rise g d.1)

pub plays_keep : (cs : List HfscClass) (answer : Answering) (rate seed : ℕ) (arrived : List Arrival) → 0 < rate → IsClassTree cs → AreSized arrived
    → (g : List LabelledEvent) → AreRising arrived → AreDue (hfsc_policy cs answer) rate seed arrived g → FitLink rate (reals cs) → KeepsBounds cs rate (unlabelled g)
plays_keep cs answer rate seed arrived z k sized g rise d fit =
    keeps_bounds cs rate (unlabelled g) z (due_rise (hfsc_policy cs answer) rate seed arrived z (lawful cs answer k) rise g d)
    (play_timely cs answer rate seed arrived z k sized g rise d fit)

pub bound_is_there : (s : Curve) (link_rate most burst : ℕ) → 0 < s.m2 → IsSome (bound s link_rate most burst)
bound_is_there s link_rate most burst z = go (nat_le (units burst) (s.m1 * s.d)) (s.m2 == 0) refl
  where
    go : (a b : Bool) → (s.m2 == 0) ≡ b
        → IsSome (option_map (λ t. t + time_of most link_rate) (if a then Some (time_at s.m1 (units burst)) else if b then None
        else Some (s.d + time_at s.m2 (units burst - s.m1 * s.d))))
    go true b e = refl
    go false true e = absurd (grind (arith, nat_tests, e, z))
    go false false e = refl
