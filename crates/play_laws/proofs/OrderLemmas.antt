-- Each class departs in order of number, no packet before it arrives, each with the link's end.
use Rattle.std.proofs.Common.{◌≡◌, ◌≤◌, ◌<◌, ◌+◌, ◌-◌, ◌∙◌, ◌⊎◌, inl, inr, ℕ, max, Bool, true, false, cond, List, [], ◌∷◌, ◌++◌, Some, refl, ap, sym, subst, arith}
use Rattle.std.specs.Prelude.{slice_get, ◌==◌, ◌&&◌}
use Rattle.std.specs.Option.{option_map_or}
use Rattle.std.specs.declared.option.Option.{Option}
use Rattle.std.proofs.lemmas.Bool.{eqb-true}
use Rattle.altq_model.specs.declared.Verdict.{Verdict}
use Rattle.altq_model.specs.History.{Offered, Sent, Arrival, DrawnWords, Event, LabelledEvent, unlabelled, offered, drawn, head, waiting, labels, is_kept, with_offer, without_head}
use Rattle.altq_model.specs.Link.{link, HasLinkEnds}
use Rattle.altq_model.specs.Laws.{AllBelow, sent_in, FollowsInOrder, IsOrdered, at_of, StartsAfter, IsNotBefore}
use Rattle.altq_model.specs.Play.{Policy}
use Rattle.altq_model.specs.Lawful.{IsLawful}
use Rattle.play_laws.specs.Events.{IsOffer, IsSending, EachFollows, IsOfArrival, AreOfArrivals}
use Rattle.play_laws.proofs.Starts.{head_of}
use Rattle.play_laws.proofs.DueLemmas.{offer_event}

-- these rise from above the first number up to the second
abbrev pub RisesTo : (low high : ℕ) → List ℕ → Type 0
RisesTo low high [] = low ≤ high
RisesTo low high (n ∷ ns) = (low < n) × RisesTo n high ns

pub rises_push : (low high n : ℕ) (ns : List ℕ) → high < n → RisesTo low high ns → RisesTo low n (ns ++ n ∷ [])
rises_push low high n [] l r = (omega arith, omega arith)
rises_push low high n (m ∷ ns) l r = (r.0, rises_push m high n ns l r.1)

pub rises_weaken : (low high n : ℕ) (ns : List ℕ) → high ≤ n → RisesTo low high ns → RisesTo low n ns
rises_weaken low high n [] l r = omega arith
rises_weaken low high n (m ∷ ns) l r = (r.0, rises_weaken m high n ns l r.1)

rises_if : (low high : ℕ) (k : Bool) (ns : List ℕ) → RisesTo low high ns → RisesTo low (high + 1) (cond k (ns ++ (high + 1) ∷ []) ns)
rises_if low high true ns r = rises_push low high (high + 1) ns (omega arith) r
rises_if low high false ns r = rises_weaken low high (high + 1) ns (omega arith) r

pub rises_offer : (low high : ℕ) (b : Bool) (v : Verdict) (ns : List ℕ) → RisesTo low high ns → RisesTo low (high + 1) (with_offer b v (high + 1) ns)
rises_offer low high b v ns r = rises_if low high (is_kept v && b) ns r

below_weaken : (m n : ℕ) (ns : List ℕ) → m ≤ n → AllBelow m ns → AllBelow n ns
below_weaken m n [] l b = tt
below_weaken m n (k ∷ ns) l b = (omega (arith, b.0), below_weaken m n ns l b.1)

-- the last number that was sent in a class, 0 at first
abbrev last : List ℕ → ℕ
last [] = 0
last (n ∷ ns) = n

-- of a class: what was sent, the count of offers, what waits
record IsSorted (ss : List ℕ) (high : ℕ) (ns : List ℕ) : Type 0 where
  sent : AllBelow (last ss + 1) ss
  rises : RisesTo (last ss) high ns

sorted_sent : (ss : List ℕ) (high n : ℕ) (ns : List ℕ) (b : Bool) → IsSorted ss high ns → (b ≡ true → slice_get ns 0 ≡ Some n)
    → IsSorted (cond b (n ∷ ss) ss) high (without_head b ns)
sorted_sent ss high n ns false x f = x
sorted_sent ss high n [] true x f = let e = f refl in absurd (cc)
sorted_sent ss high n (m ∷ ns) true x f =
    let e : Some m ≡ Some n = f refl in
    let same : m ≡ n = cc in
    let P : ℕ → Type 0 = λ k. IsSorted (k ∷ ss) high ns in
    subst P same (record {
      sent = (omega arith, below_weaken (last ss + 1) (m + 1) ss (omega (arith, x.rises.0)) x.sent);
      rises = x.rises.1;
    })

next_above : (ss : List ℕ) (high n : ℕ) (ns : List ℕ) → IsSorted ss high ns → slice_get ns 0 ≡ Some n → AllBelow n ss
next_above ss high n [] x e = absurd (cc)
next_above ss high n (m ∷ ns) x e =
    let same : m ≡ n = cc in
    let P : ℕ → Type 0 = λ k. AllBelow k ss in
    subst P same (below_weaken (last ss + 1) m ss (omega (arith, x.rises.0)) x.sent)

-- the label of a class's head, where the sending is of that class
pub own_label : (d c : ℕ) (g : List LabelledEvent) (n : ℕ) → slice_get (labels d g) 0 ≡ Some n → (d == c) ≡ true → slice_get (labels c g) 0 ≡ Some n
own_label d c g n e t = let P : ℕ → Type 0 = λ k. slice_get (labels k g) 0 ≡ Some n in subst P (eqb-true d c t) e

sorted_step : (p : Policy) (rate seed : ℕ) (arrived : List Arrival) (g : List LabelledEvent) (e : LabelledEvent) (c : ℕ)
    → IsSorted (sent_in c g) (offered (unlabelled g)) (labels c g) → IsOffer p rate seed arrived g e ⊎ IsSending p rate arrived g e
    → IsSorted (sent_in c (e ∷ g)) (offered (unlabelled (e ∷ g))) (labels c (e ∷ g))
sorted_step p rate seed arrived g e c x (inl y) =
    let P : LabelledEvent → Type 0 = λ z. IsSorted (sent_in c (z ∷ g)) (offered (unlabelled (z ∷ g))) (labels c (z ∷ g)) in
    let w : DrawnWords = record { seed = seed; drawn = drawn (unlabelled g) } in
    subst P (sym y.offer) (record {
      sent = x.sent;
      rises = rises_offer (last (sent_in c g)) (offered (unlabelled g)) (y.packet.class == c) (p.answer (unlabelled g) w y.packet).verdict (labels c g) x.rises;
    })
sorted_step p rate seed arrived g e c x (inr y) =
    let P : Event → Type 0 = λ z. let f : LabelledEvent = record { label = e.label; what = z } in
    IsSorted (sent_in c (f ∷ g)) (offered (unlabelled (f ∷ g))) (labels c (f ∷ g)) in
    subst P (sym y.event) (sorted_sent (sent_in c g) (offered (unlabelled g)) e.label (labels c g) (y.sending.class == c) x
    (λ t. own_label y.sending.class c g e.label y.number t))

sorted : (p : Policy) (rate seed : ℕ) (arrived : List Arrival) (g : List LabelledEvent) (c : ℕ) → EachFollows p rate seed arrived g
    → IsSorted (sent_in c g) (offered (unlabelled g)) (labels c g)
sorted p rate seed arrived [] c f = record { sent = tt; rises = omega arith }
sorted p rate seed arrived (e ∷ g) c f = sorted_step p rate seed arrived g e c (sorted p rate seed arrived g c f.1) f.0

order_step : (p : Policy) (rate seed : ℕ) (arrived : List Arrival) (g : List LabelledEvent) (e : LabelledEvent) → EachFollows p rate seed arrived g
    → IsOffer p rate seed arrived g e ⊎ IsSending p rate arrived g e → FollowsInOrder e.label e.what g
order_step p rate seed arrived g e f (inl y) =
    let P : Event → Type 0 = λ z. FollowsInOrder e.label z g in subst P (sym (offer_event p rate seed arrived g e y)) tt
order_step p rate seed arrived g e f (inr y) =
    let P : Event → Type 0 = λ z. FollowsInOrder e.label z g in
    let c : ℕ = y.sending.class in
    subst P (sym y.event) (next_above (sent_in c g) (offered (unlabelled g)) e.label (labels c g) (sorted p rate seed arrived g c f) y.number)

pub ordered : (p : Policy) (rate seed : ℕ) (arrived : List Arrival) (g : List LabelledEvent) → EachFollows p rate seed arrived g → IsOrdered g
ordered p rate seed arrived [] f = tt
ordered p rate seed arrived (e ∷ g) f = (order_step p rate seed arrived g e f.1 f.0, ordered p rate seed arrived g f.1)

-- what waits in a class is the arrivals of its labels
abbrev pub AreOf : List Arrival → List ℕ → List Arrival → Type 0
AreOf arrived [] [] = Unit {0}
AreOf arrived [] (a ∷ ws) = ⊥
AreOf arrived (n ∷ ns) [] = ⊥
AreOf arrived (n ∷ ns) (a ∷ ws) = (0 < n) × (slice_get arrived (n - 1) ≡ Some a) × AreOf arrived ns ws

of_push : (arrived : List Arrival) (n : ℕ) (a : Arrival) (ns : List ℕ) (ws : List Arrival) → AreOf arrived ns ws → 0 < n → slice_get arrived (n - 1) ≡ Some a
    → AreOf arrived (ns ++ n ∷ []) (ws ++ a ∷ [])
of_push arrived n a [] [] x l e = (l, e, tt)
of_push arrived n a [] (b ∷ ws) x l e = absurd x
of_push arrived n a (m ∷ ns) [] x l e = absurd x
of_push arrived n a (m ∷ ns) (b ∷ ws) x l e = (x.0, x.1, of_push arrived n a ns ws x.2 l e)

of_if : (arrived : List Arrival) (n : ℕ) (a : Arrival) (k : Bool) (ns : List ℕ) (ws : List Arrival) → AreOf arrived ns ws → 0 < n
    → slice_get arrived (n - 1) ≡ Some a → AreOf arrived (cond k (ns ++ n ∷ []) ns) (cond k (ws ++ a ∷ []) ws)
of_if arrived n a true ns ws x l e = of_push arrived n a ns ws x l e
of_if arrived n a false ns ws x l e = x

of_offer : (arrived : List Arrival) (n : ℕ) (a : Arrival) (b : Bool) (v : Verdict) (ns : List ℕ) (ws : List Arrival) → AreOf arrived ns ws → 0 < n
    → slice_get arrived (n - 1) ≡ Some a → AreOf arrived (with_offer b v n ns) (with_offer b v a ws)
of_offer arrived n a b v ns ws x l e = of_if arrived n a (is_kept v && b) ns ws x l e

of_rest : (arrived : List Arrival) (b : Bool) (ns : List ℕ) (ws : List Arrival) → AreOf arrived ns ws → AreOf arrived (without_head b ns) (without_head b ws)
of_rest arrived false ns ws x = x
of_rest arrived true [] [] x = x
of_rest arrived true [] (b ∷ ws) x = absurd x
of_rest arrived true (m ∷ ns) [] x = absurd x
of_rest arrived true (m ∷ ns) (b ∷ ws) x = x.2

of_step : (p : Policy) (rate seed : ℕ) (arrived : List Arrival) (g : List LabelledEvent) (e : LabelledEvent) (c : ℕ) → AreOf arrived (labels c g) (waiting c (unlabelled g))
    → IsOffer p rate seed arrived g e ⊎ IsSending p rate arrived g e → AreOf arrived (labels c (e ∷ g)) (waiting c (unlabelled (e ∷ g)))
of_step p rate seed arrived g e c x (inl y) =
    let P : LabelledEvent → Type 0 = λ z. AreOf arrived (labels c (z ∷ g)) (waiting c (unlabelled (z ∷ g))) in
    let w : DrawnWords = record { seed = seed; drawn = drawn (unlabelled g) } in
    let k : offered (unlabelled g) + 1 - 1 ≡ offered (unlabelled g) = omega arith in
    subst P (sym y.offer) (of_offer arrived (offered (unlabelled g) + 1) y.packet (y.packet.class == c) (p.answer (unlabelled g) w y.packet).verdict
    (labels c g) (waiting c (unlabelled g)) x (omega arith) (ap (slice_get arrived) k ∙ y.next))
of_step p rate seed arrived g e c x (inr y) =
    let P : Event → Type 0 = λ z. let f : LabelledEvent = record { label = e.label; what = z } in AreOf arrived (labels c (f ∷ g)) (waiting c (unlabelled (f ∷ g))) in
    subst P (sym y.event) (of_rest arrived (y.sending.class == c) (labels c g) (waiting c (unlabelled g)) x)

pub waiting_of : (p : Policy) (rate seed : ℕ) (arrived : List Arrival) (g : List LabelledEvent) (c : ℕ) → EachFollows p rate seed arrived g
    → AreOf arrived (labels c g) (waiting c (unlabelled g))
waiting_of p rate seed arrived [] c f = tt
waiting_of p rate seed arrived (e ∷ g) c f = of_step p rate seed arrived g e c (waiting_of p rate seed arrived g c f.1) f.0

-- the head's label is the number of its arrival
pub record IsNumbered (arrived : List Arrival) (n : ℕ) (a : Arrival) : Type 0 where
  pub from_one : 0 < n
  pub there : slice_get arrived (n - 1) ≡ Some a

numbered : (arrived : List Arrival) (ns : List ℕ) (ws : List Arrival) (n : ℕ) (a : Arrival) → AreOf arrived ns ws → slice_get ns 0 ≡ Some n → slice_get ws 0 ≡ Some a
    → IsNumbered arrived n a
numbered arrived [] ws n a x e f = absurd (cc)
numbered arrived (m ∷ ns) [] n a x e f = absurd x
numbered arrived (m ∷ ns) (b ∷ ws) n a x e f =
    let s : m ≡ n = cc in
    let t : b ≡ a = cc in
    let P : ℕ → Type 0 = λ k. IsNumbered arrived k a in
    subst P s (record { from_one = x.0; there = x.1 ∙ ap (λ (y : Arrival). Some y) t })

pub head_numbered : (p : Policy) (rate seed : ℕ) (arrived : List Arrival) (g : List LabelledEvent) (c n : ℕ) (a : Arrival) → EachFollows p rate seed arrived g
    → slice_get (labels c g) 0 ≡ Some n → head c (unlabelled g) ≡ Some a → IsNumbered arrived n a
head_numbered p rate seed arrived g c n a f e h = numbered arrived (labels c g) (waiting c (unlabelled g)) n a (waiting_of p rate seed arrived g c f) e h

pub at_numbered : (arrived : List Arrival) (n : ℕ) (a : Arrival) → slice_get arrived (n - 1) ≡ Some a → at_of arrived n ≡ a.at
at_numbered arrived n a e = ap (λ (o : Option Arrival). option_map_or (λ (x : Arrival). x.at) o 0) e

-- what waits in a class is of that class
abbrev AllOfClass : (c : ℕ) → List Arrival → Type 0
AllOfClass c [] = Unit {0}
AllOfClass c (a ∷ ws) = (a.class ≡ c) × AllOfClass c ws

class_push : (c : ℕ) (a : Arrival) (ws : List Arrival) → AllOfClass c ws → a.class ≡ c → AllOfClass c (ws ++ a ∷ [])
class_push c a [] x e = (e, tt)
class_push c a (b ∷ ws) x e = (x.0, class_push c a ws x.1 e)

class_if : (c : ℕ) (a : Arrival) (k b : Bool) (ws : List Arrival) → (a.class == c) ≡ b → AllOfClass c ws → AllOfClass c (cond (k && b) (ws ++ a ∷ []) ws)
class_if c a true true ws t x = class_push c a ws x (eqb-true a.class c t)
class_if c a true false ws t x = x
class_if c a false b ws t x = x

class_offer : (c : ℕ) (a : Arrival) (b : Bool) (v : Verdict) (ws : List Arrival) → (a.class == c) ≡ b → AllOfClass c ws → AllOfClass c (with_offer b v a ws)
class_offer c a b v ws t x = class_if c a (is_kept v) b ws t x

class_rest : (c : ℕ) (b : Bool) (ws : List Arrival) → AllOfClass c ws → AllOfClass c (without_head b ws)
class_rest c false ws x = x
class_rest c true [] x = tt
class_rest c true (a ∷ ws) x = x.1

waiting_class : (c : ℕ) (h : List Event) → AllOfClass c (waiting c h)
waiting_class c [] = tt
waiting_class c (Offered a w v ∷ h) = class_offer c a (a.class == c) v.verdict (waiting c h) refl (waiting_class c h)
waiting_class c (Sent s ∷ h) = class_rest c (s.class == c) (waiting c h) (waiting_class c h)

first_class : (c : ℕ) (ws : List Arrival) (a : Arrival) → AllOfClass c ws → slice_get ws 0 ≡ Some a → c ≡ a.class
first_class c [] a x e = absurd (cc)
first_class c (b ∷ ws) a x e = let same : b ≡ a = cc in sym x.0 ∙ ap (λ (y : Arrival). y.class) same

arrival_step : (p : Policy) (rate seed : ℕ) (arrived : List Arrival) (g : List LabelledEvent) (e : LabelledEvent) → EachFollows p rate seed arrived g
    → IsOffer p rate seed arrived g e ⊎ IsSending p rate arrived g e → IsOfArrival arrived e.label e.what
arrival_step p rate seed arrived g e f (inl y) =
    let P : LabelledEvent → Type 0 = λ z. IsOfArrival arrived z.label z.what in
    let k : offered (unlabelled g) + 1 - 1 ≡ offered (unlabelled g) = omega arith in
    subst P (sym y.offer) (omega arith, ap (slice_get arrived) k ∙ y.next)
arrival_step p rate seed arrived g e f (inr y) =
    let P : Event → Type 0 = λ z. IsOfArrival arrived e.label z in
    let c : ℕ = y.sending.class in
    let n = head_numbered p rate seed arrived g c e.label y.packet f y.number y.front in
    subst P (sym y.event) (record {
      packet = y.packet;
      from_one = n.from_one;
      arrival = n.there;
      class = first_class c (waiting c (unlabelled g)) y.packet (waiting_class c (unlabelled g)) y.front;
      len = y.len;
    })

pub of_arrivals : (p : Policy) (rate seed : ℕ) (arrived : List Arrival) (g : List LabelledEvent) → EachFollows p rate seed arrived g → AreOfArrivals arrived g
of_arrivals p rate seed arrived [] f = tt
of_arrivals p rate seed arrived (e ∷ g) f = (arrival_step p rate seed arrived g e f.1 f.0, of_arrivals p rate seed arrived g f.1)

-- a sending starts no earlier than the last end, nor than its packet's arrival
pub record StartsLate (free at start : ℕ) : Type 0 where
  pub after_free : free ≤ start
  pub after_at : at ≤ start

pub starts_late : (p : Policy) (rate : ℕ) (arrived : List Arrival) (g : List LabelledEvent) (e : LabelledEvent) → IsLawful p → (y : IsSending p rate arrived g e)
    → StartsLate (link rate (unlabelled g)).free y.packet.at y.sending.start
starts_late p rate arrived g e law y =
    let f : ℕ = (link rate (unlabelled g)).free in
    let x = head_of p f (unlabelled g) y.sending.class y.sending.start y.may.start in
    let j : Some x.packet ≡ Some y.packet = sym x.front ∙ y.front in
    let same : x.packet ≡ y.packet = cc in
    let l = law.later (unlabelled g) y.sending.class (max f x.packet.at) x.packet (record { held = y.may.held; front = x.front }) in
    let P : Arrival → Type 0 = λ a. StartsLate f a.at y.sending.start in
    subst P same (record { after_free = omega (arith, l, x.start); after_at = omega (arith, l, x.start) })

not_before_step : (p : Policy) (rate seed : ℕ) (arrived : List Arrival) (g : List LabelledEvent) (e : LabelledEvent) → IsLawful p → EachFollows p rate seed arrived g
    → IsOffer p rate seed arrived g e ⊎ IsSending p rate arrived g e → StartsAfter arrived e.label e.what
not_before_step p rate seed arrived g e law f (inl y) =
    let P : Event → Type 0 = λ z. StartsAfter arrived e.label z in subst P (sym (offer_event p rate seed arrived g e y)) tt
not_before_step p rate seed arrived g e law f (inr y) =
    let P : Event → Type 0 = λ z. StartsAfter arrived e.label z in
    let n = head_numbered p rate seed arrived g y.sending.class e.label y.packet f y.number y.front in
    let l = starts_late p rate arrived g e law y in
    subst P (sym y.event) (omega (arith, at_numbered arrived e.label y.packet n.there, l.after_at))

pub not_before : (p : Policy) (rate seed : ℕ) (arrived : List Arrival) (g : List LabelledEvent) → IsLawful p → EachFollows p rate seed arrived g → IsNotBefore arrived g
not_before p rate seed arrived [] law f = tt
not_before p rate seed arrived (e ∷ g) law f = (not_before_step p rate seed arrived g e law f.1 f.0, not_before p rate seed arrived g law f.1)

ends_step : (p : Policy) (rate seed : ℕ) (arrived : List Arrival) (g : List LabelledEvent) (e : LabelledEvent) → IsLawful p → HasLinkEnds rate (unlabelled g)
    → IsOffer p rate seed arrived g e ⊎ IsSending p rate arrived g e → HasLinkEnds rate (unlabelled (e ∷ g))
ends_step p rate seed arrived g e law x (inl y) =
    let P : Event → Type 0 = λ z. HasLinkEnds rate (z ∷ unlabelled g) in subst P (sym (offer_event p rate seed arrived g e y)) x
ends_step p rate seed arrived g e law x (inr y) =
    let P : Event → Type 0 = λ z. HasLinkEnds rate (z ∷ unlabelled g) in
    subst P (sym y.event) ((starts_late p rate arrived g e law y).after_free, y.end, x)

pub link_ends : (p : Policy) (rate seed : ℕ) (arrived : List Arrival) (g : List LabelledEvent) → IsLawful p → EachFollows p rate seed arrived g → HasLinkEnds rate (unlabelled g)
link_ends p rate seed arrived [] law f = tt
link_ends p rate seed arrived (e ∷ g) law f = ends_step p rate seed arrived g e law (link_ends p rate seed arrived g law f.1) f.0
