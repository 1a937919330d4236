-- For a policy that never waits a busy link is one that never idles.
use Rattle.std.proofs.Common.{◌≡◌, ◌≤◌, ◌<◌, ◌⊎◌, inl, inr, ℕ, max, Bool, true, false, cond, List, [], ◌∷◌, ◌++◌, Some, refl, ap, sym, subst, arith}
use Rattle.std.specs.Prelude.{slice_get, nat_lt, ◌==◌, ◌&&◌, ◌↔◌}
use Rattle.std.proofs.lemmas.Bool.{ltb-true, ltb-false}
use Rattle.altq_model.specs.History.{Arrival, Answer, DrawnWords, Event, Offered, Sent, LabelledEvent, unlabelled, drawn, offered, head, waiting, is_kept}
use Rattle.altq_model.specs.Busy.{as_of, SomeMaySend, IsLeastStart}
use Rattle.play_laws.specs.Heads.{StartsWithHead, ComeInOrder}
use Rattle.altq_model.specs.Lawful.{AreRising, IsHead, IsLawful, NeverWaits, latest}
use Rattle.altq_model.specs.Link.{link}
use Rattle.altq_model.specs.Play.{Policy, AreDue}
use Rattle.play_laws.specs.Events.{IsOffer, IsSending}
use Rattle.play_laws.proofs.DueLemmas.{offer_event}
use Rattle.play_laws.proofs.LinkLemmas.{end_later}
use Rattle.play_laws.proofs.TimeLemmas.{IsOnTime, follows, head_latest, head_stays, on_time}

-- what was the head is the head still
head_later_case : (c u : ℕ) (a : Arrival) (w : DrawnWords) (v : Answer) (h : List Event) (b : Bool) (x : Arrival) → (head c (as_of u h) ≡ Some x → head c h ≡ Some x)
    → head c (cond b (as_of u h) (Offered a w v ∷ h)) ≡ Some x → head c (Offered a w v ∷ h) ≡ Some x
head_later_case c u a w v h true x f e = head_stays c h a w v x (f e)
head_later_case c u a w v h false x f e = e

head_later : (c u : ℕ) (h : List Event) (x : Arrival) → head c (as_of u h) ≡ Some x → head c h ≡ Some x
head_later c u [] x e = e
head_later c u (Offered a w v ∷ h) x e = head_later_case c u a w v h (nat_lt u a.at) x (head_later c u h x) e
head_later c u (Sent s ∷ h) x e = e

-- a head that came by a moment was the head as of it
first_kept : (k : Bool) (a x : Arrival) (xs : List Arrival) → slice_get (cond k (xs ++ a ∷ []) xs) 0 ≡ Some x → (slice_get xs 0 ≡ Some x) ⊎ (a ≡ x)
first_kept true a x [] e = inr (cc)
first_kept true a x (y ∷ xs) e = inl e
first_kept false a x xs e = inl e

head_then_case : (c u : ℕ) (a : Arrival) (w : DrawnWords) (v : Answer) (h : List Event) (b : Bool) (x : Arrival) → nat_lt u a.at ≡ b → x.at ≤ u
    → (head c h ≡ Some x → head c (as_of u h) ≡ Some x) → head c (Offered a w v ∷ h) ≡ Some x → (head c h ≡ Some x) ⊎ (a ≡ x)
    → head c (cond b (as_of u h) (Offered a w v ∷ h)) ≡ Some x
head_then_case c u a w v h true x t l f e (inl i) = f i
head_then_case c u a w v h true x t l f e (inr i) = let q = ltb-true u a.at t in absurd (omega (arith, q, l, ap (λ (k : Arrival). k.at) i))
head_then_case c u a w v h false x t l f e i = e

head_then : (c u : ℕ) (h : List Event) (x : Arrival) → x.at ≤ u → head c h ≡ Some x → head c (as_of u h) ≡ Some x
head_then c u [] x l e = e
head_then c u (Offered a w v ∷ h) x l e =
    head_then_case c u a w v h (nat_lt u a.at) x refl l (head_then c u h x l) e (first_kept (is_kept v.verdict && (a.class == c)) a x (waiting c h) e)
head_then c u (Sent s ∷ h) x l e = e

-- a class with a head may send at any moment
may_then : (p : Policy) (h : List Event) (u c : ℕ) (b : Arrival) → NeverWaits p → IsHead p h c b → b.at ≤ u → SomeMaySend p (as_of u h) u
may_then p h u c b nw i l =
    let f = head_then c u h b l i.front in
    record { class = c; held = i.held; packet = b; front = f; may = nw (as_of u h) c u b (record { held = i.held; front = f }) }

with_head : (p : Policy) (free : ℕ) (h : List Event) (s : ℕ) → NeverWaits p → ComeInOrder free h → IsLeastStart p free h s → StartsWithHead p free h s
with_head p free h s nw order x =
    let m = x.may in
    let i : IsHead p h m.class m.packet = record { held = m.held; front = head_later m.class s h m.packet m.front } in
    let came = head_latest m.class (as_of s h) m.packet m.front in
    let low = x.least (max free m.packet.at) (omega arith) (may_then p h (max free m.packet.at) m.class m.packet nw i (omega arith)) in
    record {
      class = m.class;
      packet = m.packet;
      head = i;
      start = omega (arith, low, x.after_end, came, order s x.after_end);
      least = λ c b j. x.least (max free b.at) (omega arith) (may_then p h (max free b.at) c b nw j (omega arith));
    }

least_start : (p : Policy) (free : ℕ) (h : List Event) (s : ℕ) → NeverWaits p → ComeInOrder free h → StartsWithHead p free h s → IsLeastStart p free h s
least_start p free h s nw order x = record {
  after_end = omega (arith, x.start);
  may = may_then p h s x.class x.packet nw x.head (omega (arith, x.start));
  least = λ u l m.
      let came = head_latest m.class (as_of u h) m.packet m.front in
      let low = x.least m.class m.packet (record { held = m.held; front = head_later m.class u h m.packet m.front }) in
      omega (arith, low, l, came, order u l);
}

pub same_sentence : (p : Policy) (free : ℕ) (h : List Event) (s : ℕ) → NeverWaits p → ComeInOrder free h → IsLeastStart p free h s ↔ StartsWithHead p free h s
same_sentence p free h s nw order = (with_head p free h s nw order, least_start p free h s nw order)

-- in a play what is offered comes in order
order_case : (free u : ℕ) (a : Arrival) (w : DrawnWords) (v : Answer) (h : List Event) (b : Bool) → nat_lt u a.at ≡ b → latest h ≤ a.at → latest (as_of u h) ≤ u
    → latest (cond b (as_of u h) (Offered a w v ∷ h)) ≤ u
order_case free u a w v h true t l o = o
order_case free u a w v h false t l o = omega (arith, ltb-false u a.at t, l)

order_step : (p : Policy) (rate seed : ℕ) (arrived : List Arrival) (g : List LabelledEvent) (e : LabelledEvent) → 0 < rate → IsOnTime p rate arrived (unlabelled g)
    → IsOffer p rate seed arrived g e ⊎ IsSending p rate arrived g e → ComeInOrder (link rate (unlabelled g)).free (unlabelled g)
    → ComeInOrder (link rate (unlabelled (e ∷ g))).free (unlabelled (e ∷ g))
order_step p rate seed arrived g e pos t (inl x) o =
    let P : Event → Type 0 = λ z. ComeInOrder (link rate (z ∷ unlabelled g)).free (z ∷ unlabelled g) in
    let w : DrawnWords = record { seed = seed; drawn = drawn (unlabelled g) } in
    subst P (sym (offer_event p rate seed arrived g e x)) (λ u l.
    order_case (link rate (unlabelled g)).free u x.packet w (p.answer (unlabelled g) w x.packet) (unlabelled g) (nat_lt u x.packet.at) refl
    (t.comes (offered (unlabelled g)) x.packet (omega arith) x.next) (o u l))
order_step p rate seed arrived g e pos t (inr y) o =
    let P : Event → Type 0 = λ z. ComeInOrder (link rate (z ∷ unlabelled g)).free (z ∷ unlabelled g) in
    let s = y.sending in
    subst P (sym y.event) (λ u l.
    omega (arith, l, end_later rate (unlabelled g) s.start s.len pos, t.starts s.class s.start y.may.held y.may.start))

pub in_order : (p : Policy) (rate seed : ℕ) (arrived : List Arrival) (g : List LabelledEvent) → 0 < rate → IsLawful p → AreRising arrived → AreDue p rate seed arrived g
    → ComeInOrder (link rate (unlabelled g)).free (unlabelled g)
in_order p rate seed arrived [] pos law rise d = λ u l. omega arith
in_order p rate seed arrived (e ∷ g) pos law rise d =
    let t = on_time p rate seed arrived g pos law rise d.1 in
    order_step p rate seed arrived g e pos t (follows p rate seed arrived g e law t d.0) (in_order p rate seed arrived g pos law rise d.1)
