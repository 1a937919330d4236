-- A policy by when a class may send is lawful and steady.
use Rattle.std.proofs.Common.{◌≡◌, ◌≤◌, ◌∙◌, ℕ, max, List, ◌∷◌, Some, ap, subst, arith}
use Rattle.altq_model.specs.History.{Arrival, Answer, DrawnWords, Event, Offered}
use Rattle.altq_model.specs.Play.{Policy, first_start}
use Rattle.altq_model.specs.Lawful.{IsHead, IsLawful, IsSteady, HaveArrived, MaySend, SendsWhen}
use Rattle.play_laws.proofs.TimeLemmas.{head_stays}
use Rattle.play_laws.proofs.Starts.{first_of, least_is, head_of, start_of}

same_by : (n m : ℕ) → n ≤ m → m ≤ n → n ≡ m
same_by n m a b = omega arith

when_offers : (allowed : List Event → (c t : ℕ) → Type 0) (p : Policy) → SendsWhen allowed p → (h : List Event) (a : Arrival) (w : DrawnWords) (v : Answer) (c t : ℕ) (b : Arrival)
    → IsHead p h c b → p.start_from (Offered a w v ∷ h) c t ≡ p.start_from h c t
when_offers allowed p x h a w v c t b e =
    let k : List Event = Offered a w v ∷ h in
    let f : IsHead p k c b = record { held = e.held; front = head_stays c h a w v b e.front } in
    let old : allowed k c (p.start_from h c t) = (x.keeps h a w v c (p.start_from h c t) b e).1 (x.may h c t b e) in
    let new : allowed h c (p.start_from k c t) = (x.keeps h a w v c (p.start_from k c t) b e).0 (x.may k c t b f) in
    same_by (p.start_from k c t) (p.start_from h c t) (x.least k c t (p.start_from h c t) b f (x.later h c t b e) old) (x.least h c t (p.start_from k c t) b e (x.later k c t b f) new)

when_picks : (allowed : List Event → (c t : ℕ) → Type 0) (p : Policy) → SendsWhen allowed p → (h : List Event) (free s : ℕ) → first_start p free h p.classes ≡ Some s → HaveArrived p s h
    → MaySend p free h (p.pick h s).class s
when_picks allowed p x h free s e arrived =
    let f = first_of p free h p.classes s e in
    let y = head_of p free h f.class s f.start in
    let i : IsHead p h f.class y.packet = record { held = f.one; front = y.front } in
    let l = x.later h f.class (max free y.packet.at) y.packet i in
    let P : ℕ → Type 0 = λ n. allowed h f.class n in
    let m : allowed h f.class s = subst P y.start (x.may h f.class (max free y.packet.at) y.packet i) in
    let c : ℕ = (p.pick h s).class in
    let k = x.picks h s f.class (record { packet = y.packet; head = i; may = m }) in
    let q = start_of p free h c k.packet k.head.front in
    let low = least_is p free h p.classes c s (p.start_from h c (max free k.packet.at)) e k.head.held q in
    let high = x.least h c (max free k.packet.at) s k.packet k.head (omega (arith, l, y.start, arrived c k.packet k.head.held k.head.front)) k.may in
    record { held = k.head.held; start = q ∙ ap (λ (n : ℕ). Some n) (same_by (p.start_from h c (max free k.packet.at)) s high low) }

pub when_lawful : (allowed : List Event → (c t : ℕ) → Type 0) (p : Policy) → SendsWhen allowed p → IsLawful p
when_lawful allowed p x = record {
  later = x.later;
  offers = λ h a w v c t b e. when_offers allowed p x h a w v c t b e;
  picks = λ h free s e a. when_picks allowed p x h free s e a;
}

pub when_steady : (allowed : List Event → (c t : ℕ) → Type 0) (p : Policy) → SendsWhen allowed p → IsSteady p
when_steady allowed p x = λ h c t u b e l m.
    let low = x.least h c t (p.start_from h c u) b e (omega (arith, l, x.later h c u b e)) (x.may h c u b e) in
    let high = x.least h c u (p.start_from h c t) b e m (x.may h c t b e) in
    same_by (p.start_from h c u) (p.start_from h c t) high low
