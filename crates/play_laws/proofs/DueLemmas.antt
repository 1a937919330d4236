-- What an event that is due is like.
use Rattle.std.proofs.Common.{◌≡◌, ◌≤◌, ◌<◌, ◌∙◌, ◌⊎◌, inl, inr, ℕ, Bool, true, false, cond, List, None, Some, refl, ap, sym, subst, arith}
use Rattle.std.specs.Prelude.{slice_get, nat_le}
use Rattle.std.specs.declared.option.Option.{Option}
use Rattle.std.proofs.lemmas.Bool.{leb-true, leb-false}
use Rattle.altq_model.specs.History.{Arrival, Sent, LabelledEvent, unlabelled, offered, head, labels}
use Rattle.altq_model.specs.Link.{link, end_of}
use Rattle.altq_model.specs.Play.{Policy, Choice, first_start, offer_of, head_sent, sent_at, due_from, due}
use Rattle.altq_model.specs.Lawful.{IsLawful, HaveArrived, MaySend}
use Rattle.play_laws.specs.Events.{IsOffer, IsSending}

-- the least moment at which a class may send after a history
abbrev pub first_after : Policy → (rate : ℕ) → List LabelledEvent → Option ℕ
first_after p rate g = first_start p (link rate (unlabelled g)).free (unlabelled g) p.classes

-- the arrival that comes next
abbrev pub next_after : List Arrival → List LabelledEvent → Option Arrival
next_after arrived g = slice_get arrived (offered (unlabelled g))

same_entry : (a b : LabelledEvent) → Some a ≡ Some b → a ≡ b
same_entry a b h = cc

pub not_both : {X : Type 0} (o : Option X) (x : X) → o ≡ None → o ≡ Some x → ⊥
not_both o x e f = cc

abbrev sent_entry : (rate : ℕ) → List LabelledEvent → (s : ℕ) → Choice → ℕ → Arrival → LabelledEvent
sent_entry rate g s c n a = record {
  label = n;
  what = Sent (record { class = c.class; len = a.len; rule = c.rule; start = s; end = end_of rate (link rate (unlabelled g)) s a.len });
}

head_shape : (p : Policy) (rate : ℕ) (arrived : List Arrival) (g : List LabelledEvent) (s : ℕ) (c : Choice) (on : Option ℕ) (ow : Option Arrival) (e : LabelledEvent)
    → p.pick (unlabelled g) s ≡ c → slice_get (labels c.class g) 0 ≡ on → head c.class (unlabelled g) ≡ ow
    → first_after p rate g ≡ Some s → MaySend p (link rate (unlabelled g)).free (unlabelled g) c.class s
    → ((a : Arrival) → next_after arrived g ≡ Some a → s < a.at)
    → head_sent rate g s c on ow ≡ Some e → IsSending p rate arrived g e
head_shape p rate arrived g s c None ow e k n w f m q h = absurd (cc)
head_shape p rate arrived g s c (Some i) None e k n w f m q h = absurd (cc)
head_shape p rate arrived g s c (Some i) (Some a) e k n w f m q h =
    let P : LabelledEvent → Type 0 = λ x. IsSending p rate arrived g x in
    subst P (same_entry (sent_entry rate g s c i a) e h) (record {
      sending = record { class = c.class; len = a.len; rule = c.rule; start = s; end = end_of rate (link rate (unlabelled g)) s a.len };
      packet = a;
      event = refl;
      number = n;
      front = w;
      len = refl;
      end = refl;
      least = f;
      class = ap (λ (x : Choice). x.class) (sym k);
      rule = ap (λ (x : Choice). x.rule) (sym k);
      may = m;
      passed = q;
    })

sent_shape : (p : Policy) (rate : ℕ) (arrived : List Arrival) (g : List LabelledEvent) (s : ℕ) (e : LabelledEvent)
    → first_after p rate g ≡ Some s → MaySend p (link rate (unlabelled g)).free (unlabelled g) (p.pick (unlabelled g) s).class s
    → ((a : Arrival) → next_after arrived g ≡ Some a → s < a.at)
    → sent_at rate g s (p.pick (unlabelled g) s) ≡ Some e → IsSending p rate arrived g e
sent_shape p rate arrived g s e f m q h =
    let c : Choice = p.pick (unlabelled g) s in
    head_shape p rate arrived g s c (slice_get (labels c.class g) 0) (head c.class (unlabelled g)) e refl refl refl f m q h

offer_shape : (p : Policy) (rate seed : ℕ) (arrived : List Arrival) (g : List LabelledEvent) (a : Arrival) (e : LabelledEvent) → next_after arrived g ≡ Some a
    → ((s : ℕ) → first_after p rate g ≡ Some s → a.at ≤ s) → Some (offer_of p seed g a) ≡ Some e → IsOffer p rate seed arrived g e
offer_shape p rate seed arrived g a e n f h =
    let same : e ≡ offer_of p seed g a = sym (same_entry (offer_of p seed g a) e h) in
    record { packet = a; next = n; offer = same; place = ap (λ (x : LabelledEvent). x.label) same; first = f }

by_test : (p : Policy) (rate seed : ℕ) (arrived : List Arrival) (g : List LabelledEvent) (a : Arrival) (s : ℕ) (b : Bool) (e : LabelledEvent)
    → nat_le a.at s ≡ b → next_after arrived g ≡ Some a → first_after p rate g ≡ Some s
    → MaySend p (link rate (unlabelled g)).free (unlabelled g) (p.pick (unlabelled g) s).class s
    → cond b (Some (offer_of p seed g a)) (sent_at rate g s (p.pick (unlabelled g) s)) ≡ Some e
    → IsOffer p rate seed arrived g e ⊎ IsSending p rate arrived g e
by_test p rate seed arrived g a s true e t n f m h =
    let l : a.at ≤ s = leb-true a.at s t in
    inl (offer_shape p rate seed arrived g a e n (λ u q. let i : s ≡ u = (let j : Some s ≡ Some u = sym f ∙ q in cc) in omega arith) h)
by_test p rate seed arrived g a s false e t n f m h =
    let l : s < a.at = leb-false a.at s t in
    inr (sent_shape p rate arrived g s e f m (λ x q.
    let same : a ≡ x = (let j : Some a ≡ Some x = sym n ∙ q in cc) in
    let P : Arrival → Type 0 = λ y. s < y.at in subst P same l) h)

shape : (p : Policy) (rate seed : ℕ) (arrived : List Arrival) (g : List LabelledEvent) (o : Option Arrival) (f : Option ℕ) (e : LabelledEvent) → IsLawful p
    → next_after arrived g ≡ o → first_after p rate g ≡ f → ((s : ℕ) → f ≡ Some s → HaveArrived p s (unlabelled g))
    → due_from p rate seed g o f ≡ Some e → IsOffer p rate seed arrived g e ⊎ IsSending p rate arrived g e
shape p rate seed arrived g None None e law n f t h = absurd (cc)
shape p rate seed arrived g (Some a) None e law n f t h =
    inl (offer_shape p rate seed arrived g a e n (λ s q. absurd (not_both (first_after p rate g) s f q)) h)
shape p rate seed arrived g None (Some s) e law n f t h =
    inr (sent_shape p rate arrived g s e f (law.picks (unlabelled g) (link rate (unlabelled g)).free s f (t s refl))
    (λ a q. absurd (not_both (next_after arrived g) a n q)) h)
shape p rate seed arrived g (Some a) (Some s) e law n f t h =
    by_test p rate seed arrived g a s (nat_le a.at s) e refl n f (law.picks (unlabelled g) (link rate (unlabelled g)).free s f (t s refl)) h

-- an event that is due is the offer of the next arrival or a sending, where every head has arrived by the moment of a sending
pub due_is : (p : Policy) (rate seed : ℕ) (arrived : List Arrival) (g : List LabelledEvent) (e : LabelledEvent) → IsLawful p
    → ((s : ℕ) → first_after p rate g ≡ Some s → HaveArrived p s (unlabelled g))
    → due p rate seed arrived g ≡ Some e → IsOffer p rate seed arrived g e ⊎ IsSending p rate arrived g e
due_is p rate seed arrived g e law t h = shape p rate seed arrived g (next_after arrived g) (first_after p rate g) e law refl refl t h

-- the event of an offer, without its label
pub offer_event : (p : Policy) (rate seed : ℕ) (arrived : List Arrival) (g : List LabelledEvent) (e : LabelledEvent) (x : IsOffer p rate seed arrived g e)
    → e.what ≡ (offer_of p seed g x.packet).what
offer_event p rate seed arrived g e x = ap (λ (y : LabelledEvent). y.what) x.offer
