-- At the end of a play every arrival was offered, and nothing waits.
use Rattle.std.proofs.Common.{◌≡◌, ◌≤◌, ◌<◌, ◌+◌, ◌∙◌, ◌⊎◌, inl, inr, ℕ, zero, suc, Bool, true, false, cond, List, [], ◌∷◌, ◌++◌, length, None, Some, refl, ap, sym, subst, arith}
use Rattle.std.specs.Prelude.{slice_get, ◌==◌, nat_le}
use Rattle.std.specs.declared.option.Option.{Option}
use Rattle.std.proofs.lemmas.Bool.{eq-eqb}
use Rattle.std.proofs.lemmas.Option.{slice_get_within}
use Rattle.altq_model.specs.declared.Verdict.{Verdict}
use Rattle.altq_model.specs.History.{Arrival, DrawnWords, Event, LabelledEvent, unlabelled, offered, drawn, waiting, labels, is_kept, journal}
use Rattle.altq_model.specs.Link.{link}
use Rattle.altq_model.specs.Laws.{IsConserved, occurs}
use Rattle.altq_model.specs.Play.{Policy, Choice, offer_of, head_sent, sent_at, due_from, due, AreDue}
use Rattle.altq_model.specs.Lawful.{IsOneOf, IsLawful, MaySend, AreHeld, AreRising}
use Rattle.play_laws.specs.Events.{IsOffer, IsSending, EachFollows}
use Rattle.play_laws.proofs.Starts.{head_of, none_waits}
use Rattle.play_laws.proofs.DueLemmas.{first_after, next_after}
use Rattle.play_laws.proofs.TimeLemmas.{have_arrived, on_time, each_follows}
use Rattle.play_laws.proofs.OrderLemmas.{AreOf, waiting_of}
use Rattle.play_laws.proofs.CountLemmas.{Place, places, with_place, without_first, of_class, of_class_labels, all_labels, should, balanced}

-- a class that may send has a head with a label, so that its sending is there
filled : (rate : ℕ) (arrived : List Arrival) (g : List LabelledEvent) (s : ℕ) (c : Choice) (ns : List ℕ) (ws : List Arrival) (a : Arrival) → AreOf arrived ns ws
    → slice_get ws 0 ≡ Some a → head_sent rate g s c (slice_get ns 0) (slice_get ws 0) ≡ None → ⊥
filled rate arrived g s c [] [] a x e h = cc
filled rate arrived g s c [] (b ∷ ws) a x e h = x
filled rate arrived g s c (n ∷ ns) [] a x e h = x
filled rate arrived g s c (n ∷ ns) (b ∷ ws) a x e h = cc

pub never_none : (p : Policy) (rate seed : ℕ) (arrived : List Arrival) (g : List LabelledEvent) (s : ℕ) (c : Choice) → EachFollows p rate seed arrived g
    → MaySend p (link rate (unlabelled g)).free (unlabelled g) c.class s → sent_at rate g s c ≡ None → ⊥
never_none p rate seed arrived g s c f m h =
    let x = head_of p (link rate (unlabelled g)).free (unlabelled g) c.class s m.start in
    filled rate arrived g s c (labels c.class g) (waiting c.class (unlabelled g)) x.packet (waiting_of p rate seed arrived g c.class f) x.front h

test_none : (b : Bool) (e : LabelledEvent) (x : Option LabelledEvent) → cond b (Some e) x ≡ None → x ≡ None
test_none true e x h = absurd (cc)
test_none false e x h = h

-- nothing comes, and no class may ever send
pub record IsOver (p : Policy) (rate : ℕ) (arrived : List Arrival) (g : List LabelledEvent) : Type 0 where
  pub all_came : next_after arrived g ≡ None
  pub none_sends : first_after p rate g ≡ None

over_case : (p : Policy) (rate seed : ℕ) (arrived : List Arrival) (g : List LabelledEvent) (o : Option Arrival) (f : Option ℕ)
    → next_after arrived g ≡ o → first_after p rate g ≡ f → ((s : ℕ) → f ≡ Some s → sent_at rate g s (p.pick (unlabelled g) s) ≡ None → ⊥)
    → due_from p rate seed g o f ≡ None → IsOver p rate arrived g
over_case p rate seed arrived g None None n f t h = record { all_came = n; none_sends = f }
over_case p rate seed arrived g (Some a) None n f t h = absurd (cc)
over_case p rate seed arrived g None (Some s) n f t h = absurd (t s refl h)
over_case p rate seed arrived g (Some a) (Some s) n f t h = absurd (t s refl (test_none (nat_le a.at s) (offer_of p seed g a) _ h))

pub is_over : (p : Policy) (rate seed : ℕ) (arrived : List Arrival) (g : List LabelledEvent) → 0 < rate → IsLawful p → AreRising arrived
    → AreDue p rate seed arrived g → due p rate seed arrived g ≡ None → IsOver p rate arrived g
is_over p rate seed arrived g pos law rise d h =
    let t = on_time p rate seed arrived g pos law rise d in
    let f = each_follows p rate seed arrived g pos law rise d in
    over_case p rate seed arrived g (next_after arrived g) (first_after p rate g) refl refl
    (λ s e q. never_none p rate seed arrived g s (p.pick (unlabelled g) s) f
    (law.picks (unlabelled g) (link rate (unlabelled g)).free s e (have_arrived p rate arrived (unlabelled g) s t e)) q) h

-- how many were offered
offered_step : (p : Policy) (rate seed : ℕ) (arrived : List Arrival) (g : List LabelledEvent) (e : LabelledEvent) → offered (unlabelled g) ≤ length arrived
    → IsOffer p rate seed arrived g e ⊎ IsSending p rate arrived g e → offered (unlabelled (e ∷ g)) ≤ length arrived
offered_step p rate seed arrived g e l (inl x) =
    let P : LabelledEvent → Type 0 = λ z. offered (unlabelled (z ∷ g)) ≤ length arrived in
    let i = slice_get_within arrived (offered (unlabelled g)) x.packet x.next in
    subst P (sym x.offer) (omega (arith, i))
offered_step p rate seed arrived g e l (inr x) =
    let P : Event → Type 0 = λ z. offered (z ∷ unlabelled g) ≤ length arrived in subst P (sym x.event) l

pub offered_within : (p : Policy) (rate seed : ℕ) (arrived : List Arrival) (g : List LabelledEvent) → EachFollows p rate seed arrived g → offered (unlabelled g) ≤ length arrived
offered_within p rate seed arrived [] f = omega arith
offered_within p rate seed arrived (e ∷ g) f = offered_step p rate seed arrived g e (offered_within p rate seed arrived g f.1) f.0

past : (arrived : List Arrival) (k : ℕ) → slice_get arrived k ≡ None → length arrived ≤ k
past [] k e = omega arith
past (a ∷ rest) zero e = absurd (cc)
past (a ∷ rest) (suc k) e = omega (arith, past rest k e)

pub all_offered : (p : Policy) (rate seed : ℕ) (arrived : List Arrival) (g : List LabelledEvent) → EachFollows p rate seed arrived g → next_after arrived g ≡ None
    → offered (unlabelled g) ≡ length arrived
all_offered p rate seed arrived g f n = omega (arith, offered_within p rate seed arrived g f, past arrived (offered (unlabelled g)) n)

-- what waits is of the policy's classes
held_at : (p : Policy) (arrived : List Arrival) (k : ℕ) (a : Arrival) → AreHeld p arrived → slice_get arrived k ≡ Some a → IsOneOf a.class p.classes
held_at p [] k a h e = absurd (cc)
held_at p (x ∷ rest) zero a h e = let same : x ≡ a = cc in let P : Arrival → Type 0 = λ y. IsOneOf y.class p.classes in subst P same h.0
held_at p (x ∷ rest) (suc k) a h e = held_at p rest k a h.1 e

abbrev pub AllOneOf : List ℕ → List Place → Type 0
AllOneOf cs [] = Unit {0}
AllOneOf cs (x ∷ xs) = IsOneOf x.0 cs × AllOneOf cs xs

held_push : (cs : List ℕ) (xs : List Place) (x : Place) → AllOneOf cs xs → IsOneOf x.0 cs → AllOneOf cs (xs ++ x ∷ [])
held_push cs [] x h i = (i, tt)
held_push cs (y ∷ xs) x h i = (h.0, held_push cs xs x h.1 i)

held_if : (cs : List ℕ) (k : Bool) (x : Place) (xs : List Place) → AllOneOf cs xs → IsOneOf x.0 cs → AllOneOf cs (cond k (xs ++ x ∷ []) xs)
held_if cs true x xs h i = held_push cs xs x h i
held_if cs false x xs h i = h

held_offer : (cs : List ℕ) (v : Verdict) (x : Place) (xs : List Place) → AllOneOf cs xs → IsOneOf x.0 cs → AllOneOf cs (with_place v x xs)
held_offer cs v x xs h i = held_if cs (is_kept v) x xs h i

held_case : (cs : List ℕ) (x : Place) (xs us : List Place) (b : Bool) → IsOneOf x.0 cs → AllOneOf cs xs → AllOneOf cs us → AllOneOf cs (cond b xs (x ∷ us))
held_case cs x xs us true i h u = h
held_case cs x xs us false i h u = (i, u)

held_take : (cs : List ℕ) (d : ℕ) (xs : List Place) → AllOneOf cs xs → AllOneOf cs (without_first d xs)
held_take cs d [] h = tt
held_take cs d (x ∷ xs) h = held_case cs x xs (without_first d xs) (x.0 == d) h.0 h.1 (held_take cs d xs h.1)

held_step : (p : Policy) (rate seed : ℕ) (arrived : List Arrival) (g : List LabelledEvent) (e : LabelledEvent) → AreHeld p arrived → AllOneOf p.classes (places g)
    → IsOffer p rate seed arrived g e ⊎ IsSending p rate arrived g e → AllOneOf p.classes (places (e ∷ g))
held_step p rate seed arrived g e can h (inl x) =
    let P : LabelledEvent → Type 0 = λ z. AllOneOf p.classes (places (z ∷ g)) in
    let w : DrawnWords = record { seed = seed; drawn = drawn (unlabelled g) } in
    subst P (sym x.offer) (held_offer p.classes (p.answer (unlabelled g) w x.packet).verdict (x.packet.class, offered (unlabelled g) + 1) (places g) h
    (held_at p arrived (offered (unlabelled g)) x.packet can x.next))
held_step p rate seed arrived g e can h (inr x) =
    let P : Event → Type 0 = λ z. let f : LabelledEvent = record { label = e.label; what = z } in AllOneOf p.classes (places (f ∷ g)) in
    subst P (sym x.event) (held_take p.classes x.sending.class (places g) h)

pub held : (p : Policy) (rate seed : ℕ) (arrived : List Arrival) (g : List LabelledEvent) → AreHeld p arrived → EachFollows p rate seed arrived g
    → AllOneOf p.classes (places g)
held p rate seed arrived [] can f = tt
held p rate seed arrived (e ∷ g) can f = held_step p rate seed arrived g e can (held p rate seed arrived g can f.1) f.0

-- where no class may ever send, nothing waits
none_left : (cs : List ℕ) (xs : List Place) → AllOneOf cs xs → ((c : ℕ) → IsOneOf c cs → of_class c xs ≡ []) → xs ≡ []
none_left cs [] h f = refl
none_left cs (x ∷ xs) h f =
    let e : of_class x.0 (x ∷ xs) ≡ [] = f x.0 h.0 in
    let t : (x.0 == x.0) ≡ true = eq-eqb x.0 x.0 refl in
    let q : x.1 ∷ of_class x.0 xs ≡ [] = rw t at e in
    absurd (cc)

no_head : (ws : List Arrival) → slice_get ws 0 ≡ None → ws ≡ []
no_head [] e = refl
no_head (a ∷ ws) e = absurd (cc)

no_labels : (arrived : List Arrival) (ns : List ℕ) (ws : List Arrival) → AreOf arrived ns ws → ws ≡ [] → ns ≡ []
no_labels arrived [] ws x e = refl
no_labels arrived (n ∷ ns) [] x e = absurd x
no_labels arrived (n ∷ ns) (a ∷ ws) x e = absurd (cc)

no_packets : (arrived : List Arrival) (ns : List ℕ) (ws : List Arrival) → AreOf arrived ns ws → ns ≡ [] → ws ≡ []
no_packets arrived ns [] x e = refl
no_packets arrived [] (a ∷ ws) x e = absurd x
no_packets arrived (n ∷ ns) (a ∷ ws) x e = absurd (cc)

pub no_places : (p : Policy) (rate seed : ℕ) (arrived : List Arrival) (g : List LabelledEvent) → AreHeld p arrived → EachFollows p rate seed arrived g
    → first_after p rate g ≡ None → places g ≡ []
no_places p rate seed arrived g can f n =
    none_left p.classes (places g) (held p rate seed arrived g can f) (λ c i.
    of_class_labels c g ∙ no_labels arrived (labels c g) (waiting c (unlabelled g)) (waiting_of p rate seed arrived g c f)
    (no_head (waiting c (unlabelled g)) (none_waits p (link rate (unlabelled g)).free (unlabelled g) p.classes c n i)))

pub nothing_waits : (p : Policy) (rate seed : ℕ) (arrived : List Arrival) (g : List LabelledEvent) (c : ℕ) → EachFollows p rate seed arrived g → places g ≡ []
    → waiting c (unlabelled g) ≡ []
nothing_waits p rate seed arrived g c f e =
    no_packets arrived (labels c g) (waiting c (unlabelled g)) (waiting_of p rate seed arrived g c f) (sym (of_class_labels c g) ∙ ap (of_class c) e)

pub conserved : (p : Policy) (rate seed : ℕ) (arrived : List Arrival) (g : List LabelledEvent) → EachFollows p rate seed arrived g → next_after arrived g ≡ None → places g ≡ []
    → IsConserved (length arrived) (journal g)
conserved p rate seed arrived g f n e = λ m.
    let b = (balanced p rate seed arrived g m f).once in
    let z = ap (λ (xs : List Place). occurs m (all_labels xs)) e in
    let q = ap (λ (k : ℕ). should m k) (all_offered p rate seed arrived g f n) in
    omega (arith, b, z, q)
