-- Each sending of a play starts at the least moment at which one may.
use Rattle.std.proofs.Common.{◌≡◌, ◌≤◌, ◌<◌, ◌∙◌, ◌⊎◌, inl, inr, ℕ, max, Bool, true, false, cond, List, [], ◌∷◌, Some, refl, sym, subst, arith}
use Rattle.std.specs.Prelude.{slice_get, nat_lt}
use Rattle.std.proofs.lemmas.Bool.{ltb-true, ltb-false}
use Rattle.std.proofs.lemmas.Option.{slice_get_within}
use Rattle.altq_model.specs.History.{Arrival, Answer, DrawnWords, Event, Offered, Sent, Sending, LabelledEvent, unlabelled, offered, drawn}
use Rattle.altq_model.specs.Link.{link}
use Rattle.altq_model.specs.Laws.{StartsBefore, IsPrompt}
use Rattle.altq_model.specs.Busy.{as_of, SomeMaySend, IsLeastStart, IsBusy}
use Rattle.altq_model.specs.Play.{Policy, first_start, class_start, AreDue}
use Rattle.altq_model.specs.Lawful.{IsHead, IsLawful, IsSteady, AreRising, latest}
use Rattle.play_laws.specs.Events.{IsOffer, IsSending, EachFollows}
use Rattle.play_laws.proofs.Starts.{least_of, start_of}
use Rattle.play_laws.proofs.DueLemmas.{offer_event}
use Rattle.play_laws.proofs.LinkLemmas.{end_later}
use Rattle.play_laws.proofs.TimeLemmas.{IsOnTime, on_time, follows, head_latest, rising_at, there_at}
use Rattle.play_laws.proofs.OrderLemmas.{starts_late}

-- what is offered from a place on arrived after the start of each sending before
pub started_before : (p : Policy) (rate seed : ℕ) (arrived : List Arrival) (g : List LabelledEvent) (k : ℕ) (a : Arrival) → AreRising arrived → EachFollows p rate seed arrived g
    → offered (unlabelled g) ≤ k → slice_get arrived k ≡ Some a → StartsBefore a.at (unlabelled g)
started_before p rate seed arrived [] k a rise f l e = tt
started_before p rate seed arrived (o ∷ g) k a rise (inl x, f) l e =
    let P : Event → Type 0 = λ z. offered (z ∷ unlabelled g) ≤ k → StartsBefore a.at (z ∷ unlabelled g) in
    subst P (sym (offer_event p rate seed arrived g o x)) (λ m. started_before p rate seed arrived g k a rise f (omega (arith, m)) e) l
started_before p rate seed arrived (o ∷ g) k a rise (inr y, f) l e =
    let P : Event → Type 0 = λ z. offered (z ∷ unlabelled g) ≤ k → StartsBefore a.at (z ∷ unlabelled g) in
    subst P (sym y.event) (λ m.
    let b = there_at arrived (offered (unlabelled g)) (omega (arith, m, slice_get_within arrived k a e)) in
    let r = rising_at 0 arrived (offered (unlabelled g)) k b.0 a rise b.1 e m in
    (omega (arith, y.passed b.0 b.1, r), started_before p rate seed arrived g k a rise f m e)) l

pub prompt : (p : Policy) (rate seed : ℕ) (arrived : List Arrival) (g : List LabelledEvent) → AreRising arrived → EachFollows p rate seed arrived g → IsPrompt (unlabelled g)
prompt p rate seed arrived [] rise f = tt
prompt p rate seed arrived (o ∷ g) rise (inl x, f) =
    let P : Event → Type 0 = λ z. IsPrompt (z ∷ unlabelled g) in
    subst P (sym (offer_event p rate seed arrived g o x))
    (started_before p rate seed arrived g (offered (unlabelled g)) x.packet rise f (omega arith) x.next, prompt p rate seed arrived g rise f)
prompt p rate seed arrived (o ∷ g) rise (inr y, f) =
    let P : Event → Type 0 = λ z. IsPrompt (z ∷ unlabelled g) in subst P (sym y.event) (prompt p rate seed arrived g rise f)

-- a class that waits and whose head has arrived may send at a moment, and not before the first start
waits_on : (p : Policy) (free : ℕ) (h : List Event) (u : ℕ) → IsSteady p → latest h ≤ u → free ≤ u
    → ((s : ℕ) → first_start p free h p.classes ≡ Some s → u < s) → SomeMaySend p h u → ⊥
waits_on p free h u steady came after first m =
    let t : ℕ = p.start_from h m.class (max free m.packet.at) in
    let l = least_of p free h p.classes m.class t m.held (start_of p free h m.class m.packet m.front) in
    let i : IsHead p h m.class m.packet = record { held = m.held; front = m.front } in
    let b = head_latest m.class h m.packet m.front in
    let f = first l.start l.is in
    let same = steady h m.class (max free m.packet.at) u m.packet i (omega (arith, b, came, after)) (omega (arith, f, l.least)) in
    omega (arith, same, m.may, f, l.least)

-- no class may send before the first start, whatever was offered up to then
offer_none : (p : Policy) (free : ℕ) (h : List Event) (a : Arrival) (w : DrawnWords) (v : Answer) (u : ℕ) (b : Bool) → nat_lt u a.at ≡ b → IsSteady p → latest h ≤ a.at → free ≤ u
    → ((s : ℕ) → first_start p free (Offered a w v ∷ h) p.classes ≡ Some s → u < s) → (u < a.at → SomeMaySend p (as_of u h) u → ⊥)
    → SomeMaySend p (cond b (as_of u h) (Offered a w v ∷ h)) u → ⊥
offer_none p free h a w v u true t steady l after first rest m = rest (ltb-true u a.at t) m
offer_none p free h a w v u false t steady l after first rest m =
    let came = ltb-false u a.at t in
    waits_on p free (Offered a w v ∷ h) u steady (omega (arith, came, l)) after first m

none_offer : (p : Policy) (rate : ℕ) (arrived : List Arrival) (h : List Event) (a : Arrival) (w : DrawnWords) (v : Answer) (u : ℕ) → IsSteady p → IsOnTime p rate arrived h
    → slice_get arrived (offered h) ≡ Some a → ((s : ℕ) → first_start p (link rate h).free h p.classes ≡ Some s → a.at ≤ s) → (link rate h).free ≤ u
    → ((s : ℕ) → first_start p (link rate h).free (Offered a w v ∷ h) p.classes ≡ Some s → u < s)
    → (((s : ℕ) → first_start p (link rate h).free h p.classes ≡ Some s → u < s) → SomeMaySend p (as_of u h) u → ⊥)
    → SomeMaySend p (as_of u (Offered a w v ∷ h)) u → ⊥
none_offer p rate arrived h a w v u steady t next before after first rest m =
    offer_none p (link rate h).free h a w v u (nat_lt u a.at) refl steady (t.comes (offered h) a (omega arith) next) after first
    (λ l. rest (λ s f. omega (arith, l, before s f))) m

none_sent : (p : Policy) (rate : ℕ) (h : List Event) (s : Sending) (u : ℕ) → 0 < rate → IsSteady p → latest h ≤ s.start → (link rate (Sent s ∷ h)).free ≤ u
    → ((t : ℕ) → first_start p (link rate (Sent s ∷ h)).free (Sent s ∷ h) p.classes ≡ Some t → u < t) → SomeMaySend p (Sent s ∷ h) u → ⊥
none_sent p rate h s u pos steady l after first m =
    waits_on p (link rate (Sent s ∷ h)).free (Sent s ∷ h) u steady (omega (arith, l, end_later rate h s.start s.len pos, after)) after first m

-- before the first start no class may send at a moment that is not before the last end
abbrev NoneMay : Policy → (rate : ℕ) → List Event → (u : ℕ) → Type 0
NoneMay p rate h u = (link rate h).free ≤ u → ((s : ℕ) → first_start p (link rate h).free h p.classes ≡ Some s → u < s) → SomeMaySend p (as_of u h) u → ⊥

none_step : (p : Policy) (rate seed : ℕ) (arrived : List Arrival) (g : List LabelledEvent) (e : LabelledEvent) (u : ℕ) → 0 < rate → IsSteady p → IsOnTime p rate arrived (unlabelled g)
    → IsOffer p rate seed arrived g e ⊎ IsSending p rate arrived g e → NoneMay p rate (unlabelled g) u → NoneMay p rate (unlabelled (e ∷ g)) u
none_step p rate seed arrived g e u pos steady t (inl x) rest =
    let P : Event → Type 0 = λ z. NoneMay p rate (z ∷ unlabelled g) u in
    let w : DrawnWords = record { seed = seed; drawn = drawn (unlabelled g) } in
    subst P (sym (offer_event p rate seed arrived g e x)) (λ l f m.
    none_offer p rate arrived (unlabelled g) x.packet w (p.answer (unlabelled g) w x.packet) u steady t x.next x.first l f (rest l) m)
none_step p rate seed arrived g e u pos steady t (inr y) rest =
    let P : Event → Type 0 = λ z. NoneMay p rate (z ∷ unlabelled g) u in
    subst P (sym y.event) (λ l f m.
    none_sent p rate (unlabelled g) y.sending u pos steady (t.starts y.sending.class y.sending.start y.may.held y.may.start) l f m)

none_may : (p : Policy) (rate seed : ℕ) (arrived : List Arrival) (g : List LabelledEvent) (u : ℕ) → 0 < rate → IsLawful p → IsSteady p → AreRising arrived
    → AreDue p rate seed arrived g → NoneMay p rate (unlabelled g) u
none_may p rate seed arrived [] u pos law steady rise d = λ l f m. let e = m.front in cc
none_may p rate seed arrived (e ∷ g) u pos law steady rise d =
    let t = on_time p rate seed arrived g pos law rise d.1 in
    none_step p rate seed arrived g e u pos steady t (follows p rate seed arrived g e law t d.0) (none_may p rate seed arrived g u pos law steady rise d.1)

-- all that was offered came up to a moment that is not before the latest of it
as_case : (u : ℕ) (a : Arrival) (w : DrawnWords) (v : Answer) (h : List Event) (b : Bool) → nat_lt u a.at ≡ b → a.at ≤ u
    → cond b (as_of u h) (Offered a w v ∷ h) ≡ Offered a w v ∷ h
as_case u a w v h true t l = let q = ltb-true u a.at t in absurd (omega arith)
as_case u a w v h false t l = refl

pub as_of_all : (u : ℕ) (h : List Event) → latest h ≤ u → as_of u h ≡ h
as_of_all u [] l = refl
as_of_all u (Offered a w v ∷ h) l = as_case u a w v h (nat_lt u a.at) refl (omega (arith, l))
as_of_all u (Sent s ∷ h) l = refl

may_start : (p : Policy) (free : ℕ) (h : List Event) (c s : ℕ) (a : Arrival) → IsLawful p → IsSteady p → IsHead p h c a → class_start p free h c ≡ Some s → latest h ≤ s
    → SomeMaySend p (as_of s h) s
may_start p free h c s a law steady i e l =
    let P : List Event → Type 0 = λ k. SomeMaySend p k s in
    let q : Some (p.start_from h c (max free a.at)) ≡ Some s = sym (start_of p free h c a i.front) ∙ e in
    let is : p.start_from h c (max free a.at) ≡ s = cc in
    let from = law.later h c (max free a.at) a i in
    subst P (sym (as_of_all s h l)) (record {
      class = c;
      held = i.held;
      packet = a;
      front = i.front;
      may = steady h c (max free a.at) s a i (omega (arith, from, is)) (omega (arith, is)) ∙ is;
    })

decide : (n m : ℕ) → (n ≤ m) ⊎ (m < n)
decide n m = grind arith

least_case : (p : Policy) (rate : ℕ) (h : List Event) (s u : ℕ) → first_start p (link rate h).free h p.classes ≡ Some s → NoneMay p rate h u → (link rate h).free ≤ u
    → SomeMaySend p (as_of u h) u → (s ≤ u) ⊎ (u < s) → s ≤ u
least_case p rate h s u e none after m (inl l) = l
least_case p rate h s u e none after m (inr l) =
    absurd (none after (λ t q. let o : Some s ≡ Some t = sym e ∙ q in let same : s ≡ t = cc in omega (arith, l, same)) m)

starts_least : (p : Policy) (rate seed : ℕ) (arrived : List Arrival) (g : List LabelledEvent) (e : LabelledEvent) (y : IsSending p rate arrived g e) → 0 < rate → IsLawful p
    → IsSteady p → AreRising arrived → AreDue p rate seed arrived g → IsLeastStart p (link rate (unlabelled g)).free (unlabelled g) y.sending.start
starts_least p rate seed arrived g e y pos law steady rise d =
    let free : ℕ = (link rate (unlabelled g)).free in
    let s : ℕ = y.sending.start in
    let t = on_time p rate seed arrived g pos law rise d in
    record {
      after_end = (starts_late p rate arrived g e law y).after_free;
      may = may_start p free (unlabelled g) y.sending.class s y.packet law steady (record { held = y.may.held; front = y.front }) y.may.start
          (t.starts y.sending.class s y.may.held y.may.start);
      least = λ u l m. least_case p rate (unlabelled g) s u y.least (none_may p rate seed arrived g u pos law steady rise d) l m (decide s u);
    }

busy_step : (p : Policy) (rate seed : ℕ) (arrived : List Arrival) (g : List LabelledEvent) (e : LabelledEvent) → 0 < rate → IsLawful p → IsSteady p → AreRising arrived
    → AreDue p rate seed arrived g → IsOffer p rate seed arrived g e ⊎ IsSending p rate arrived g e → IsBusy p rate (unlabelled g) → IsBusy p rate (unlabelled (e ∷ g))
busy_step p rate seed arrived g e pos law steady rise d (inl x) b =
    let P : Event → Type 0 = λ z. IsBusy p rate (z ∷ unlabelled g) in subst P (sym (offer_event p rate seed arrived g e x)) b
busy_step p rate seed arrived g e pos law steady rise d (inr y) b =
    let P : Event → Type 0 = λ z. IsBusy p rate (z ∷ unlabelled g) in
    subst P (sym y.event) (starts_least p rate seed arrived g e y pos law steady rise d, b)

pub is_busy : (p : Policy) (rate seed : ℕ) (arrived : List Arrival) (g : List LabelledEvent) → 0 < rate → IsLawful p → IsSteady p → AreRising arrived
    → AreDue p rate seed arrived g → IsBusy p rate (unlabelled g)
is_busy p rate seed arrived [] pos law steady rise d = tt
is_busy p rate seed arrived (e ∷ g) pos law steady rise d =
    busy_step p rate seed arrived g e pos law steady rise d.1
    (follows p rate seed arrived g e law (on_time p rate seed arrived g pos law rise d.1) d.0) (is_busy p rate seed arrived g pos law steady rise d.1)
