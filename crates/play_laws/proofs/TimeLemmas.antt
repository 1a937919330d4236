-- In a play every head has arrived by the moment of the next sending.
use Rattle.std.proofs.Common.{◌≡◌, ◌≤◌, ◌<◌, ◌∙◌, ◌⊎◌, inl, inr, ℕ, zero, suc, max, Bool, true, false, cond, List, [], ◌∷◌, ◌++◌, length, None, Some, refl, ap, sym, subst, arith}
use Rattle.std.specs.Prelude.{slice_get, ◌==◌, ◌&&◌}
use Rattle.std.specs.declared.option.Option.{Option}
use Rattle.altq_model.specs.declared.Verdict.{Verdict}
use Rattle.altq_model.specs.History.{Arrival, Answer, DrawnWords, Event, Offered, Sent, Sending, LabelledEvent, unlabelled, offered, drawn, head, waiting, is_kept, with_offer, without_head}
use Rattle.altq_model.specs.Link.{link, end_of}
use Rattle.altq_model.specs.Play.{Policy, lesser, class_start, first_start, due, AreDue}
use Rattle.altq_model.specs.Lawful.{IsOneOf, IsHead, IsLawful, HaveArrived, RiseFrom, AreRising, IsSteady, latest, start_at, first_at}
use Rattle.play_laws.specs.Events.{IsOffer, IsSending, EachFollows}
use Rattle.play_laws.proofs.Starts.{first_of, least_of, head_of, start_of}
use Rattle.play_laws.proofs.LinkLemmas.{end_later}
use Rattle.play_laws.proofs.DueLemmas.{due_is, offer_event}

abbrev Within : (t : ℕ) → List Arrival → Type 0
Within t [] = Unit {0}
Within t (a ∷ ws) = (a.at ≤ t) × Within t ws

within_later : (t u : ℕ) (ws : List Arrival) → t ≤ u → Within t ws → Within u ws
within_later t u [] l w = tt
within_later t u (a ∷ ws) l w = (omega (arith, w.0), within_later t u ws l w.1)

within_push : (t : ℕ) (ws : List Arrival) (a : Arrival) → Within t ws → a.at ≤ t → Within t (ws ++ a ∷ [])
within_push t [] a w l = (l, tt)
within_push t (b ∷ ws) a w l = (w.0, within_push t ws a w.1 l)

within_if : (t : ℕ) (k : Bool) (a : Arrival) (ws : List Arrival) → Within t ws → a.at ≤ t → Within t (cond k (ws ++ a ∷ []) ws)
within_if t true a ws w l = within_push t ws a w l
within_if t false a ws w l = w

within_offer : (t : ℕ) (b : Bool) (v : Verdict) (a : Arrival) (ws : List Arrival) → Within t ws → a.at ≤ t → Within t (with_offer b v a ws)
within_offer t b v a ws w l = within_if t (is_kept v && b) a ws w l

within_rest : (t : ℕ) (b : Bool) (ws : List Arrival) → Within t ws → Within t (without_head b ws)
within_rest t true [] w = tt
within_rest t true (a ∷ ws) w = w.1
within_rest t false ws w = w

within : (c : ℕ) (h : List Event) → Within (latest h) (waiting c h)
within c [] = tt
within c (Offered a w v ∷ h) =
    within_offer (max a.at (latest h)) (a.class == c) v.verdict a (waiting c h)
    (within_later (latest h) (max a.at (latest h)) (waiting c h) (omega arith) (within c h)) (omega arith)
within c (Sent s ∷ h) = within_rest (latest h) (s.class == c) (waiting c h) (within c h)

within_head : (t : ℕ) (ws : List Arrival) (a : Arrival) → Within t ws → slice_get ws 0 ≡ Some a → a.at ≤ t
within_head t [] a w e = absurd (cc)
within_head t (x ∷ ws) a w e = let same : x ≡ a = cc in let P : Arrival → Type 0 = λ y. y.at ≤ t in subst P same w.0

pub head_latest : (c : ℕ) (h : List Event) (a : Arrival) → head c h ≡ Some a → a.at ≤ latest h
head_latest c h a e = within_head (latest h) (waiting c h) a (within c h) e

-- the head of a class after an offer
head_kept : {X : Type 0} (k : Bool) (x y : X) (xs : List X) → slice_get xs 0 ≡ Some y → slice_get (cond k (xs ++ x ∷ []) xs) 0 ≡ Some y
head_kept true x y [] e = absurd (cc)
head_kept true x y (z ∷ xs) e = e
head_kept false x y xs e = e

head_new : {X : Type 0} (k : Bool) (x y : X) (xs : List X) → slice_get xs 0 ≡ None → slice_get (cond k (xs ++ x ∷ []) xs) 0 ≡ Some y → x ≡ y
head_new true x y [] e f = cc
head_new true x y (z ∷ xs) e f = absurd (cc)
head_new false x y xs e f = absurd (cc)

pub head_stays : (c : ℕ) (h : List Event) (a : Arrival) (w : DrawnWords) (v : Answer) (b : Arrival) → head c h ≡ Some b → head c (Offered a w v ∷ h) ≡ Some b
head_stays c h a w v b e = head_kept (is_kept v.verdict && (a.class == c)) a b (waiting c h) e

-- arrivals by place
rise_at : (t : ℕ) (arrived : List Arrival) (k : ℕ) (a : Arrival) → RiseFrom t arrived → slice_get arrived k ≡ Some a → t ≤ a.at
rise_at t [] k a r e = absurd (cc)
rise_at t (x ∷ rest) zero a r e = let same : x ≡ a = cc in let P : Arrival → Type 0 = λ y. t ≤ y.at in subst P same r.0
rise_at t (x ∷ rest) (suc k) a r e = omega (arith, r.0, rise_at x.at rest k a r.1 e)

pub rising_at : (t : ℕ) (arrived : List Arrival) (i k : ℕ) (a b : Arrival) → RiseFrom t arrived → slice_get arrived i ≡ Some a → slice_get arrived k ≡ Some b
    → i ≤ k → a.at ≤ b.at
rising_at t [] i k a b r e f l = absurd (cc)
rising_at t (x ∷ rest) zero zero a b r e f l = let same : a ≡ b = cc in let P : Arrival → Type 0 = λ y. a.at ≤ y.at in subst P same (omega arith)
rising_at t (x ∷ rest) zero (suc k) a b r e f l =
    let same : x ≡ a = cc in let P : Arrival → Type 0 = λ y. y.at ≤ b.at in subst P same (rise_at x.at rest k b r.1 f)
rising_at t (x ∷ rest) (suc i) zero a b r e f l = absurd (omega arith)
rising_at t (x ∷ rest) (suc i) (suc k) a b r e f l = rising_at x.at rest i k a b r.1 e f (omega arith)

pub there_at : (arrived : List Arrival) (k : ℕ) → k < length arrived → (a : Arrival) × (slice_get arrived k ≡ Some a)
there_at [] k l = absurd (omega arith)
there_at (a ∷ rest) zero l = (a, refl)
there_at (a ∷ rest) (suc k) l = there_at rest k (omega arith)

-- what was offered has arrived before any class may send, and before what comes next
pub record IsOnTime (p : Policy) (rate : ℕ) (arrived : List Arrival) (h : List Event) : Type 0 where
  pub starts : (c s : ℕ) → IsOneOf c p.classes → class_start p (link rate h).free h c ≡ Some s → latest h ≤ s
  pub comes : (k : ℕ) (a : Arrival) → offered h ≤ k → slice_get arrived k ≡ Some a → latest h ≤ a.at

on_time_first : (p : Policy) (rate : ℕ) (arrived : List Arrival) → IsOnTime p rate arrived []
on_time_first p rate arrived = record { starts = λ c s i e. omega arith; comes = λ k a l e. omega arith }

-- after an offer
old_head : (p : Policy) (free : ℕ) (h : List Event) (a : Arrival) (w : DrawnWords) (v : Answer) (c s t : ℕ) (b : Arrival) → IsLawful p → IsOneOf c p.classes
    → head c h ≡ Some b → class_start p free (Offered a w v ∷ h) c ≡ Some s → ((u : ℕ) → first_start p free h p.classes ≡ Some u → t ≤ u) → t ≤ s
old_head p free h a w v c s t b law i e f l =
    let x = start_of p free (Offered a w v ∷ h) c b (head_stays c h a w v b e) in
    let y = start_of p free h c b e in
    let same = law.offers h a w v c (max free b.at) b (record { held = i; front = e }) in
    let z : Some (p.start_from (Offered a w v ∷ h) c (max free b.at)) ≡ Some s = sym x ∙ f in
    let q : p.start_from (Offered a w v ∷ h) c (max free b.at) ≡ s = cc in
    let m = least_of p free h p.classes c (p.start_from h c (max free b.at)) i y in
    omega (arith, l m.start m.is, m.least, same, q)

new_head : (p : Policy) (free : ℕ) (h : List Event) (a : Arrival) (w : DrawnWords) (v : Answer) (c s : ℕ) → IsLawful p → IsOneOf c p.classes
    → head c h ≡ None → class_start p free (Offered a w v ∷ h) c ≡ Some s → a.at ≤ s
new_head p free h a w v c s law i e f =
    let x = head_of p free (Offered a w v ∷ h) c s f in
    let same : a ≡ x.packet = head_new (is_kept v.verdict && (a.class == c)) a x.packet (waiting c h) e x.front in
    let P : Arrival → Type 0 = λ y. y.at ≤ s in
    subst P (sym same) (omega (arith, law.later (Offered a w v ∷ h) c (max free x.packet.at) x.packet (record { held = i; front = x.front }), x.start))

any_head : (p : Policy) (free : ℕ) (h : List Event) (a : Arrival) (w : DrawnWords) (v : Answer) (c s : ℕ) (o : Option Arrival) → IsLawful p → IsOneOf c p.classes
    → head c h ≡ o → class_start p free (Offered a w v ∷ h) c ≡ Some s → ((u : ℕ) → first_start p free h p.classes ≡ Some u → a.at ≤ u) → a.at ≤ s
any_head p free h a w v c s None law i e f l = new_head p free h a w v c s law i e f
any_head p free h a w v c s (Some b) law i e f l = old_head p free h a w v c s a.at b law i e f l

on_time_offer : (p : Policy) (rate : ℕ) (arrived : List Arrival) (h : List Event) (a : Arrival) (w : DrawnWords) (v : Answer) → IsLawful p → AreRising arrived
    → slice_get arrived (offered h) ≡ Some a → ((u : ℕ) → first_start p (link rate h).free h p.classes ≡ Some u → a.at ≤ u)
    → IsOnTime p rate arrived h → IsOnTime p rate arrived (Offered a w v ∷ h)
on_time_offer p rate arrived h a w v law rise n l t = record {
  starts = λ c s i e.
      let m = any_head p (link rate h).free h a w v c s (head c h) law i refl e l in
      omega (arith, m, t.comes (offered h) a (omega arith) n);
  comes = λ k b g e.
      let m = rising_at 0 arrived (offered h) k a b rise n e (omega arith) in
      omega (arith, m, t.comes k b (omega arith) e);
}

-- after a sending
on_time_sent : (p : Policy) (rate : ℕ) (arrived : List Arrival) (h : List Event) (s : Sending) → 0 < rate → IsLawful p → latest h ≤ s.start
    → IsOnTime p rate arrived h → IsOnTime p rate arrived (Sent s ∷ h)
on_time_sent p rate arrived h s pos law l t = record {
  starts = λ c u i e.
      let f : ℕ = end_of rate (link rate h) s.start s.len in
      let x = head_of p f (Sent s ∷ h) c u e in
      omega (arith, end_later rate h s.start s.len pos, law.later (Sent s ∷ h) c (max f x.packet.at) x.packet (record { held = i; front = x.front }), x.start);
  comes = t.comes;
}

on_time_step : (p : Policy) (rate seed : ℕ) (arrived : List Arrival) (g : List LabelledEvent) (e : LabelledEvent) → 0 < rate → IsLawful p → AreRising arrived
    → IsOnTime p rate arrived (unlabelled g) → IsOffer p rate seed arrived g e ⊎ IsSending p rate arrived g e → IsOnTime p rate arrived (unlabelled (e ∷ g))
on_time_step p rate seed arrived g e pos law rise t (inl x) =
    let P : Event → Type 0 = λ y. IsOnTime p rate arrived (y ∷ unlabelled g) in
    let w : DrawnWords = record { seed = seed; drawn = drawn (unlabelled g) } in
    subst P (sym (offer_event p rate seed arrived g e x))
    (on_time_offer p rate arrived (unlabelled g) x.packet w (p.answer (unlabelled g) w x.packet) law rise x.next x.first t)
on_time_step p rate seed arrived g e pos law rise t (inr x) =
    let P : Event → Type 0 = λ y. IsOnTime p rate arrived (y ∷ unlabelled g) in
    subst P (sym x.event) (on_time_sent p rate arrived (unlabelled g) x.sending pos law (t.starts x.sending.class x.sending.start x.may.held x.may.start) t)

pub have_arrived : (p : Policy) (rate : ℕ) (arrived : List Arrival) (h : List Event) (s : ℕ) → IsOnTime p rate arrived h
    → first_start p (link rate h).free h p.classes ≡ Some s → HaveArrived p s h
have_arrived p rate arrived h s t f =
    let x = first_of p (link rate h).free h p.classes s f in
    let l : latest h ≤ s = t.starts x.class s x.one x.start in
    λ c a i e. omega (arith, head_latest c h a e, l)

pub follows : (p : Policy) (rate seed : ℕ) (arrived : List Arrival) (g : List LabelledEvent) (e : LabelledEvent) → IsLawful p → IsOnTime p rate arrived (unlabelled g)
    → due p rate seed arrived g ≡ Some e → IsOffer p rate seed arrived g e ⊎ IsSending p rate arrived g e
follows p rate seed arrived g e law t d = due_is p rate seed arrived g e law (λ s f. have_arrived p rate arrived (unlabelled g) s t f) d

pub on_time : (p : Policy) (rate seed : ℕ) (arrived : List Arrival) (g : List LabelledEvent) → 0 < rate → IsLawful p → AreRising arrived
    → AreDue p rate seed arrived g → IsOnTime p rate arrived (unlabelled g)
on_time p rate seed arrived [] pos law rise d = on_time_first p rate arrived
on_time p rate seed arrived (e ∷ g) pos law rise d =
    let t = on_time p rate seed arrived g pos law rise d.1 in
    on_time_step p rate seed arrived g e pos law rise t (follows p rate seed arrived g e law t d.0)

pub each_follows : (p : Policy) (rate seed : ℕ) (arrived : List Arrival) (g : List LabelledEvent) → 0 < rate → IsLawful p → AreRising arrived
    → AreDue p rate seed arrived g → EachFollows p rate seed arrived g
each_follows p rate seed arrived [] pos law rise d = tt
each_follows p rate seed arrived (e ∷ g) pos law rise d =
    (follows p rate seed arrived g e law (on_time p rate seed arrived g pos law rise d.1) d.0, each_follows p rate seed arrived g pos law rise d.1)

-- in a play one moment serves for all classes: the greater of the last end and the greatest arrival of what was offered
same_case : (p : Policy) (rate : ℕ) (arrived : List Arrival) (h : List Event) (c : ℕ) (o : Option Arrival) → IsLawful p → IsSteady p → IsOnTime p rate arrived h
    → IsOneOf c p.classes → head c h ≡ o → class_start p (link rate h).free h c ≡ start_at p (max (link rate h).free (latest h)) h c
same_case p rate arrived h c None law s t i e = rw e refl
same_case p rate arrived h c (Some a) law s t i e =
    let free : ℕ = (link rate h).free in
    let x = start_of p free h c a e in
    let y : start_at p (max free (latest h)) h c ≡ Some (p.start_from h c (max free (latest h))) = rw e refl in
    let i' : IsHead p h c a = record { held = i; front = e } in
    let l = law.later h c (max free a.at) a i' in
    let m = t.starts c (p.start_from h c (max free a.at)) i x in
    let same = s h c (max free a.at) (max free (latest h)) a i' (omega (arith, head_latest c h a e)) (omega (arith, l, m)) in
    x ∙ ap (λ (n : ℕ). Some n) (sym same) ∙ sym y

same_firsts : (p : Policy) (rate : ℕ) (arrived : List Arrival) (h : List Event) (cs : List ℕ) → IsLawful p → IsSteady p → IsOnTime p rate arrived h
    → ((c : ℕ) → IsOneOf c cs → IsOneOf c p.classes)
    → first_start p (link rate h).free h cs ≡ first_at p (max (link rate h).free (latest h)) h cs
same_firsts p rate arrived h [] law s t i = refl
same_firsts p rate arrived h (c ∷ cs) law s t i =
    let x = same_case p rate arrived h c (head c h) law s t (i c (inl refl)) refl in
    let y = same_firsts p rate arrived h cs law s t (λ d f. i d (inr f)) in
    ap (λ (o : Option ℕ). lesser o (first_start p (link rate h).free h cs)) x
    ∙ ap (λ (o : Option ℕ). lesser (start_at p (max (link rate h).free (latest h)) h c) o) y

pub one_moment : (p : Policy) (rate seed : ℕ) (arrived : List Arrival) (g : List LabelledEvent) → 0 < rate → IsLawful p → IsSteady p → AreRising arrived
    → AreDue p rate seed arrived g
    → first_start p (link rate (unlabelled g)).free (unlabelled g) p.classes ≡ first_at p (max (link rate (unlabelled g)).free (latest (unlabelled g))) (unlabelled g) p.classes
one_moment p rate seed arrived g pos law s rise d =
    same_firsts p rate arrived (unlabelled g) p.classes law s (on_time p rate seed arrived g pos law rise d) (λ c i. i)

pub all_arrived : (p : Policy) (rate seed : ℕ) (arrived : List Arrival) (g : List LabelledEvent) → 0 < rate → IsLawful p → AreRising arrived
    → AreDue p rate seed arrived g → (s : ℕ) → first_start p (link rate (unlabelled g)).free (unlabelled g) p.classes ≡ Some s → latest (unlabelled g) ≤ s
all_arrived p rate seed arrived g pos law rise d = λ s f.
    let x = first_of p (link rate (unlabelled g)).free (unlabelled g) p.classes s f in
    (on_time p rate seed arrived g pos law rise d).starts x.class s x.one x.start

pub next_later : (p : Policy) (rate seed : ℕ) (arrived : List Arrival) (g : List LabelledEvent) → 0 < rate → IsLawful p → AreRising arrived
    → AreDue p rate seed arrived g → (a : Arrival) → slice_get arrived (offered (unlabelled g)) ≡ Some a → latest (unlabelled g) ≤ a.at
next_later p rate seed arrived g pos law rise d = λ a e.
    (on_time p rate seed arrived g pos law rise d).comes (offered (unlabelled g)) a (omega arith) e
