-- Where a play of a capture that was not read to its end is cut off.
use Rattle.std.proofs.Common.{◌≡◌, ◌≤◌, ◌<◌, ◌-◌, ◌+◌, ◌∙◌, ◌⊎◌, ℕ, zero, suc, max, length, drop, List, [], ◌∷◌, None, Some, ap, sym, subst, refl, inl, inr, arith}
use Rattle.std.specs.Prelude.{slice_get}
use Rattle.altq_model.specs.declared.Placed.{Placed}
use Rattle.altq_model.specs.Arrivals.{arrivals_from, arrivals_of, bare_arrivals}
use Rattle.altq_model.specs.History.{Arrival, DrawnWords, Event, Offered, Sent, LabelledEvent, unlabelled, drawn, offered}
use Rattle.altq_model.specs.Laws.{IsInTime, EndsInTime}
use Rattle.altq_model.specs.Laws.{IsLate as EndsTooLate}
use Rattle.altq_model.specs.Lawful.{AreRising, IsLawful, greatest, latest}
use Rattle.altq_model.specs.Play.{Policy, AreDue, due}
use Rattle.capture_model.specs.Capture.{Record}
use Rattle.play_core.specs.Ended.{IsBegun, IsCutOff}
use Rattle.play_laws.specs.Events.{EachFollows, IsOffer, IsSending}
use Rattle.play_laws.proofs.ArrivalLemmas.{arrivals_length, arrivals_rise}
use Rattle.play_laws.proofs.DueLemmas.{offer_event}
use Rattle.play_laws.proofs.OneLemmas.{one_play}
use Rattle.play_laws.proofs.TimeLemmas.{IsOnTime, each_follows, follows, on_time}
use Rattle.play_loop.specs.Played.{start_of}

short_or_long : (n m : ℕ) → (n < m) ⊎ (m ≤ n)
short_or_long n m = grind arith

-- each of the older events is in time too
in_time_drop : (n : ℕ) (g : List LabelledEvent) → IsInTime g → IsInTime (drop n g)
in_time_drop zero g h = h
in_time_drop (suc n) [] h = h
in_time_drop (suc n) (e ∷ g) h = in_time_drop n g h.1

late_event : (x : Event) → EndsTooLate x → EndsInTime x → ⊥
late_event (Offered a w v) l h = l
late_event (Sent s) l h = omega (arith, l, h)

none_some : (e : LabelledEvent) → None ≡ Some e → ⊥
none_some e h = cc

due_drop_next : (p : Policy) (rate seed : ℕ) (arrived : List Arrival) (k : List LabelledEvent) (m : ℕ) → AreDue p rate seed arrived k → m < length k
    → (e : LabelledEvent) × (due p rate seed arrived (drop (suc m) k) ≡ Some e)
due_drop_next p rate seed arrived [] m d l = absurd (omega (arith, l))
due_drop_next p rate seed arrived (e ∷ k) zero d l = (e, d.0)
due_drop_next p rate seed arrived (e ∷ k) (suc m) d l = due_drop_next p rate seed arrived k m d.1 (omega (arith, l))

suc_pred : (n : ℕ) → 0 < n → suc (n - 1) ≡ n
suc_pred n l = omega (arith, l)

-- events in time hold no sending that would end too late
not_within : (p : Policy) (rate seed : ℕ) (arrived : List Arrival) (g k : List LabelledEvent) → IsBegun p rate seed arrived g → (c : IsCutOff p rate seed arrived k)
    → length (c.next ∷ k) ≤ length g → ⊥
not_within p rate seed arrived g k x c l =
    let late : List LabelledEvent = c.next ∷ k in
    let d : AreDue p rate seed arrived late = (c.is_due, c.begun.events) in
    let same : drop (length g - length late) g ≡ late = one_play p rate seed arrived late g d x.events l in
    let h : IsInTime late = subst IsInTime same (in_time_drop (length g - length late) g x.in_time) in
    late_event c.next.what c.late h.0

-- no play that ended in time is cut off
by_lengths : (p : Policy) (rate seed : ℕ) (arrived : List Arrival) (g k : List LabelledEvent) → IsBegun p rate seed arrived g → due p rate seed arrived g ≡ None
    → (c : IsCutOff p rate seed arrived k) → (length g < length (c.next ∷ k)) ⊎ (length (c.next ∷ k) ≤ length g) → ⊥
by_lengths p rate seed arrived g k x done c (inl l) =
    let late : List LabelledEvent = c.next ∷ k in
    let d : AreDue p rate seed arrived late = (c.is_due, c.begun.events) in
    let m : ℕ = length late - length g in
    let y = due_drop_next p rate seed arrived late (m - 1) d (omega (arith, l)) in
    let same : drop (suc (m - 1)) late ≡ g = ap (λ (i : ℕ). drop i late) (suc_pred m (omega (arith, l))) ∙ one_play p rate seed arrived g late x.events d (omega (arith, l)) in
    none_some y.0 (sym done ∙ ap (due p rate seed arrived) (sym same) ∙ y.1)
by_lengths p rate seed arrived g k x done c (inr l) = not_within p rate seed arrived g k x c l

pub not_cut : (p : Policy) (rate seed : ℕ) (arrived : List Arrival) (g k : List LabelledEvent) → IsBegun p rate seed arrived g → due p rate seed arrived g ≡ None
    → IsCutOff p rate seed arrived k → ⊥
not_cut p rate seed arrived g k x done c = by_lengths p rate seed arrived g k x done c (short_or_long _ _)

-- what was offered arrived by the latest of it
offers_step : (p : Policy) (rate seed : ℕ) (arrived : List Arrival) (g : List LabelledEvent) (e : LabelledEvent) (j : ℕ) (a : Arrival)
    → IsOffer p rate seed arrived g e ⊎ IsSending p rate arrived g e → slice_get arrived j ≡ Some a
    → (j < offered (unlabelled g) → a.at ≤ latest (unlabelled g)) → j < offered (unlabelled (e ∷ g)) → a.at ≤ latest (unlabelled (e ∷ g))
offers_step p rate seed arrived g e j a (inl x) at before =
    let P : Event → Type 0 = λ y. j < offered (y ∷ unlabelled g) → a.at ≤ latest (y ∷ unlabelled g) in
    let w : DrawnWords = record { seed = seed; drawn = drawn (unlabelled g) } in
    subst P (sym (offer_event p rate seed arrived g e x)) (λ l. by (short_or_long j (offered (unlabelled g))) l)
  where
    by : (j < offered (unlabelled g)) ⊎ (offered (unlabelled g) ≤ j) → j < offered (unlabelled g) + 1 → a.at ≤ max x.packet.at (latest (unlabelled g))
    by (inl m) l = let y = before m in omega (arith, y)
    by (inr m) l =
        let same : j ≡ offered (unlabelled g) = omega (arith, m, l) in
        let one : Some a ≡ Some x.packet = sym at ∙ ap (slice_get arrived) same ∙ x.next in
        let packet : a ≡ x.packet = cc in
        let moment : a.at ≡ x.packet.at = ap (λ (b : Arrival). b.at) packet in
        omega (arith, moment)
offers_step p rate seed arrived g e j a (inr x) at before =
    let P : Event → Type 0 = λ y. j < offered (y ∷ unlabelled g) → a.at ≤ latest (y ∷ unlabelled g) in
    subst P (sym x.event) (λ l. before l)

by_offers : (p : Policy) (rate seed : ℕ) (arrived : List Arrival) (g : List LabelledEvent) (j : ℕ) (a : Arrival) → EachFollows p rate seed arrived g
    → slice_get arrived j ≡ Some a → j < offered (unlabelled g) → a.at ≤ latest (unlabelled g)
by_offers p rate seed arrived [] j a x at l = absurd (omega (arith, l))
by_offers p rate seed arrived (e ∷ g) j a x at l =
    offers_step p rate seed arrived g e j a x.0 at (λ m. by_offers p rate seed arrived g j a x.1 at m) l

all_within : (place : List ℕ → Placed) (t m : ℕ) (records : List Record) → t ≤ m
    → ((j : ℕ) (a : Arrival) → slice_get (bare_arrivals (arrivals_from place t records)) j ≡ Some a → a.at ≤ m) → greatest t records ≤ m
all_within place t m [] l h = l
all_within place t m (r ∷ records) l h = all_within place (max t r.stamp) m records (h 0 _ refl) (λ j a e. h (suc j) a e)

within_list : (xs : List Arrival) (j : ℕ) (a : Arrival) → slice_get xs j ≡ Some a → j < length xs
within_list [] j a e = absurd (cc)
within_list (x ∷ xs) zero a e = omega arith
within_list (x ∷ xs) (suc j) a e = let l = within_list xs j a e in omega (arith, l)

-- where all were offered, a sending that is due starts no earlier than the last of them arrived
starts_after : (p : Policy) (rate seed : ℕ) (arrived : List Arrival) (k : List LabelledEvent) (e : LabelledEvent) → IsOnTime p rate arrived (unlabelled k)
    → EndsTooLate e.what → IsOffer p rate seed arrived k e ⊎ IsSending p rate arrived k e → latest (unlabelled k) ≤ start_of e.what
starts_after p rate seed arrived k e t late (inl x) =
    absurd (subst EndsTooLate (offer_event p rate seed arrived k e x) late)
starts_after p rate seed arrived k e t late (inr x) =
    let l : latest (unlabelled k) ≤ x.sending.start = t.starts x.sending.class x.sending.start x.may.held x.may.start in
    let same : start_of e.what ≡ x.sending.start = ap start_of x.event in
    omega (arith, l, same)

pub late_starts_after : (p : Policy) (rate seed : ℕ) (place : List ℕ → Placed) (records : List Record) (k : List LabelledEvent) → 0 < rate → IsLawful p
    → (c : IsCutOff p rate seed (bare_arrivals (arrivals_of place records)) k) → length records ≤ offered (unlabelled k) → greatest 0 records ≤ start_of c.next.what
late_starts_after p rate seed place records k pos law c all =
    let arrived : List Arrival = bare_arrivals (arrivals_of place records) in
    let rise : AreRising arrived = arrivals_rise place records in
    let t = on_time p rate seed arrived k pos law rise c.begun.events in
    let each = each_follows p rate seed arrived k pos law rise c.begun.events in
    let late : latest (unlabelled k) ≤ start_of c.next.what = starts_after p rate seed arrived k c.next t c.late (follows p rate seed arrived k c.next law t c.is_due) in
    let long : length arrived ≡ length records = arrivals_length place records in
    let most : greatest 0 records ≤ latest (unlabelled k) =
    all_within place 0 (latest (unlabelled k)) records (omega arith) (λ j a e.
    let l = within_list arrived j a e in by_offers p rate seed arrived k j a each e (omega (arith, l, long, all))) in
    omega (arith, late, most)

one_fewer : (e : Event) (h : List Event) → offered h ≤ offered (e ∷ h)
one_fewer (Offered a w v) h = omega arith
one_fewer (Sent s) h = omega arith

offered_drop : (m : ℕ) (k : List LabelledEvent) → offered (unlabelled (drop m k)) ≤ offered (unlabelled k)
offered_drop zero k = omega arith
offered_drop (suc m) [] = omega arith
offered_drop (suc m) (e ∷ k) = let x = offered_drop m k in let y = one_fewer e.what (unlabelled k) in omega (arith, x, y)

-- so where all were offered in time, no sending that starts before the last of them arrives would end too late
by_order : (p : Policy) (rate seed : ℕ) (place : List ℕ → Placed) (records : List Record) (g k : List LabelledEvent) → 0 < rate → IsLawful p
    → IsBegun p rate seed (bare_arrivals (arrivals_of place records)) g → length records ≤ offered (unlabelled g)
    → (c : IsCutOff p rate seed (bare_arrivals (arrivals_of place records)) k) → start_of c.next.what < greatest 0 records
    → (length g < length (c.next ∷ k)) ⊎ (length (c.next ∷ k) ≤ length g) → ⊥
by_order p rate seed place records g k pos law x all c early (inl l) =
    let same : drop (length k - length g) k ≡ g = one_play p rate seed (bare_arrivals (arrivals_of place records)) g k x.events c.begun.events (omega (arith, l)) in
    let fewer = offered_drop (length k - length g) k in
    let here : offered (unlabelled (drop (length k - length g) k)) ≡ offered (unlabelled g) = ap (λ (h : List LabelledEvent). offered (unlabelled h)) same in
    let after = late_starts_after p rate seed place records k pos law c (omega (arith, all, fewer, here)) in
    omega (arith, after, early)
by_order p rate seed place records g k pos law x all c early (inr l) =
    not_within p rate seed (bare_arrivals (arrivals_of place records)) g k x c l

pub offered_not_early : (p : Policy) (rate seed : ℕ) (place : List ℕ → Placed) (records : List Record) (g k : List LabelledEvent) → 0 < rate → IsLawful p
    → IsBegun p rate seed (bare_arrivals (arrivals_of place records)) g → length records ≤ offered (unlabelled g)
    → (c : IsCutOff p rate seed (bare_arrivals (arrivals_of place records)) k) → start_of c.next.what < greatest 0 records → ⊥
offered_not_early p rate seed place records g k pos law x all c early =
    by_order p rate seed place records g k pos law x all c early (short_or_long _ _)
