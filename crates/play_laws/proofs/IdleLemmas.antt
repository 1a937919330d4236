-- The link never idles while a packet waits that is not dropped.
use Rattle.std.proofs.Common.{◌≡◌, ◌≤◌, ◌<◌, ◌+◌, ◌-◌, ◌∙◌, ◌⊎◌, inl, inr, ℕ, max, Bool, true, false, cond, List, [], ◌∷◌, ◌++◌, None, Some, refl, ap, sym, subst, arith}
use Rattle.std.specs.Prelude.{slice_get, ◌==◌}
use Rattle.std.proofs.lemmas.Bool.{eqb-true, eq-eqb}
use Rattle.std.proofs.lemmas.Grind.{common_steps}
use Rattle.std.proofs.lemmas.Option.{slice_get_within}
use Rattle.altq_model.specs.declared.Fate.{Fate}
use Rattle.altq_model.specs.declared.Fate.TheVariants as fate
use Rattle.altq_model.specs.declared.Verdict.{Verdict}
use Rattle.altq_model.specs.declared.Verdict.TheVariants.{Keep, Mark, Drop}
use Rattle.altq_model.specs.History.{Arrival, Answer, DrawnWords, Event, Offered, Sent, Sending, LabelledEvent, unlabelled, offered, drawn, head, waiting, labels, is_kept, Decision, dropped_by, decided, journal}
use Rattle.altq_model.specs.Link.{link}
use Rattle.altq_model.specs.Laws.{occurs, numbers}
use Rattle.altq_model.specs.Idle.{dropped, dropped_of, sent, sent_of, IsLeft, StartsAtOnce, FollowsAtOnce, AllAtOnce, NeverIdles}
use Rattle.altq_model.specs.Play.{Policy, class_start, AreDue}
use Rattle.altq_model.specs.Lawful.{IsOneOf, IsLawful, NeverWaits, AreHeld, AreRising}
use Rattle.play_laws.specs.Events.{IsOffer, IsSending, EachFollows}
use Rattle.play_laws.proofs.Starts.{least_is, start_of}
use Rattle.play_laws.proofs.DueLemmas.{offer_event}
use Rattle.play_laws.proofs.TimeLemmas.{each_follows, rising_at, there_at}
use Rattle.play_laws.proofs.OrderLemmas.{RisesTo, rises_push, rises_weaken, AreOf, waiting_of, IsNumbered, head_numbered, at_numbered}
use Rattle.play_laws.proofs.CountLemmas.{Place, places, with_place, without_first, all_labels, of_class, of_class_labels, labels_push, taken_out, one, should, journal_occurs, balanced}
use Rattle.play_laws.proofs.EndLemmas.{AllOneOf, held}

-- a decision is a drop or a sending
drop_case : (n m : ℕ) (f : Fate) (xs ys zs : List ℕ) → occurs n xs ≡ occurs n ys + occurs n zs
    → occurs n (dropped_of m f xs) ≡ occurs n (dropped_of m f ys) + occurs n zs
drop_case n m (fate.Dropped r) xs ys zs e = omega (arith, e)
drop_case n m (fate.Sent start end rule) xs ys zs e = e

dropped_occurs : (n : ℕ) (xs ys : List Decision) → occurs n (dropped (xs ++ ys)) ≡ occurs n (dropped xs) + occurs n (dropped ys)
dropped_occurs n [] ys = omega arith
dropped_occurs n (d ∷ xs) ys = drop_case n d.0 d.1 (dropped (xs ++ ys)) (dropped xs) (dropped ys) (dropped_occurs n xs ys)

verdict_split : (n m : ℕ) (v : Verdict) → occurs n (numbers (dropped_by v m)) ≡ occurs n (dropped (dropped_by v m))
verdict_split n m Keep = refl
verdict_split n m Mark = refl
verdict_split n m (Drop r) = refl

event_split : (n m : ℕ) (e : Event) (ss : List ℕ) → occurs n (numbers (decided m e)) + occurs n ss ≡ occurs n (dropped (decided m e)) + occurs n (sent_of m e ss)
event_split n m (Offered a w v) ss = omega (arith, verdict_split n m v.verdict)
event_split n m (Sent s) ss = omega arith

pub split : (n : ℕ) (g : List LabelledEvent) → occurs n (numbers (journal g)) ≡ occurs n (dropped (journal g)) + occurs n (sent g)
split n [] = refl
split n (e ∷ g) =
    let d : List Decision = decided e.label e.what in
    omega (arith, journal_occurs n (journal g) d, dropped_occurs n (journal g) d, event_split n e.label e.what (sent g), split n g)

-- what a later event drops was not offered before
KeepsDrops : List Decision → List LabelledEvent → Type 0
KeepsDrops js g = (n : ℕ) → n ≤ offered (unlabelled g) → occurs n (dropped js) ≡ occurs n (dropped (journal g))

not_next : (n m : ℕ) → n < m → one m n ≡ 0
not_next n m l = grind (arith, common_steps)

new_drop : (n m : ℕ) (v : Verdict) → n < m → occurs n (dropped (dropped_by v m)) ≡ 0
new_drop n m Keep l = refl
new_drop n m Mark l = refl
new_drop n m (Drop r) l = omega (arith, not_next n m l)

keeps_offer : (js : List Decision) (g : List LabelledEvent) (a : Arrival) (w : DrawnWords) (v : Answer)
    → let e : LabelledEvent = record { label = offered (unlabelled g) + 1; what = Offered a w v } in KeepsDrops js (e ∷ g) → KeepsDrops js g
unfolding KeepsDrops
keeps_offer js g a w v k = λ n l.
    let d : List Decision = dropped_by v.verdict (offered (unlabelled g) + 1) in
    omega (arith, k n (omega arith), dropped_occurs n (journal g) d, new_drop n (offered (unlabelled g) + 1) v.verdict (omega arith))

keeps_sent : (js : List Decision) (g : List LabelledEvent) (m : ℕ) (s : Sending)
    → let e : LabelledEvent = record { label = m; what = Sent s } in KeepsDrops js (e ∷ g) → KeepsDrops js g
unfolding KeepsDrops
keeps_sent js g m s k = λ n l. omega (arith, k n l, dropped_occurs n (journal g) (decided m (Sent s)))

keeps_step : (p : Policy) (rate seed : ℕ) (arrived : List Arrival) (js : List Decision) (g : List LabelledEvent) (e : LabelledEvent) → KeepsDrops js (e ∷ g)
    → IsOffer p rate seed arrived g e ⊎ IsSending p rate arrived g e → KeepsDrops js g
keeps_step p rate seed arrived js g e k (inl y) =
    let P : LabelledEvent → Type 0 = λ z. KeepsDrops js (z ∷ g) in
    let w : DrawnWords = record { seed = seed; drawn = drawn (unlabelled g) } in
    keeps_offer js g y.packet w (p.answer (unlabelled g) w y.packet) (subst P y.offer k)
keeps_step p rate seed arrived js g e k (inr y) =
    let P : Event → Type 0 = λ z. let f : LabelledEvent = record { label = e.label; what = z } in KeepsDrops js (f ∷ g) in
    keeps_sent js g e.label y.sending (subst P y.event k)

-- what waits stands in order of number
rises_lower : (m low high : ℕ) (ns : List ℕ) → m ≤ low → RisesTo low high ns → RisesTo m high ns
rises_lower m low high [] l r = omega arith
rises_lower m low high (n ∷ ns) l r = (omega (arith, r.0), r.1)

rises_case : (low high c : ℕ) (x : Place) (xs : List Place) (b : Bool) → RisesTo low high (all_labels (x ∷ xs)) → RisesTo x.1 high (all_labels (without_first c xs))
    → RisesTo low high (all_labels (cond b xs (x ∷ without_first c xs)))
rises_case low high c x xs true r f = rises_lower low x.1 high (all_labels xs) (omega (arith, r.0)) r.1
rises_case low high c x xs false r f = (r.0, f)

rises_take : (low high c : ℕ) (xs : List Place) → RisesTo low high (all_labels xs) → RisesTo low high (all_labels (without_first c xs))
rises_take low high c [] r = r
rises_take low high c (x ∷ xs) r = rises_case low high c x xs (x.0 == c) r (rises_take x.1 high c xs r.1)

rises_if : (high q : ℕ) (k : Bool) (xs : List Place) → RisesTo 0 high (all_labels xs) → RisesTo 0 (high + 1) (all_labels (cond k (xs ++ (q, high + 1) ∷ []) xs))
rises_if high q true xs r =
    let P : List ℕ → Type 0 = λ l. RisesTo 0 (high + 1) l in
    subst P (sym (labels_push xs (q, high + 1))) (rises_push 0 high (high + 1) (all_labels xs) (omega arith) r)
rises_if high q false xs r = rises_weaken 0 high (high + 1) (all_labels xs) (omega arith) r

rises_place : (high k : ℕ) (v : Verdict) (xs : List Place) → RisesTo 0 high (all_labels xs) → RisesTo 0 (high + 1) (all_labels (with_place v (k, high + 1) xs))
rises_place high k v xs r = rises_if high k (is_kept v) xs r

places_step : (p : Policy) (rate seed : ℕ) (arrived : List Arrival) (g : List LabelledEvent) (e : LabelledEvent) → RisesTo 0 (offered (unlabelled g)) (all_labels (places g))
    → IsOffer p rate seed arrived g e ⊎ IsSending p rate arrived g e → RisesTo 0 (offered (unlabelled (e ∷ g))) (all_labels (places (e ∷ g)))
places_step p rate seed arrived g e r (inl y) =
    let P : LabelledEvent → Type 0 = λ z. RisesTo 0 (offered (unlabelled (z ∷ g))) (all_labels (places (z ∷ g))) in
    let w : DrawnWords = record { seed = seed; drawn = drawn (unlabelled g) } in
    subst P (sym y.offer) (rises_place (offered (unlabelled g)) y.packet.class (p.answer (unlabelled g) w y.packet).verdict (places g) r)
places_step p rate seed arrived g e r (inr y) =
    let P : Event → Type 0 = λ z. let f : LabelledEvent = record { label = e.label; what = z } in RisesTo 0 (offered (unlabelled (f ∷ g))) (all_labels (places (f ∷ g))) in
    subst P (sym y.event) (rises_take 0 (offered (unlabelled g)) y.sending.class (places g) r)

places_rise : (p : Policy) (rate seed : ℕ) (arrived : List Arrival) (g : List LabelledEvent) → EachFollows p rate seed arrived g
    → RisesTo 0 (offered (unlabelled g)) (all_labels (places g))
places_rise p rate seed arrived [] f = omega arith
places_rise p rate seed arrived (e ∷ g) f = places_step p rate seed arrived g e (places_rise p rate seed arrived g f.1) f.0

test_above : (low n m : ℕ) (ms : List ℕ) (b : Bool) → (m == n) ≡ b → low < m → (0 < occurs n ms → m < n) → 0 < cond b 1 0 + occurs n ms → low < n
test_above low n m ms true e l f o = omega (arith, eqb-true m n e)
test_above low n m ms false e l f o = omega (arith, f (omega arith))

above : (low high n : ℕ) (ns : List ℕ) → RisesTo low high ns → 0 < occurs n ns → low < n
above low high n [] r o = absurd (omega arith)
above low high n (m ∷ ms) r o = test_above low n m ms (m == n) refl r.0 (above m high n ms r.1) o

test_first : (n m : ℕ) (ms : List ℕ) (b : Bool) → (m == n) ≡ b → (0 < occurs n ms → m < n) → 0 < cond b 1 0 + occurs n ms → m ≤ n
test_first n m ms true e f o = omega (arith, eqb-true m n e)
test_first n m ms false e f o = omega (arith, f (omega arith))

first_least : (low high n m : ℕ) (ms : List ℕ) → RisesTo low high (m ∷ ms) → 0 < occurs n (m ∷ ms) → m ≤ n
first_least low high n m ms r o = test_first n m ms (m == n) refl (above m high n ms r.1) o

bounded : (low high : ℕ) (ns : List ℕ) → RisesTo low high ns → low ≤ high
bounded low high [] r = r
bounded low high (n ∷ ns) r = omega (arith, r.0, bounded n high ns r.1)

one_same : (n : ℕ) → one n n ≡ 1
one_same n = grind (arith, common_steps)

should_be : (n count : ℕ) → 0 < n → n ≤ count → should n count ≡ 1
should_be n count a b = grind (arith, common_steps)

should_most : (n count : ℕ) → should n count ≤ 1
should_most n count = grind (arith, common_steps)

-- the first packet that waits
record IsFirst (arrived : List Arrival) (g : List LabelledEvent) (c n : ℕ) : Type 0 where
  packet : Arrival
  front : head c (unlabelled g) ≡ Some packet
  numbered : IsNumbered arrived n packet

has_packet : (arrived : List Arrival) (ns : List ℕ) (ws : List Arrival) (n : ℕ) → AreOf arrived ns ws → slice_get ns 0 ≡ Some n → (a : Arrival) × (slice_get ws 0 ≡ Some a)
has_packet arrived [] ws n x e = absurd (cc)
has_packet arrived (m ∷ ns) [] n x e = absurd x
has_packet arrived (m ∷ ns) (a ∷ ws) n x e = (a, refl)

first_label : (g : List LabelledEvent) (x : Place) (xs : List Place) → places g ≡ x ∷ xs → slice_get (labels x.0 g) 0 ≡ Some x.1
first_label g x xs e =
    let t : (x.0 == x.0) ≡ true = eq-eqb x.0 x.0 refl in
    let q : of_class x.0 (x ∷ xs) ≡ x.1 ∷ of_class x.0 xs = rw t refl in
    ap (λ (l : List ℕ). slice_get l 0) (sym (of_class_labels x.0 g) ∙ ap (of_class x.0) e ∙ q)

is_first : (p : Policy) (rate seed : ℕ) (arrived : List Arrival) (g : List LabelledEvent) (x : Place) (xs : List Place) → EachFollows p rate seed arrived g → places g ≡ x ∷ xs
    → IsFirst arrived g x.0 x.1
is_first p rate seed arrived g x xs f e =
    let l = first_label g x xs e in
    let a = has_packet arrived (labels x.0 g) (waiting x.0 (unlabelled g)) x.1 (waiting_of p rate seed arrived g x.0 f) l in
    record { packet = a.0; front = a.1; numbered = head_numbered p rate seed arrived g x.0 x.1 a.0 f l a.1 }

decide : (n m : ℕ) → (n ≤ m) ⊎ (m < n)
decide n m = grind arith

-- what is left is not before the first that waits
left_case : (p : Policy) (rate seed : ℕ) (arrived : List Arrival) (js : List Decision) (g : List LabelledEvent) (x : Place) (xs : List Place) (n : ℕ)
    → EachFollows p rate seed arrived g → KeepsDrops js g → places g ≡ x ∷ xs → IsLeft arrived js g n
    → (n ≤ offered (unlabelled g)) ⊎ (offered (unlabelled g) < n) → x.1 ≤ n
unfolding KeepsDrops
left_case p rate seed arrived js g x xs n f k e l (inl low) =
    let r : RisesTo 0 (offered (unlabelled g)) (all_labels (x ∷ xs)) =
    (let P : List Place → Type 0 = λ ys. RisesTo 0 (offered (unlabelled g)) (all_labels ys) in subst P e (places_rise p rate seed arrived g f)) in
    let b = (balanced p rate seed arrived g n f).once in
    let q = ap (λ (ys : List Place). occurs n (all_labels ys)) e in
    first_least 0 (offered (unlabelled g)) n x.1 (all_labels xs) r
    (omega (arith, b, q, split n g, k n low, l.kept, l.unsent, should_be n (offered (unlabelled g)) l.from_one low))
left_case p rate seed arrived js g x xs n f k e l (inr high) =
    let r : RisesTo 0 (offered (unlabelled g)) (all_labels (x ∷ xs)) =
    (let P : List Place → Type 0 = λ ys. RisesTo 0 (offered (unlabelled g)) (all_labels ys) in subst P e (places_rise p rate seed arrived g f)) in
    omega (arith, bounded x.1 (offered (unlabelled g)) (all_labels xs) r.1)

first_left : (p : Policy) (rate seed : ℕ) (arrived : List Arrival) (js : List Decision) (g : List LabelledEvent) (x : Place) (xs : List Place)
    → EachFollows p rate seed arrived g → KeepsDrops js g → places g ≡ x ∷ xs → IsLeft arrived js g x.1
unfolding KeepsDrops
first_left p rate seed arrived js g x xs f k e =
    let i = is_first p rate seed arrived g x xs f e in
    let r : RisesTo 0 (offered (unlabelled g)) (all_labels (x ∷ xs)) =
    (let P : List Place → Type 0 = λ ys. RisesTo 0 (offered (unlabelled g)) (all_labels ys) in subst P e (places_rise p rate seed arrived g f)) in
    let b = (balanced p rate seed arrived g x.1 f).once in
    let q : occurs x.1 (all_labels (places g)) ≡ one x.1 x.1 + occurs x.1 (all_labels xs) = ap (λ (ys : List Place). occurs x.1 (all_labels ys)) e in
    let o = one_same x.1 in
    let m = should_most x.1 (offered (unlabelled g)) in
    let low : x.1 ≤ offered (unlabelled g) = bounded x.1 (offered (unlabelled g)) (all_labels xs) r.1 in
    let t = slice_get_within arrived (x.1 - 1) i.packet i.numbered.there in
    record {
      from_one = i.numbered.from_one;
      there = omega (arith, t, i.numbered.from_one);
      kept = omega (arith, b, q, o, m, split x.1 g, k x.1 low);
      unsent = omega (arith, b, q, o, m, split x.1 g);
    }

never_waits_start : (p : Policy) (free : ℕ) (g : List LabelledEvent) (c s : ℕ) (a : Arrival) → NeverWaits p → IsOneOf c p.classes → head c (unlabelled g) ≡ Some a → class_start p free (unlabelled g) c ≡ Some s
    → s ≡ max free a.at
never_waits_start p free g c s a nw i e f =
    let x = start_of p free (unlabelled g) c a e in
    let q : Some (p.start_from (unlabelled g) c (max free a.at)) ≡ Some s = sym x ∙ f in
    let r : p.start_from (unlabelled g) c (max free a.at) ≡ s = cc in
    sym r ∙ nw (unlabelled g) c (max free a.at) a (record { held = i; front = e })

at_once : (p : Policy) (rate seed : ℕ) (arrived : List Arrival) (js : List Decision) (g : List LabelledEvent) (e : LabelledEvent) (y : IsSending p rate arrived g e) (xs : List Place)
    → NeverWaits p → AreRising arrived → AreHeld p arrived → EachFollows p rate seed arrived g → KeepsDrops js g → places g ≡ xs
    → StartsAtOnce rate arrived js g y.sending
at_once p rate seed arrived js g e y [] nw rise can f k q =
    let l = of_class_labels y.sending.class g in
    let z : slice_get (labels y.sending.class g) 0 ≡ None = ap (λ (ns : List ℕ). slice_get ns 0) (sym l ∙ ap (of_class y.sending.class) q) in
    let n = y.number in
    absurd (cc)
at_once p rate seed arrived js g e y (x ∷ xs) nw rise can f k q =
    let free : ℕ = (link rate (unlabelled g)).free in
    let i = is_first p rate seed arrived g x xs f q in
    let b : Arrival = i.packet in
    let one_of : IsOneOf x.0 p.classes = (let P : List Place → Type 0 = λ ys. AllOneOf p.classes ys in subst P q (held p rate seed arrived g can f)).0 in
    let first_start_is = start_of p free (unlabelled g) x.0 b i.front in
    let low = least_is p free (unlabelled g) p.classes x.0 y.sending.start (p.start_from (unlabelled g) x.0 (max free b.at)) y.least one_of first_start_is in
    let wait = nw (unlabelled g) x.0 (max free b.at) b (record { held = one_of; front = i.front }) in
    let own = never_waits_start p free g y.sending.class y.sending.start y.packet nw y.may.held y.front y.may.start in
    let num = head_numbered p rate seed arrived g y.sending.class e.label y.packet f y.number y.front in
    let r : RisesTo 0 (offered (unlabelled g)) (all_labels (x ∷ xs)) =
    (let P : List Place → Type 0 = λ ys. RisesTo 0 (offered (unlabelled g)) (all_labels ys) in subst P q (places_rise p rate seed arrived g f)) in
    let out = taken_out e.label y.sending.class e.label (places g) (ap (λ (l : List ℕ). slice_get l 0) (of_class_labels y.sending.class g) ∙ y.number) in
    let same = ap (λ (ys : List Place). occurs e.label (all_labels ys)) q in
    let before : x.1 ≤ e.label = first_least 0 (offered (unlabelled g)) e.label x.1 (all_labels xs) r (omega (arith, out, same, one_same e.label)) in
    let order = rising_at 0 arrived (x.1 - 1) (e.label - 1) b y.packet rise i.numbered.there num.there (omega arith) in
    let at = at_numbered arrived x.1 b i.numbered.there in
    record {
      first = x.1;
      left = first_left p rate seed arrived js g x xs f k q;
      least = λ n l.
          let le = left_case p rate seed arrived js g x xs n f k q l (decide n (offered (unlabelled g))) in
          let a = there_at arrived (n - 1) (omega (arith, l.from_one, l.there)) in
          omega (arith, rising_at 0 arrived (x.1 - 1) (n - 1) b a.0 rise i.numbered.there a.1 (omega arith), at, at_numbered arrived n a.0 a.1);
      start = omega (arith, low, wait, own, order, at);
    }

at_once_step : (p : Policy) (rate seed : ℕ) (arrived : List Arrival) (js : List Decision) (g : List LabelledEvent) (e : LabelledEvent)
    → NeverWaits p → AreRising arrived → AreHeld p arrived → EachFollows p rate seed arrived g → KeepsDrops js g
    → IsOffer p rate seed arrived g e ⊎ IsSending p rate arrived g e → FollowsAtOnce rate arrived js e.what g
at_once_step p rate seed arrived js g e nw rise can f k (inl y) =
    let P : Event → Type 0 = λ z. FollowsAtOnce rate arrived js z g in subst P (sym (offer_event p rate seed arrived g e y)) tt
at_once_step p rate seed arrived js g e nw rise can f k (inr y) =
    let P : Event → Type 0 = λ z. FollowsAtOnce rate arrived js z g in
    subst P (sym y.event) (at_once p rate seed arrived js g e y (places g) nw rise can f k refl)

all_at_once : (p : Policy) (rate seed : ℕ) (arrived : List Arrival) (js : List Decision) (g : List LabelledEvent) → NeverWaits p → AreRising arrived → AreHeld p arrived
    → EachFollows p rate seed arrived g → KeepsDrops js g → AllAtOnce rate arrived js g
all_at_once p rate seed arrived js [] nw rise can f k = tt
all_at_once p rate seed arrived js (e ∷ g) nw rise can f k =
    let l = keeps_step p rate seed arrived js g e k f.0 in
    (at_once_step p rate seed arrived js g e nw rise can f.1 l f.0, all_at_once p rate seed arrived js g nw rise can f.1 l)

all_kept : (g : List LabelledEvent) → KeepsDrops (journal g) g
unfolding KeepsDrops
all_kept g = λ n l. refl

pub never_idles : (p : Policy) (rate seed : ℕ) (arrived : List Arrival) (g : List LabelledEvent) → 0 < rate → IsLawful p → NeverWaits p → AreRising arrived → AreHeld p arrived
    → AreDue p rate seed arrived g → NeverIdles rate arrived g
never_idles p rate seed arrived g pos law nw rise can d =
    all_at_once p rate seed arrived (journal g) g nw rise can (each_follows p rate seed arrived g pos law rise d) (all_kept g)
