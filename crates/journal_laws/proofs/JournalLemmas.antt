-- The laws of a history are those of its journal.
use Rattle.std.proofs.Common.{◌≡◌, ◌≤◌, ◌<◌, ◌+◌, ◌-◌, ◌∙◌, ◌⊎◌, inl, inr, ℕ, max, Bool, true, false, cond, List, [], ◌∷◌, ◌++◌, Some, refl, ap, sym, subst, arith}
use Rattle.std.specs.Prelude.{slice_get, ◌==◌}
use Rattle.std.specs.Option.{option_map_or}
use Rattle.std.specs.declared.option.Option.{Option}
use Rattle.altq_model.specs.declared.Fate.TheVariants as fate
use Rattle.altq_model.specs.declared.Reason.{Reason}
use Rattle.altq_model.specs.declared.Verdict.{Verdict}
use Rattle.altq_model.specs.declared.Verdict.TheVariants.{Keep, Mark, Drop}
use Rattle.altq_model.specs.History.{Arrival, Event, Offered, Sent, Sending, LabelledEvent, unlabelled, offered, Decision, dropped_by, decided, journal}
use Rattle.altq_model.specs.Idle.{dropped, sent, IsLeft, FollowsAtOnce, AllAtOnce}
use Rattle.altq_model.specs.Laws.{occurs, AllBelow, sent_in, FollowsInOrder, IsOrdered, at_of, StartsAfter, IsNotBefore, StartsBefore, IsPrompt}
use Rattle.altq_model.specs.Lawful.{AreHeld, AreRising, IsLawful, NeverWaits, latest}
use Rattle.altq_model.specs.Link.{Link, link, after_sending, end_of, HasLinkEnds}
use Rattle.altq_model.specs.Play.{AreDue, IsPlay, Policy}
use Rattle.play_laws.specs.Events.{IsOffer, IsSending, SendsArrival, IsOfArrival, AreOfArrivals}
use Rattle.play_laws.proofs.AllLaws.{due_laws, play_laws}
use Rattle.play_laws.proofs.DueLemmas.{offer_event}
use Rattle.play_laws.proofs.IdleLemmas.{never_idles}
use Rattle.play_laws.proofs.LinkLemmas.{end_later}
use Rattle.play_laws.proofs.TimeLemmas.{on_time}
use Rattle.journal_laws.specs.Journal.{EachAfter, Each, class_of, len_of, numbers_sent, numbers_sent_in, starts, last_end, link_after, NoneAbove, moments, SendsInOrder, DropsInOrder, StartsInOrder, DropsAtArrival, SendsAfterDrops, StartsAfterArrival, StartsAfterEnd, EndsAsLink, IsUnsent, IsFirstMoment, StartsAtOnce, IsBusy, AreDecisions, IsJournal}

-- the decisions of a history, the newest first
abbrev recent : List LabelledEvent → List Decision
recent [] = []
recent (e ∷ g) = decided e.label e.what ++ recent g

-- what stands before the decisions that follow these
abbrev onto : List Decision → List Decision → List Decision
onto [] before = before
onto (d ∷ js) before = onto js (d ∷ before)

each_append : (P : List Decision → Decision → Type 0) (before xs ys : List Decision) → EachAfter P before xs → EachAfter P (onto xs before) ys
    → EachAfter P before (xs ++ ys)
each_append P before [] ys x y = y
each_append P before (d ∷ xs) ys x y = (x.0, each_append P (d ∷ before) xs ys x.1 y)

onto_append : (xs ys before : List Decision) → onto (xs ++ ys) before ≡ onto ys (onto xs before)
onto_append [] ys before = refl
onto_append (d ∷ xs) ys before = onto_append xs ys (d ∷ before)

onto_dropped : (v : Verdict) (n : ℕ) (before : List Decision) → onto (dropped_by v n) before ≡ dropped_by v n ++ before
onto_dropped Keep n before = refl
onto_dropped Mark n before = refl
onto_dropped (Drop r) n before = refl

onto_decided : (n : ℕ) (e : Event) (before : List Decision) → onto (decided n e) before ≡ decided n e ++ before
onto_decided n (Offered a w v) before = onto_dropped v.verdict n before
onto_decided n (Sent s) before = refl

onto_journal : (g : List LabelledEvent) → onto (journal g) [] ≡ recent g
onto_journal [] = refl
onto_journal (e ∷ g) =
    onto_append (journal g) (decided e.label e.what) [] ∙ onto_decided e.label e.what (onto (journal g) [])
    ∙ ap (λ (js : List Decision). decided e.label e.what ++ js) (onto_journal g)

-- each event decides so after the history before it
abbrev EachDecides : (List Decision → Decision → Type 0) → List LabelledEvent → Type 0
EachDecides P [] = Unit {0}
EachDecides P (e ∷ g) = EachAfter P (recent g) (decided e.label e.what) × EachDecides P g

each_journal : (P : List Decision → Decision → Type 0) (g : List LabelledEvent) → EachDecides P g → Each P (journal g)
each_journal P [] x = tt
each_journal P (e ∷ g) x =
    let Q : List Decision → Type 0 = λ b. EachAfter P b (decided e.label e.what) in
    each_append P [] (journal g) (decided e.label e.what) (each_journal P g x.1) (subst Q (sym (onto_journal g)) x.0)

-- an offer decides so where a drop of its packet is so
of_sendings : (P : List Decision → Decision → Type 0) (before : List Decision) (n : ℕ) (v : Verdict)
    → ((r : Reason) → P before (n, fate.Dropped r)) → EachAfter P before (dropped_by v n)
of_sendings P before n Keep x = tt
of_sendings P before n Mark x = tt
of_sendings P before n (Drop r) x = (x r, tt)

-- the numbers of offers count up, and no sending starts before what was offered has arrived
abbrev IsTimely : (n : ℕ) → Event → List LabelledEvent → Type 0
IsTimely n (Offered a w v) g = n ≡ offered (unlabelled g) + 1
IsTimely n (Sent s) g = latest (unlabelled g) ≤ s.start

abbrev AreTimely : List LabelledEvent → Type 0
AreTimely [] = Unit {0}
AreTimely (e ∷ g) = IsTimely e.label e.what g × AreTimely g

timely_step : (p : Policy) (rate seed : ℕ) (arrived : List Arrival) (g : List LabelledEvent) (e : LabelledEvent) → 0 < rate → IsLawful p → AreRising arrived → AreDue p rate seed arrived g
    → IsOffer p rate seed arrived g e ⊎ IsSending p rate arrived g e → IsTimely e.label e.what g
timely_step p rate seed arrived g e pos law rise d (inl y) =
    let P : Event → Type 0 = λ z. IsTimely e.label z g in subst P (sym (offer_event p rate seed arrived g e y)) y.place
timely_step p rate seed arrived g e pos law rise d (inr y) =
    let P : Event → Type 0 = λ z. IsTimely e.label z g in
    subst P (sym y.event) ((on_time p rate seed arrived g pos law rise d).starts y.sending.class y.sending.start y.may.held y.may.start)

are_timely : (p : Policy) (rate seed : ℕ) (arrived : List Arrival) (g : List LabelledEvent) → 0 < rate → IsLawful p → AreRising arrived → AreDue p rate seed arrived g → AreTimely g
are_timely p rate seed arrived [] pos law rise d = tt
are_timely p rate seed arrived (e ∷ g) pos law rise d =
    let f = (due_laws p rate seed arrived (e ∷ g) pos law rise d).each in
    (timely_step p rate seed arrived g e pos law rise d.1 f.0, are_timely p rate seed arrived g pos law rise d.1)

-- what an arrival of a number is
class_is : (arrived : List Arrival) (n : ℕ) (a : Arrival) → slice_get arrived (n - 1) ≡ Some a → class_of arrived n ≡ a.class
class_is arrived n a e = ap (λ (o : Option Arrival). option_map_or (λ (x : Arrival). x.class) o 0) e

len_is : (arrived : List Arrival) (n : ℕ) (a : Arrival) → slice_get arrived (n - 1) ≡ Some a → len_of arrived n ≡ a.len
len_is arrived n a e = ap (λ (o : Option Arrival). option_map_or (λ (x : Arrival). x.len) o 0) e

at_is : (arrived : List Arrival) (n : ℕ) (a : Arrival) → slice_get arrived (n - 1) ≡ Some a → at_of arrived n ≡ a.at
at_is arrived n a e = ap (λ (o : Option Arrival). option_map_or (λ (x : Arrival). x.at) o 0) e

-- the numbers that a class sent
skip_drop : (b : Bool) (ns : List ℕ) → cond b ns ns ≡ ns
skip_drop true ns = refl
skip_drop false ns = refl

in_dropped : (arrived : List Arrival) (c n : ℕ) (v : Verdict) (js : List Decision) → numbers_sent_in arrived c (dropped_by v n ++ js) ≡ numbers_sent_in arrived c js
in_dropped arrived c n Keep js = refl
in_dropped arrived c n Mark js = refl
in_dropped arrived c n (Drop r) js = skip_drop (class_of arrived n == c) (numbers_sent_in arrived c js)

in_event : (arrived : List Arrival) (c n : ℕ) (e : Event) (g : List LabelledEvent) → IsOfArrival arrived n e → numbers_sent_in arrived c (recent g) ≡ sent_in c g
    → (let h : LabelledEvent = record { label = n; what = e } in numbers_sent_in arrived c (decided n e ++ recent g) ≡ sent_in c (h ∷ g))
in_event arrived c n (Offered a w v) g o x = in_dropped arrived c n v.verdict (recent g) ∙ x
in_event arrived c n (Sent s) g o x =
    let k : class_of arrived n ≡ s.class = class_is arrived n o.packet o.arrival ∙ sym o.class in
    ap (λ (m : ℕ). cond (m == c) (n ∷ numbers_sent_in arrived c (recent g)) (numbers_sent_in arrived c (recent g))) k
    ∙ ap (λ (ns : List ℕ). cond (s.class == c) (n ∷ ns) ns) x

sent_in_class : (arrived : List Arrival) (c : ℕ) (g : List LabelledEvent) → AreOfArrivals arrived g → numbers_sent_in arrived c (recent g) ≡ sent_in c g
sent_in_class arrived c [] o = refl
sent_in_class arrived c (e ∷ g) o = in_event arrived c e.label e.what g o.0 (sent_in_class arrived c g o.1)

order_step : (arrived : List Arrival) (n : ℕ) (e : Event) (g : List LabelledEvent) → IsOfArrival arrived n e → AreOfArrivals arrived g → FollowsInOrder n e g
    → EachAfter (SendsInOrder arrived) (recent g) (decided n e)
order_step arrived n (Offered a w v) g o os x = of_sendings (SendsInOrder arrived) (recent g) n v.verdict (λ r. tt)
order_step arrived n (Sent s) g o os x =
    let k : class_of arrived n ≡ s.class = class_is arrived n o.packet o.arrival ∙ sym o.class in
    let P : List ℕ → Type 0 = λ ns. AllBelow n ns in
    (subst P (sym (ap (λ (c : ℕ). numbers_sent_in arrived c (recent g)) k ∙ sent_in_class arrived s.class g os)) x, tt)

sends_in_order : (arrived : List Arrival) (g : List LabelledEvent) → AreOfArrivals arrived g → IsOrdered g → EachDecides (SendsInOrder arrived) g
sends_in_order arrived [] o x = tt
sends_in_order arrived (e ∷ g) o x = (order_step arrived e.label e.what g o.0 o.1 x.0, sends_in_order arrived g o.1 x.1)

-- the drops
below_more : (m n : ℕ) (ns : List ℕ) → m ≤ n → AllBelow m ns → AllBelow n ns
below_more m n [] l x = tt
below_more m n (k ∷ ns) l x = (omega (arith, x.0), below_more m n ns l x.1)

below_dropped : (m n : ℕ) (v : Verdict) (js : List Decision) → n < m → AllBelow m (dropped js) → AllBelow m (dropped (dropped_by v n ++ js))
below_dropped m n Keep js l x = x
below_dropped m n Mark js l x = x
below_dropped m n (Drop r) js l x = (l, x)

below_event : (n : ℕ) (e : Event) (g : List LabelledEvent) → IsTimely n e g → AllBelow (offered (unlabelled g) + 1) (dropped (recent g))
    → AllBelow (offered (e ∷ unlabelled g) + 1) (dropped (decided n e ++ recent g))
below_event n (Offered a w v) g t x =
    below_dropped (offered (unlabelled g) + 1 + 1) n v.verdict (recent g) (omega (arith, t)) (below_more (offered (unlabelled g) + 1) (offered (unlabelled g) + 1 + 1) (dropped (recent g)) (omega arith) x)
below_event n (Sent s) g t x = x

drops_below : (g : List LabelledEvent) → AreTimely g → AllBelow (offered (unlabelled g) + 1) (dropped (recent g))
drops_below [] t = tt
drops_below (e ∷ g) t = below_event e.label e.what g t.0 (drops_below g t.1)

drops_step : (n : ℕ) (e : Event) (g : List LabelledEvent) → IsTimely n e g → AreTimely g → EachAfter DropsInOrder (recent g) (decided n e)
drops_step n (Offered a w v) g t ts =
    let P : ℕ → Type 0 = λ m. AllBelow m (dropped (recent g)) in
    of_sendings DropsInOrder (recent g) n v.verdict (λ r. subst P (sym t) (drops_below g ts))
drops_step n (Sent s) g t ts = (tt, tt)

drops_in_order : (g : List LabelledEvent) → AreTimely g → EachDecides DropsInOrder g
drops_in_order [] t = tt
drops_in_order (e ∷ g) t = (drops_step e.label e.what g t.0 t.1, drops_in_order g t.1)

-- the starts of a history before a moment
starts_dropped : (n : ℕ) (v : Verdict) (js : List Decision) → starts (dropped_by v n ++ js) ≡ starts js
starts_dropped n Keep js = refl
starts_dropped n Mark js = refl
starts_dropped n (Drop r) js = refl

starts_event : (t n : ℕ) (e : Event) (g : List LabelledEvent) → (StartsBefore t (unlabelled g) → AllBelow t (starts (recent g))) → StartsBefore t (e ∷ unlabelled g)
    → AllBelow t (starts (decided n e ++ recent g))
starts_event t n (Offered a w v) g f x = let P : List ℕ → Type 0 = λ ns. AllBelow t ns in subst P (sym (starts_dropped n v.verdict (recent g))) (f x)
starts_event t n (Sent s) g f x = (x.0, f x.1)

starts_before : (t : ℕ) (g : List LabelledEvent) → StartsBefore t (unlabelled g) → AllBelow t (starts (recent g))
starts_before t [] x = tt
starts_before t (e ∷ g) x = starts_event t e.label e.what g (starts_before t g) x

arrival_step : (arrived : List Arrival) (n : ℕ) (e : Event) (g : List LabelledEvent) → IsOfArrival arrived n e → IsPrompt (e ∷ unlabelled g)
    → EachAfter (DropsAtArrival arrived) (recent g) (decided n e)
arrival_step arrived n (Offered a w v) g o x =
    let P : ℕ → Type 0 = λ m. AllBelow m (starts (recent g)) in
    of_sendings (DropsAtArrival arrived) (recent g) n v.verdict (λ r. subst P (sym (at_is arrived n a o.1)) (starts_before a.at g x.0))
arrival_step arrived n (Sent s) g o x = (tt, tt)

prompt_before : (e : Event) (h : List Event) → IsPrompt (e ∷ h) → IsPrompt h
prompt_before (Offered a w v) h x = x.1
prompt_before (Sent s) h x = x

drops_at_arrival : (arrived : List Arrival) (g : List LabelledEvent) → AreOfArrivals arrived g → IsPrompt (unlabelled g) → EachDecides (DropsAtArrival arrived) g
drops_at_arrival arrived [] o x = tt
drops_at_arrival arrived (e ∷ g) o x =
    (arrival_step arrived e.label e.what g o.0 x, drops_at_arrival arrived g o.1 (prompt_before e.what (unlabelled g) x))

-- what was dropped had arrived
none_more : (m n : ℕ) (ns : List ℕ) → m ≤ n → NoneAbove m ns → NoneAbove n ns
none_more m n [] l x = tt
none_more m n (k ∷ ns) l x = (omega (arith, x.0), none_more m n ns l x.1)

none_dropped : (arrived : List Arrival) (t n : ℕ) (v : Verdict) (js : List Decision) → at_of arrived n ≤ t → NoneAbove t (moments arrived (dropped js))
    → NoneAbove t (moments arrived (dropped (dropped_by v n ++ js)))
none_dropped arrived t n Keep js l x = x
none_dropped arrived t n Mark js l x = x
none_dropped arrived t n (Drop r) js l x = (l, x)

came_event : (arrived : List Arrival) (n : ℕ) (e : Event) (g : List LabelledEvent) → IsOfArrival arrived n e → NoneAbove (latest (unlabelled g)) (moments arrived (dropped (recent g)))
    → NoneAbove (latest (e ∷ unlabelled g)) (moments arrived (dropped (decided n e ++ recent g)))
came_event arrived n (Offered a w v) g o x =
    none_dropped arrived (max a.at (latest (unlabelled g))) n v.verdict (recent g) (omega (arith, at_is arrived n a o.1))
    (none_more (latest (unlabelled g)) (max a.at (latest (unlabelled g))) (moments arrived (dropped (recent g))) (omega arith) x)
came_event arrived n (Sent s) g o x = x

drops_came : (arrived : List Arrival) (g : List LabelledEvent) → AreOfArrivals arrived g → NoneAbove (latest (unlabelled g)) (moments arrived (dropped (recent g)))
drops_came arrived [] o = tt
drops_came arrived (e ∷ g) o = came_event arrived e.label e.what g o.0 (drops_came arrived g o.1)

after_step : (arrived : List Arrival) (n : ℕ) (e : Event) (g : List LabelledEvent) → AreOfArrivals arrived g → IsTimely n e g
    → EachAfter (SendsAfterDrops arrived) (recent g) (decided n e)
after_step arrived n (Offered a w v) g o t = of_sendings (SendsAfterDrops arrived) (recent g) n v.verdict (λ r. tt)
after_step arrived n (Sent s) g o t = (none_more (latest (unlabelled g)) s.start (moments arrived (dropped (recent g))) t (drops_came arrived g o), tt)

sends_after_drops : (arrived : List Arrival) (g : List LabelledEvent) → AreOfArrivals arrived g → AreTimely g → EachDecides (SendsAfterDrops arrived) g
sends_after_drops arrived [] o t = tt
sends_after_drops arrived (e ∷ g) o t = (after_step arrived e.label e.what g o.1 t.0, sends_after_drops arrived g o.1 t.1)

-- no start is above the last end
free_event : (rate n : ℕ) (e : Event) (g : List LabelledEvent) → 0 < rate → HasLinkEnds rate (e ∷ unlabelled g) → NoneAbove (link rate (unlabelled g)).free (starts (recent g))
    → NoneAbove (link rate (e ∷ unlabelled g)).free (starts (decided n e ++ recent g))
free_event rate n (Offered a w v) g pos h x =
    let P : List ℕ → Type 0 = λ ns. NoneAbove (link rate (unlabelled g)).free ns in subst P (sym (starts_dropped n v.verdict (recent g))) x
free_event rate n (Sent s) g pos h x =
    let l = end_later rate (unlabelled g) s.start s.len pos in
    (l, none_more (link rate (unlabelled g)).free (end_of rate (link rate (unlabelled g)) s.start s.len) (starts (recent g)) (omega (arith, l, h.0)) x)

ends_before : (rate : ℕ) (e : Event) (h : List Event) → HasLinkEnds rate (e ∷ h) → HasLinkEnds rate h
ends_before rate (Offered a w v) h x = x
ends_before rate (Sent s) h x = x.2

starts_free : (rate : ℕ) (g : List LabelledEvent) → 0 < rate → HasLinkEnds rate (unlabelled g) → NoneAbove (link rate (unlabelled g)).free (starts (recent g))
starts_free rate [] pos h = tt
starts_free rate (e ∷ g) pos h = free_event rate e.label e.what g pos h (starts_free rate g pos (ends_before rate e.what (unlabelled g) h))

rise_step : (rate n : ℕ) (e : Event) (g : List LabelledEvent) → 0 < rate → HasLinkEnds rate (e ∷ unlabelled g) → EachAfter StartsInOrder (recent g) (decided n e)
rise_step rate n (Offered a w v) g pos h = of_sendings StartsInOrder (recent g) n v.verdict (λ r. tt)
rise_step rate n (Sent s) g pos h = (none_more (link rate (unlabelled g)).free s.start (starts (recent g)) h.0 (starts_free rate g pos h.2), tt)

starts_in_order : (rate : ℕ) (g : List LabelledEvent) → 0 < rate → HasLinkEnds rate (unlabelled g) → EachDecides StartsInOrder g
starts_in_order rate [] pos h = tt
starts_in_order rate (e ∷ g) pos h =
    (rise_step rate e.label e.what g pos h, starts_in_order rate g pos (ends_before rate e.what (unlabelled g) h))

-- no start before the arrival
not_before_step : (arrived : List Arrival) (n : ℕ) (e : Event) (g : List LabelledEvent) → StartsAfter arrived n e → EachAfter (StartsAfterArrival arrived) (recent g) (decided n e)
not_before_step arrived n (Offered a w v) g x = of_sendings (StartsAfterArrival arrived) (recent g) n v.verdict (λ r. tt)
not_before_step arrived n (Sent s) g x = (x, tt)

after_arrival : (arrived : List Arrival) (g : List LabelledEvent) → IsNotBefore arrived g → EachDecides (StartsAfterArrival arrived) g
after_arrival arrived [] x = tt
after_arrival arrived (e ∷ g) x = (not_before_step arrived e.label e.what g x.0, after_arrival arrived g x.1)

-- the link, and its last end
link_dropped : (rate : ℕ) (arrived : List Arrival) (n : ℕ) (v : Verdict) (js : List Decision) → link_after rate arrived (dropped_by v n ++ js) ≡ link_after rate arrived js
link_dropped rate arrived n Keep js = refl
link_dropped rate arrived n Mark js = refl
link_dropped rate arrived n (Drop r) js = refl

sent_len : (arrived : List Arrival) (n : ℕ) (s : Sending) → SendsArrival arrived n s → len_of arrived n ≡ s.len
sent_len arrived n s o = len_is arrived n o.packet o.arrival ∙ sym o.len

link_event : (rate : ℕ) (arrived : List Arrival) (n : ℕ) (e : Event) (g : List LabelledEvent) → IsOfArrival arrived n e → link_after rate arrived (recent g) ≡ link rate (unlabelled g)
    → link_after rate arrived (decided n e ++ recent g) ≡ link rate (e ∷ unlabelled g)
link_event rate arrived n (Offered a w v) g o x = link_dropped rate arrived n v.verdict (recent g) ∙ x
link_event rate arrived n (Sent s) g o x =
    ap (λ (l : Link). after_sending rate l s.start (len_of arrived n)) x ∙ ap (after_sending rate (link rate (unlabelled g)) s.start) (sent_len arrived n s o)

link_is : (rate : ℕ) (arrived : List Arrival) (g : List LabelledEvent) → AreOfArrivals arrived g → link_after rate arrived (recent g) ≡ link rate (unlabelled g)
link_is rate arrived [] o = refl
link_is rate arrived (e ∷ g) o = link_event rate arrived e.label e.what g o.0 (link_is rate arrived g o.1)

ends_step : (rate : ℕ) (arrived : List Arrival) (n : ℕ) (e : Event) (g : List LabelledEvent) → IsOfArrival arrived n e → AreOfArrivals arrived g → HasLinkEnds rate (e ∷ unlabelled g)
    → EachAfter (EndsAsLink rate arrived) (recent g) (decided n e)
ends_step rate arrived n (Offered a w v) g o os h = of_sendings (EndsAsLink rate arrived) (recent g) n v.verdict (λ r. tt)
ends_step rate arrived n (Sent s) g o os h = (
  h.1 ∙ ap (λ (l : Link). end_of rate l s.start s.len) (sym (link_is rate arrived g os))
      ∙ ap (end_of rate (link_after rate arrived (recent g)) s.start) (sym (sent_len arrived n s o)),
  tt,
)

ends : (rate : ℕ) (arrived : List Arrival) (g : List LabelledEvent) → AreOfArrivals arrived g → HasLinkEnds rate (unlabelled g) → EachDecides (EndsAsLink rate arrived) g
ends rate arrived [] o h = tt
ends rate arrived (e ∷ g) o h = (ends_step rate arrived e.label e.what g o.0 o.1 h, ends rate arrived g o.1 (ends_before rate e.what (unlabelled g) h))

last_dropped : (n : ℕ) (v : Verdict) (js : List Decision) → last_end (dropped_by v n ++ js) ≡ last_end js
last_dropped n Keep js = refl
last_dropped n Mark js = refl
last_dropped n (Drop r) js = refl

last_event : (rate n : ℕ) (e : Event) (g : List LabelledEvent) → HasLinkEnds rate (e ∷ unlabelled g) → last_end (recent g) ≡ (link rate (unlabelled g)).free
    → last_end (decided n e ++ recent g) ≡ (link rate (e ∷ unlabelled g)).free
last_event rate n (Offered a w v) g h x = last_dropped n v.verdict (recent g) ∙ x
last_event rate n (Sent s) g h x = h.1

last_is : (rate : ℕ) (g : List LabelledEvent) → HasLinkEnds rate (unlabelled g) → last_end (recent g) ≡ (link rate (unlabelled g)).free
last_is rate [] h = refl
last_is rate (e ∷ g) h = last_event rate e.label e.what g h (last_is rate g (ends_before rate e.what (unlabelled g) h))

free_step : (rate n : ℕ) (e : Event) (g : List LabelledEvent) → HasLinkEnds rate (e ∷ unlabelled g) → EachAfter StartsAfterEnd (recent g) (decided n e)
free_step rate n (Offered a w v) g h = of_sendings StartsAfterEnd (recent g) n v.verdict (λ r. tt)
free_step rate n (Sent s) g h = (omega (arith, h.0, last_is rate g h.2), tt)

after_end : (rate : ℕ) (g : List LabelledEvent) → HasLinkEnds rate (unlabelled g) → EachDecides StartsAfterEnd g
after_end rate [] h = tt
after_end rate (e ∷ g) h = (free_step rate e.label e.what g h, after_end rate g (ends_before rate e.what (unlabelled g) h))

-- the numbers that were sent
sent_dropped : (n : ℕ) (v : Verdict) (js : List Decision) → numbers_sent (dropped_by v n ++ js) ≡ numbers_sent js
sent_dropped n Keep js = refl
sent_dropped n Mark js = refl
sent_dropped n (Drop r) js = refl

sent_event : (n : ℕ) (e : Event) (g : List LabelledEvent) → numbers_sent (recent g) ≡ sent g
    → (let h : LabelledEvent = record { label = n; what = e } in numbers_sent (decided n e ++ recent g) ≡ sent (h ∷ g))
sent_event n (Offered a w v) g x = sent_dropped n v.verdict (recent g) ∙ x
sent_event n (Sent s) g x = ap (λ (ns : List ℕ). n ∷ ns) x

sent_is : (g : List LabelledEvent) → numbers_sent (recent g) ≡ sent g
sent_is [] = refl
sent_is (e ∷ g) = sent_event e.label e.what g (sent_is g)

to_left : (arrived : List Arrival) (js : List Decision) (g : List LabelledEvent) (n : ℕ) → IsUnsent arrived js (recent g) n → IsLeft arrived js g n
to_left arrived js g n x = record {
  from_one = x.from_one;
  there = x.there;
  kept = x.kept;
  unsent = ap (occurs n) (sym (sent_is g)) ∙ x.unsent;
}

from_left : (arrived : List Arrival) (js : List Decision) (g : List LabelledEvent) (n : ℕ) → IsLeft arrived js g n → IsUnsent arrived js (recent g) n
from_left arrived js g n x = record {
  from_one = x.from_one;
  there = x.there;
  kept = x.kept;
  unsent = ap (occurs n) (sent_is g) ∙ x.unsent;
}

busy_step : (rate : ℕ) (arrived : List Arrival) (js : List Decision) (n : ℕ) (e : Event) (g : List LabelledEvent) → HasLinkEnds rate (unlabelled g) → FollowsAtOnce rate arrived js e g
    → EachAfter (StartsAtOnce arrived js) (recent g) (decided n e)
busy_step rate arrived js n (Offered a w v) g h x = of_sendings (StartsAtOnce arrived js) (recent g) n v.verdict (λ r. tt)
busy_step rate arrived js n (Sent s) g h x =
    let y : IsFirstMoment arrived js (recent g) s.start = record {
      first = x.first;
      left = from_left arrived js g x.first x.left;
      least = λ m u. x.least m (to_left arrived js g m u);
      is = x.start ∙ ap (λ (t : ℕ). max t (at_of arrived x.first)) (sym (last_is rate g h));
    } in
    (y, tt)

busy : (rate : ℕ) (arrived : List Arrival) (js : List Decision) (g : List LabelledEvent) → HasLinkEnds rate (unlabelled g) → AllAtOnce rate arrived js g
    → EachDecides (StartsAtOnce arrived js) g
busy rate arrived js [] h x = tt
busy rate arrived js (e ∷ g) h x =
    let k = ends_before rate e.what (unlabelled g) h in
    (busy_step rate arrived js e.label e.what g k x.0, busy rate arrived js g k x.1)

pub are_decisions : (p : Policy) (rate seed : ℕ) (arrived : List Arrival) (g : List LabelledEvent) → 0 < rate → IsLawful p → AreRising arrived
    → AreDue p rate seed arrived g → AreDecisions rate arrived (journal g)
are_decisions p rate seed arrived g pos law rise d =
    let x = due_laws p rate seed arrived g pos law rise d in
    let t = are_timely p rate seed arrived g pos law rise d in
    record {
      sends_in_order = each_journal (SendsInOrder arrived) g (sends_in_order arrived g x.of_arrivals x.ordered);
      drops_in_order = each_journal DropsInOrder g (drops_in_order g t);
      starts_in_order = each_journal StartsInOrder g (starts_in_order rate g pos x.ends);
      drops_at_arrival = each_journal (DropsAtArrival arrived) g (drops_at_arrival arrived g x.of_arrivals x.prompt);
      sends_after_drops = each_journal (SendsAfterDrops arrived) g (sends_after_drops arrived g x.of_arrivals t);
      after_arrival = each_journal (StartsAfterArrival arrived) g (after_arrival arrived g x.not_before);
      after_end = each_journal StartsAfterEnd g (after_end rate g x.ends);
      ends = each_journal (EndsAsLink rate arrived) g (ends rate arrived g x.of_arrivals x.ends);
    }

pub is_journal : (p : Policy) (rate seed : ℕ) (arrived : List Arrival) (g : List LabelledEvent) → 0 < rate → IsLawful p → AreRising arrived → AreHeld p arrived
    → IsPlay p rate seed arrived g → IsJournal rate arrived (journal g)
is_journal p rate seed arrived g pos law rise can x = record {
  conserved = (play_laws p rate seed arrived g pos law rise can x).conserved;
  decisions = are_decisions p rate seed arrived g pos law rise x.events;
}

pub is_busy : (p : Policy) (rate seed : ℕ) (arrived : List Arrival) (g : List LabelledEvent) → 0 < rate → IsLawful p → NeverWaits p → AreRising arrived → AreHeld p arrived
    → AreDue p rate seed arrived g → IsBusy arrived (journal g)
is_busy p rate seed arrived g pos law nw rise can d =
    each_journal (StartsAtOnce arrived (journal g)) g
    (busy rate arrived (journal g) g (due_laws p rate seed arrived g pos law rise d).ends (never_idles p rate seed arrived g pos law nw rise can d))
