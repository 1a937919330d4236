-- The play is one, and it exists.
use Rattle.std.proofs.Common.{◌≡◌, ◌≤◌, ◌<◌, ◌+◌, ◌-◌, ◌*◌, ◌∙◌, ◌⊎◌, inl, inr, ℕ, zero, suc, Bool, true, false, cond, List, [], ◌∷◌, ◌++◌, length, length-append, None, Some, drop, refl, ap, sym, subst, arith}
use Rattle.std.specs.Prelude.{slice_get}
use Rattle.std.specs.declared.option.Option.{Option}
use Rattle.std.proofs.lemmas.Option.{slice_get_past, slice_get_within}
use Rattle.altq_model.specs.declared.Verdict.{Verdict}
use Rattle.altq_model.specs.History.{Arrival, DrawnWords, Event, Offered, Sent, LabelledEvent, unlabelled, offered, drawn, waiting, is_kept}
use Rattle.altq_model.specs.Link.{link}
use Rattle.altq_model.specs.Play.{Policy, class_start, first_start, lesser, due, due_from, AreDue, IsPlay, play_on, play}
use Rattle.altq_model.specs.Lawful.{IsLawful, AreRising}
use Rattle.play_laws.specs.Events.{IsOffer, IsSending, EachFollows}
use Rattle.play_laws.proofs.DueLemmas.{first_after, next_after}
use Rattle.play_laws.proofs.TimeLemmas.{on_time, follows, each_follows}
use Rattle.play_laws.proofs.CountLemmas.{Place, places, with_place, of_class_labels}
use Rattle.play_laws.proofs.EndLemmas.{nothing_waits}
use Rattle.play_laws.proofs.FewLemmas.{one_less}

cons_same : (e f : LabelledEvent) (g k : List LabelledEvent) → e ≡ f → g ≡ k → e ∷ g ≡ f ∷ k
cons_same e f g k p q = cc

-- as many events are the same events
same_events : (p : Policy) (rate seed : ℕ) (arrived : List Arrival) (g k : List LabelledEvent) → AreDue p rate seed arrived g → AreDue p rate seed arrived k
    → length g ≡ length k → g ≡ k
same_events p rate seed arrived [] [] d f l = refl
same_events p rate seed arrived [] (x ∷ k) d f l = absurd (omega arith)
same_events p rate seed arrived (e ∷ g) [] d f l = absurd (omega arith)
same_events p rate seed arrived (e ∷ g) (x ∷ k) d f l =
    let same = same_events p rate seed arrived g k d.1 f.1 (omega arith) in
    let one : Some e ≡ Some x = sym d.0 ∙ ap (due p rate seed arrived) same ∙ f.0 in
    cons_same e x g k (cc) same

due_drop : (p : Policy) (rate seed : ℕ) (arrived : List Arrival) (g : List LabelledEvent) (n : ℕ) → AreDue p rate seed arrived g → AreDue p rate seed arrived (drop n g)
due_drop p rate seed arrived g zero d = d
due_drop p rate seed arrived [] (suc n) d = tt
due_drop p rate seed arrived (e ∷ g) (suc n) d = due_drop p rate seed arrived g n d.1

drop_length : (g : List LabelledEvent) (n : ℕ) → length (drop n g) ≡ length g - n
drop_length g zero = omega arith
drop_length [] (suc n) = omega arith
drop_length (e ∷ g) (suc n) = omega (arith, drop_length g n)

-- the fewer events are the older of the more
pub one_play : (p : Policy) (rate seed : ℕ) (arrived : List Arrival) (g k : List LabelledEvent) → AreDue p rate seed arrived g → AreDue p rate seed arrived k
    → length g ≤ length k → drop (length k - length g) k ≡ g
one_play p rate seed arrived g k d f l =
    let n : ℕ = length k - length g in
    same_events p rate seed arrived (drop n k) g (due_drop p rate seed arrived k n f) d (omega (arith, drop_length k n))

-- after the older of more events another was due
went_on : (p : Policy) (rate seed : ℕ) (arrived : List Arrival) (g : List LabelledEvent) (n : ℕ) → AreDue p rate seed arrived g → n < length g
    → (e : LabelledEvent) × (due p rate seed arrived (drop (suc n) g) ≡ Some e)
went_on p rate seed arrived [] n d l = absurd (omega arith)
went_on p rate seed arrived (e ∷ g) zero d l = (e, d.0)
went_on p rate seed arrived (e ∷ g) (suc n) d l = went_on p rate seed arrived g n d.1 (omega arith)

suc_pred : (n : ℕ) → 0 < n → suc (n - 1) ≡ n
suc_pred n l = omega arith

ended : (p : Policy) (rate seed : ℕ) (arrived : List Arrival) (g k : List LabelledEvent) → AreDue p rate seed arrived g → due p rate seed arrived g ≡ None
    → AreDue p rate seed arrived k → length g < length k → ⊥
ended p rate seed arrived g k d n f l =
    let m : ℕ = length k - length g in
    let x = went_on p rate seed arrived k (m - 1) f (omega arith) in
    let same : drop (suc (m - 1)) k ≡ g = ap (λ (i : ℕ). drop i k) (suc_pred m (omega arith)) ∙ one_play p rate seed arrived g k d f (omega arith) in
    let o : due p rate seed arrived g ≡ Some x.0 = ap (due p rate seed arrived) (sym same) ∙ x.1 in
    let no : None ≡ Some x.0 = sym n ∙ o in
    (cc)

three : (n m : ℕ) → (n < m) ⊎ ((n ≡ m) ⊎ (m < n))
three n m = grind arith

one_whole_case : (p : Policy) (rate seed : ℕ) (arrived : List Arrival) (g k : List LabelledEvent) → IsPlay p rate seed arrived g → IsPlay p rate seed arrived k
    → (length g < length k) ⊎ ((length g ≡ length k) ⊎ (length k < length g)) → g ≡ k
one_whole_case p rate seed arrived g k x y (inl l) = absurd (ended p rate seed arrived g k x.events x.done y.events l)
one_whole_case p rate seed arrived g k x y (inr (inl l)) = same_events p rate seed arrived g k x.events y.events l
one_whole_case p rate seed arrived g k x y (inr (inr l)) = absurd (ended p rate seed arrived k g y.events y.done x.events l)

pub one_whole : (p : Policy) (rate seed : ℕ) (arrived : List Arrival) (g k : List LabelledEvent) → IsPlay p rate seed arrived g → IsPlay p rate seed arrived k → g ≡ k
one_whole p rate seed arrived g k x y = one_whole_case p rate seed arrived g k x y (three (length g) (length k))

-- how many events may follow at most: two for each arrival that was not offered, and one for each packet that waits
abbrev left : List Arrival → List LabelledEvent → ℕ
left arrived g = 2 * (length arrived - offered (unlabelled g)) + length (places g)

length_if : (k : Bool) (x : Place) (xs : List Place) → length (cond k (xs ++ x ∷ []) xs) ≤ length xs + 1
length_if true x xs = omega (arith, length-append xs (x ∷ []))
length_if false x xs = omega arith

kept_length : (v : Verdict) (x : Place) (xs : List Place) → length (with_place v x xs) ≤ length xs + 1
kept_length v x xs = length_if (is_kept v) x xs

fewer : (p : Policy) (rate seed : ℕ) (arrived : List Arrival) (g : List LabelledEvent) (e : LabelledEvent) → IsOffer p rate seed arrived g e ⊎ IsSending p rate arrived g e
    → left arrived (e ∷ g) < left arrived g
fewer p rate seed arrived g e (inl y) =
    let P : LabelledEvent → Type 0 = λ z. left arrived (z ∷ g) < left arrived g in
    let w : DrawnWords = record { seed = seed; drawn = drawn (unlabelled g) } in
    let i = slice_get_within arrived (offered (unlabelled g)) y.packet y.next in
    let l = kept_length (p.answer (unlabelled g) w y.packet).verdict (y.packet.class, offered (unlabelled g) + 1) (places g) in
    subst P (sym y.offer) (omega (arith, i, l))
fewer p rate seed arrived g e (inr y) =
    let P : Event → Type 0 = λ z. let f : LabelledEvent = record { label = e.label; what = z } in left arrived (f ∷ g) < left arrived g in
    let l = one_less y.sending.class e.label (places g) (ap (λ (ns : List ℕ). slice_get ns 0) (of_class_labels y.sending.class g) ∙ y.number) in
    subst P (sym y.event) (omega (arith, l))

empty_starts : (p : Policy) (free : ℕ) (h : List Event) (cs : List ℕ) → ((c : ℕ) → waiting c h ≡ []) → first_start p free h cs ≡ None
empty_starts p free h [] e = refl
empty_starts p free h (c ∷ cs) e =
    let q : class_start p free h c ≡ None = rw (e c) refl in
    let r = empty_starts p free h cs e in
    ap (λ (o : Option ℕ). lesser o (first_start p free h cs)) q ∙ r

no_length : (xs : List Place) → length xs ≤ 0 → xs ≡ []
no_length [] l = refl
no_length (x ∷ xs) l = absurd (omega arith)

nothing_due : (p : Policy) (rate seed : ℕ) (arrived : List Arrival) (g : List LabelledEvent) → EachFollows p rate seed arrived g → left arrived g ≤ 0
    → due p rate seed arrived g ≡ None
nothing_due p rate seed arrived g f l =
    let e = no_length (places g) (omega arith) in
    let s = empty_starts p (link rate (unlabelled g)).free (unlabelled g) p.classes (λ c. nothing_waits p rate seed arrived g c f e) in
    let n = slice_get_past arrived (offered (unlabelled g)) (omega arith) in
    ap (λ (o : Option Arrival). due_from p rate seed g o (first_after p rate g)) n ∙ ap (λ (o : Option ℕ). due_from p rate seed g None o) s

on_case : (turns : ℕ) (p : Policy) (rate seed : ℕ) (arrived : List Arrival) (g : List LabelledEvent) (o : Option LabelledEvent) → AreDue p rate seed arrived g
    → due p rate seed arrived g ≡ o → ((e : LabelledEvent) → due p rate seed arrived g ≡ Some e → IsPlay p rate seed arrived (play_on turns p rate seed arrived (e ∷ g)))
    → IsPlay p rate seed arrived (elim o [ None ↦ g | Some e ↦ play_on turns p rate seed arrived (e ∷ g) ])
on_case turns p rate seed arrived g None d q f = record { events = d; done = q }
on_case turns p rate seed arrived g (Some e) d q f = f e q

plays_on : (turns : ℕ) (p : Policy) (rate seed : ℕ) (arrived : List Arrival) (g : List LabelledEvent) → 0 < rate → IsLawful p → AreRising arrived
    → AreDue p rate seed arrived g → left arrived g ≤ turns → IsPlay p rate seed arrived (play_on turns p rate seed arrived g)
plays_on zero p rate seed arrived g pos law rise d l =
    record { events = d; done = nothing_due p rate seed arrived g (each_follows p rate seed arrived g pos law rise d) l }
plays_on (suc turns) p rate seed arrived g pos law rise d l =
    on_case turns p rate seed arrived g (due p rate seed arrived g) d refl (λ e q.
    let t = follows p rate seed arrived g e law (on_time p rate seed arrived g pos law rise d) q in
    plays_on turns p rate seed arrived (e ∷ g) pos law rise (q, d) (omega (arith, fewer p rate seed arrived g e t)))

pub play_is : (p : Policy) (rate seed : ℕ) (arrived : List Arrival) → 0 < rate → IsLawful p → AreRising arrived
    → IsPlay p rate seed arrived (play p rate seed arrived)
play_is p rate seed arrived pos law rise = plays_on (2 * length arrived) p rate seed arrived [] pos law rise tt (omega arith)

-- the events up to an arrival do not depend on what comes after it
abbrev Agree : (n : ℕ) → List Arrival → List Arrival → Type 0
Agree n xs ys = (k : ℕ) → k ≤ n → slice_get xs k ≡ slice_get ys k

same_due : (p : Policy) (rate seed : ℕ) (xs ys : List Arrival) (g : List LabelledEvent) → next_after xs g ≡ next_after ys g → due p rate seed xs g ≡ due p rate seed ys g
same_due p rate seed xs ys g e = ap (λ (o : Option Arrival). due_from p rate seed g o (first_after p rate g)) e

grows_by : (e : Event) (h : List Event) → offered h ≤ offered (e ∷ h)
grows_by (Offered a w v) h = omega arith
grows_by (Sent s) h = omega arith

grows : (e : LabelledEvent) (g : List LabelledEvent) → offered (unlabelled g) ≤ offered (unlabelled (e ∷ g))
grows e g = grows_by e.what (unlabelled g)

agree_due : (p : Policy) (rate seed : ℕ) (xs ys : List Arrival) (n : ℕ) (e : LabelledEvent) (g : List LabelledEvent) → offered (unlabelled g) ≤ n → Agree n xs ys
    → AreDue p rate seed xs (e ∷ g) → AreDue p rate seed ys (e ∷ g)
agree_due p rate seed xs ys n e [] l a d = (sym (same_due p rate seed xs ys [] (a 0 l)) ∙ d.0, tt)
agree_due p rate seed xs ys n e (x ∷ g) l a d = (
  sym (same_due p rate seed xs ys (x ∷ g) (a (offered (unlabelled (x ∷ g))) l)) ∙ d.0,
  agree_due p rate seed xs ys n x g (omega (arith, l, grows x g)) a d.1,
)

front_agrees : (xs ys : List Arrival) (k : ℕ) → k < length xs → slice_get xs k ≡ slice_get (xs ++ ys) k
front_agrees [] ys k l = absurd (omega arith)
front_agrees (x ∷ xs) ys zero l = refl
front_agrees (x ∷ xs) ys (suc k) l = front_agrees xs ys k (omega arith)

pub later_arrivals : (p : Policy) (rate seed : ℕ) (arrived more : List Arrival) (e : LabelledEvent) (g : List LabelledEvent) → offered (unlabelled g) < length arrived
    → AreDue p rate seed arrived (e ∷ g) → AreDue p rate seed (arrived ++ more) (e ∷ g)
later_arrivals p rate seed arrived more e g l d =
    agree_due p rate seed arrived (arrived ++ more) (offered (unlabelled g)) e g (omega arith) (λ k m. front_agrees arrived more k (omega arith)) d
