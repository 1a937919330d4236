-- The multiples of a gap, and the class that starts at them.
use Rattle.std.proofs.Common.{◌≡◌, ◌≤◌, ◌<◌, ◌+◌, ◌*◌, ◌∙◌, ◌/◌, ◌%◌, inl, inr, ℕ, Bool, true, false, List, [], ◌∷◌, None, Some, length, refl, ap, sym, subst, arith, drop, eqb}
use Rattle.std.specs.declared.option.Option.{Option}
use Rattle.std.specs.Prelude.{slice_get, option_map, nat_le, nat_lt}
use Rattle.std.specs.Int.{div_ceil}
use Rattle.std.proofs.Math.Nat.{mul-le-mul_left}
use Rattle.std.proofs.lemmas.Bool.{cases_eq, eq-eqb, ne_eqb, eqb-true, le-leb, leb-true, lt-ltb, ltb-true}
use Rattle.altq_model.specs.declared.Rule.{Rule}
use Rattle.altq_model.specs.declared.Rule.TheVariants.{Own}
use Rattle.altq_model.specs.History.{Arrival, Event, LabelledEvent, unlabelled, waiting}
use Rattle.altq_model.specs.Play.{Policy, Choice, class_start, lesser}
use Rattle.altq_model.specs.Policies.{Answering}
use Rattle.altq_model.specs.Lawful.{IsLawful, IsSteady, first_at}
use Rattle.play_base.specs.Units.{ceil_div}
use Rattle.play_base.specs.declared.packet.Ticket.{Ticket}
use Rattle.link_clock.specs.Clock.{Clock}
use Rattle.link_clock.proofs.Rounded.{le_ceil, ceil_le}
use Rattle.leaf_queue.proofs.Linking.{once_same, once_other}
use Rattle.leaf_queue.specs.declared.node.Entry.{Entry}
use Rattle.leaf_queue.specs.Queue.{QueueEvent, Saying}
use Rattle.discipline.specs.declared.pick.Pick.{Pick}
use Rattle.discipline.specs.declared.pick.Pick.TheVariants.{Send, Wait}
use Rattle.discipline.specs.declared.pick.Sending.{Sending}
use Rattle.discipline.specs.Laws.{AreDistinct, IsAnswer, IsLeast, Sends, offer_of, seen, seen_of, sent_of}
use Rattle.discipline.specs.Moments.{IsChoice, IsOffer, IsOrderly, WasDue}
use Rattle.class_rows.specs.Rows.{Answers, IsOther, ClassQueuesView, SameRow, RowRepresents, answering, list_in}
use Rattle.class_rows.proofs.FrontLemmas.{front_shown}
use Rattle.class_rows.proofs.RowHistory.{Offering, bare_arrival}
use Rattle.plain_disciplines.specs.Plain.{IsPlain}
use Rattle.plain_disciplines.specs.Paced.{Pacing, Represents, due_at, due_of, multiple_from, paced, paced_due, paced_of}

pub multiple_later : (gap t : ℕ) → 1 ≤ gap → t ≤ multiple_from gap t
multiple_later gap t g = omega (arith, le_ceil t gap g)

pub multiple_same : (gap t u : ℕ) → 1 ≤ gap → t ≤ u → u ≤ multiple_from gap t → multiple_from gap u ≡ multiple_from gap t
multiple_same gap t u g l m =
    let one = ceil_le u gap (ceil_div t gap) g (omega arith) in
    let two = ceil_le t gap (ceil_div u gap) g (omega (arith, le_ceil u gap g)) in
    let same : ceil_div u gap ≡ ceil_div t gap = omega arith in
    ap (λ (n : ℕ). n * gap) same

lesser_none : (o : Option ℕ) → lesser o None ≡ o
lesser_none None = refl
lesser_none (Some n) = refl

pub paced_lawful : (class gap : ℕ) (answer : Answering) → 1 ≤ gap → IsLawful (paced class gap answer)
paced_lawful class gap answer g = record {
  later = λ h c t b k. multiple_later gap t g;
  offers = λ h a w v c t b e. refl;
  picks = λ h free s e arrived. record {
    held = inl refl;
    start = sym (lesser_none (class_start (paced class gap answer) free h class)) ∙ e;
  };
}

pub paced_steady : (class gap : ℕ) (answer : Answering) → 1 ≤ gap → IsSteady (paced class gap answer)
paced_steady class gap answer g h c t u b e l m = multiple_same gap t u g l m

-- one class is there once
one_distinct : (class : ℕ) → AreDistinct (class ∷ [])
one_distinct class c = elim (cases_eq class c) [
  | inl e ↦ omega (arith, once_same class c e)
  | inr n ↦ omega (arith, once_other class c n)
]

abbrev pub choice : ℕ → Rule → Choice
choice class r = record { class = class; rule = r }

pub no_head : (xs : List Entry) → slice_get xs 0 ≡ None → xs ≡ []
no_head [] e = refl
no_head (x ∷ xs) e = absurd (cc)

pub head_is : (xs : List Entry) (x : Entry) → slice_get xs 0 ≡ Some x → xs ≡ x ∷ drop 1 xs
head_is [] x e = absurd (cc)
head_is (y ∷ xs) x e = let same : y ≡ x = cc in ap (λ (z : Entry). z ∷ xs) same

-- the packet that a head shows
shown_head : (xs : List Entry) (ws : List Arrival) (x : Entry) → seen xs ≡ seen_of ws → slice_get xs 0 ≡ Some x → (a : Arrival) × (slice_get ws 0 ≡ Some a)
shown_head [] ws x e h = absurd (cc)
shown_head (y ∷ xs) [] x e h = absurd (cc)
shown_head (y ∷ xs) (a ∷ ws) x e h = (a, refl)

shown_none : (xs : List Entry) (ws : List Arrival) → seen xs ≡ seen_of ws → xs ≡ [] → ws ≡ []
shown_none [] [] e h = refl
shown_none [] (a ∷ ws) e h = absurd (cc)
shown_none (y ∷ xs) ws e h = absurd (cc)

pub first_none : (class gap : ℕ) (answer : Answering) (xs : List Entry) (b : List Event) (now : ℕ) → seen xs ≡ seen_of (waiting class b) → xs ≡ []
    → first_at (paced class gap answer) now b (class ∷ []) ≡ None
first_none class gap answer xs b now f e =
    let none : waiting class b ≡ [] = shown_none xs (waiting class b) f e in
    ap (λ (ws : List Arrival). lesser (option_map (λ (a : Arrival). multiple_from gap now) (slice_get ws 0)) None) none

pub first_some : (class gap : ℕ) (answer : Answering) (xs : List Entry) (x : Entry) (b : List Event) (now : ℕ) → seen xs ≡ seen_of (waiting class b)
    → slice_get xs 0 ≡ Some x → first_at (paced class gap answer) now b (class ∷ []) ≡ Some (multiple_from gap now)
first_some class gap answer xs x b now f e =
    let p = shown_head xs (waiting class b) x f e in
    ap (λ (o : Option Arrival). lesser (option_map (λ (a : Arrival). multiple_from gap now) o) None) p.1

-- what is due where the list has this head
due_of_head : (class gap : ℕ) (xs : List Entry) (x : Entry) (now : ℕ) → slice_get xs 0 ≡ Some x
    → paced_due class gap xs now ≡ due_at (eqb (multiple_from gap now) now) class (multiple_from gap now) x
due_of_head class gap xs x now e = ap (λ (ys : List Entry). paced_due class gap ys now) (head_is xs x e)

pub due_later : (class gap : ℕ) (xs : List Entry) (x : Entry) (now : ℕ) → slice_get xs 0 ≡ Some x → now < multiple_from gap now
    → paced_due class gap xs now ≡ Wait (multiple_from gap now)
due_later class gap xs x now e l =
    due_of_head class gap xs x now e
    ∙ ap (λ (b : Bool). due_at b class (multiple_from gap now) x) (ne_eqb (multiple_from gap now) now (λ q. omega arith))

pub due_now : (class gap : ℕ) (xs : List Entry) (x : Entry) (now : ℕ) → slice_get xs 0 ≡ Some x → multiple_from gap now ≡ now
    → paced_due class gap xs now ≡ Send x.ticket class x.len Own
due_now class gap xs x now e m =
    due_of_head class gap xs x now e
    ∙ ap (λ (b : Bool). due_at b class (multiple_from gap now) x) (eq-eqb (multiple_from gap now) now m)

pub waits_till : (class gap : ℕ) (xs : List Entry) (x : Entry) (now : ℕ) → 1 ≤ gap → slice_get xs 0 ≡ Some x → now < multiple_from gap now
    → IsLeast (λ t. paced_due class gap xs t) now (multiple_from gap now)
waits_till class gap xs x now g e l =
    let till : ℕ = multiple_from gap now in
    record {
      later = l;
      sends = let P : Pick → Type 0 = λ p. Sends p in
          subst P (sym (due_now class gap xs x till e (multiple_same gap now till g (omega arith) (omega arith)))) tt;
      least = λ t m n s.
          let same : multiple_from gap t ≡ till = multiple_same gap now t g m (omega arith) in
          let P : Pick → Type 0 = λ p. Sends p in
          subst P (due_later class gap xs x t e (omega arith)) s;
    }

-- the same where the moment is reckoned in another way
multiple_is : (gap t : ℕ) → 1 ≤ gap → div_ceil t gap * gap ≡ multiple_from gap t
multiple_is gap t g =
    let q : ℕ = t / gap in
    let r : ℕ = t % gap in
    let n : ℕ = div_ceil t gap in
    let whole : gap * q + r ≡ t = omega arith in
    let least : (t ≤ gap * n) × (gap * n < t + gap) = elim (cases_eq r 0) [
      | inl z ↦
          let m : n ≡ q = omega arith in
          let e : gap * n ≡ gap * q = ap (λ (k : ℕ). gap * k) m in
          (omega arith, omega arith)
      | inr z ↦
          let m : n ≡ q + 1 = omega arith in
          let e : gap * n ≡ gap * (q + 1) = ap (λ (k : ℕ). gap * k) m in
          (omega arith, omega arith)
    ] in
    let most : ceil_div t gap ≤ n = ceil_le t gap n g least.0 in
    let least_of : t ≤ gap * ceil_div t gap = le_ceil t gap g in
    let same : n ≡ ceil_div t gap = below n (ceil_div t gap) most least_of least.1 in
    ap (λ (k : ℕ). k * gap) same
  where
    below : (n m : ℕ) → m ≤ n → t ≤ gap * m → gap * n < t + gap → n ≡ m
    below n m l f k = elim (cases_eq n m) [
      | inl e ↦ e
      | inr d ↦
          let more : m + 1 ≤ n = omega arith in
          let big : gap * (m + 1) ≤ gap * n = mul-le-mul_left gap more in
          absurd (omega arith)
    ]

pub till_is : (gap gap' t n : ℕ) → 1 ≤ gap → gap ≡ gap' → n ≡ div_ceil t gap → n * gap ≡ multiple_from gap' t
till_is gap gap' t n g e d = ap (λ (k : ℕ). k * gap) d ∙ multiple_is gap t g ∙ ap (λ (k : ℕ). multiple_from k t) e

pub due_till : (class gap : ℕ) (xs : List Entry) (x : Entry) (now till : ℕ) → slice_get xs 0 ≡ Some x → till ≡ multiple_from gap now → now < till
    → Wait till ≡ paced_due class gap xs now
due_till class gap xs x now till e m l = ap (λ (n : ℕ). Wait n) m ∙ sym (due_later class gap xs x now e (omega arith))

pub waits_at : (class gap : ℕ) (xs : List Entry) (x : Entry) (now till : ℕ) → 1 ≤ gap → slice_get xs 0 ≡ Some x → till ≡ multiple_from gap now → now < till
    → IsLeast (λ t. paced_due class gap xs t) now till
waits_at class gap xs x now till g e m l =
    let P : ℕ → Type 0 = λ n. IsLeast (λ t. paced_due class gap xs t) now n in
    subst P (sym m) (waits_till class gap xs x now g e (omega arith))

-- a moment that is no later than its multiple is that multiple
pub now_is : (gap now till : ℕ) → 1 ≤ gap → till ≡ multiple_from gap now → till ≤ now → multiple_from gap now ≡ now
now_is gap now till g m l = omega (arith, multiple_later gap now g)

pub due_sent : (class c gap : ℕ) (xs : List Entry) (x : Entry) (now : ℕ) → slice_get xs 0 ≡ Some x → multiple_from gap now ≡ now → c ≡ class
    → Send x.ticket c x.len Own ≡ paced_due class gap xs now
due_sent class c gap xs x now e m s = ap (λ (n : ℕ). Send x.ticket n x.len Own) s ∙ sym (due_now class gap xs x now e m)

-- a class of one is the first, and every other list is empty
only_one : {Q : Type 0} (d : ClassQueuesView Q) (c : ℕ) (b e : Bool) → nat_le d.first c ≡ b → nat_lt c (d.first + 1) ≡ e → length d.queues ≡ 1
    → ((k : ℕ) → IsOther d k → list_in d k ≡ []) → list_in d d.first ≡ [] → list_in d c ≡ []
only_one d c true true l m one others none =
    let same : d.first ≡ c = omega (arith, leb-true d.first c l, ltb-true c (d.first + 1) m) in ap (list_in d) (sym same) ∙ none
only_one d c false e l m one others none = others c (λ a b. let k = le-leb d.first c a in (cc))
only_one d c true false l m one others none = others c (λ a b. let k = lt-ltb c (d.first + 1) (omega (arith, b, one)) in (cc))

pub empty_all : {Q : Type 0} (d : ClassQueuesView Q) → length d.queues ≡ 1 → ((k : ℕ) → IsOther d k → list_in d k ≡ []) → list_in d d.first ≡ [] → (c : ℕ) → list_in d c ≡ []
empty_all d one others none c = only_one d c (nat_le d.first c) (nat_lt c (d.first + 1)) refl refl one others none

pub not_all_empty : {Q : Type 0} (d : ClassQueuesView Q) (x : Entry) → slice_get (list_in d d.first) 0 ≡ Some x → ((c : ℕ) → list_in d c ≡ []) → ⊥
not_all_empty d x e f =
    let none : slice_get (list_in d d.first) 0 ≡ None = ap (λ (ys : List Entry). slice_get ys 0) (f d.first) in
    (cc (e, none))

pub choice_is : (class c : ℕ) (r : Rule) → c ≡ class → choice class r ≡ choice c r
choice_is class c r e = sym (ap (λ (n : ℕ). choice n r) e)

-- what is sent is the head, at a multiple
pub record SendsHead (class gap : ℕ) (xs : List Entry) (now class_sent len_sent : ℕ) (rule : Rule) : Type 0 where
  pub head_entry : Entry
  pub front : slice_get xs 0 ≡ Some head_entry
  pub multiple : multiple_from gap now ≡ now
  pub same_class : class_sent ≡ class
  pub same_rule : rule ≡ Own
  pub same_len : head_entry.len ≡ len_sent

sends_head_at : (class gap : ℕ) (x : Entry) (xs : List Entry) (now c l : ℕ) (t : Ticket) (r : Rule) (b : Bool) → eqb (multiple_from gap now) now ≡ b
    → due_at b class (multiple_from gap now) x ≡ Send t c l r → SendsHead class gap (x ∷ xs) now c l r
sends_head_at class gap x xs now c l t r true m e = record {
  head_entry = x;
  front = refl;
  multiple = eqb-true (multiple_from gap now) now m;
  same_class = let n : class ≡ c = cc in sym n;
  same_rule = let n : Own ≡ r = cc in sym n;
  same_len = cc;
}
sends_head_at class gap x xs now c l t r false m e = absurd (cc)

pub sends_head : (class gap : ℕ) (xs : List Entry) (now c l : ℕ) (t : Ticket) (r : Rule) → paced_due class gap xs now ≡ Send t c l r → SendsHead class gap xs now c l r
sends_head class gap [] now c l t r e = absurd (cc)
sends_head class gap (x ∷ xs) now c l t r e = sends_head_at class gap x xs now c l t r (eqb (multiple_from gap now) now) refl e

module _ {Q : Type 0} (stands : Q → List QueueEvent → Type 0) (says : Q → Saying) where
  -- what shows in the one list
  pub packets_here : (d : Pacing Q) (h : List LabelledEvent) → Represents stands says d h → seen (list_in d.rows d.rows.first) ≡ seen_of (waiting d.rows.first (unlabelled h))
  packets_here d h s = (s.recorded.shown d.rows.first).packets

  pub plain : (d : Pacing Q) → 1 ≤ d.gap → IsPlain (paced_of says d)
  plain d g = record {
    lawful = paced_lawful d.rows.first d.gap (answering says d.rows) g;
    steady = paced_steady d.rows.first d.gap (answering says d.rows) g;
    distinct = one_distinct d.rows.first;
  }

  pub same_policy : (most : Q → ℕ) (d : Pacing Q) (rows : ClassQueuesView Q) → SameRow most says d.rows rows → paced_of says (record { gap = d.gap; rows = rows }) ≡ paced_of says d
  same_policy most d rows s =
      ap (λ (n : ℕ). paced n d.gap (answering says rows)) s.first ∙ ap (λ (a : Answering). paced d.rows.first d.gap a) s.answers

  -- a sending of what is due
  pub sent_stands : (most : Q → ℕ) (d : Pacing Q) (rows : ClassQueuesView Q) (h : List LabelledEvent) (clock : Clock) (s : Sending) → SameRow most says d.rows rows → Represents stands says d h
      → RowRepresents stands rows (sent_of s ∷ h) → due_of d s.start ≡ Send s.ticket s.class s.len s.rule → IsChoice s.start clock (unlabelled h)
      → Represents stands says (record { gap = d.gap; rows = rows }) (sent_of s ∷ h)
  sent_stands most d rows h clock s same k recorded due o =
      let class : ℕ = d.rows.first in
      let xs : List Entry = list_in d.rows class in
      let x = sends_head class d.gap xs s.start s.class s.len s.ticket s.rule due in
      let e : Pacing Q = record { gap = d.gap; rows = rows } in
      let f = front_shown class xs h x.head_entry (k.recorded.shown class) x.front in
      let was : WasDue (paced_of says d) (unlabelled h) (record { class = s.class; len = s.len; rule = s.rule; start = s.start; end = s.end }) = record {
        packet = f.packet;
        front = ap (λ (n : ℕ). slice_get (waiting n (unlabelled h)) 0) x.same_class ∙ f.front;
        len = sym x.same_len ∙ f.len;
        arrived = o.arrived;
        started = o.started;
        first = first_some class d.gap (answering says d.rows) xs x.head_entry (unlabelled h) s.start (packets_here d h k) x.front ∙ ap Some x.multiple;
        pick = ap (λ (r : Rule). choice class r) (sym x.same_rule) ∙ ap (λ (n : ℕ). choice n s.rule) (sym x.same_class);
      } in
      let O : Policy → Type 0 = λ y. IsOrderly y (unlabelled (sent_of s ∷ h)) in
      record { gap = k.gap; recorded = recorded; orderly = subst O (sym (same_policy most d rows same)) (was, k.orderly); plain = plain e k.gap }

  -- an offer
  pub offer_stands : (most : Q → ℕ) (d : Pacing Q) (rows : ClassQueuesView Q) (h : List LabelledEvent) (x : Offering)
      → SameRow most says d.rows rows → Represents stands says d h → IsOffer (bare_arrival x) (unlabelled h) → Answers stands says d.rows rows h x.class x.entry x.now x.words x.verdict x.after
      → IsAnswer (paced_of says d) (unlabelled h) x.words (bare_arrival x) x.verdict x.after
      × Represents stands says (record { gap = d.gap; rows = rows }) (offer_of (paced_of says d) h x.entry.ticket x.words (bare_arrival x) ∷ h)
  offer_stands most d rows h x same k o a =
      let e : Pacing Q = record { gap = d.gap; rows = rows } in
      let O : Policy → Type 0 = λ y. IsOrderly y (unlabelled (offer_of (paced_of says d) h x.entry.ticket x.words (bare_arrival x) ∷ h)) in (
        record { verdict = a.verdict; words = a.words },
        record { gap = k.gap; recorded = a.recorded; orderly = subst O (sym (same_policy most d rows same)) (o, refl, k.orderly); plain = plain e k.gap },
      )

-- the head that was asked for
pub front_of : {Q : Type 0} (d e : Pacing Q) (c : ℕ) (o : Option Entry) → d ≡ e → c ≡ d.rows.first → o ≡ slice_get (list_in d.rows c) 0
    → slice_get (list_in e.rows e.rows.first) 0 ≡ o
front_of d e c o v f h =
    ap (λ (x : Pacing _). slice_get (list_in x.rows x.rows.first) 0) (sym v) ∙ ap (λ (n : ℕ). slice_get (list_in d.rows n) 0) (sym f) ∙ sym h

pub empty_of : {Q : Type 0} (d e : Pacing Q) → d ≡ e → length d.rows.queues ≡ 1 → ((k : ℕ) → IsOther d.rows k → list_in d.rows k ≡ [])
    → list_in e.rows e.rows.first ≡ [] → (c : ℕ) → list_in e.rows c ≡ []
empty_of {Q} d e v one others none =
    let P : Pacing Q → Type 0 = λ x. list_in x.rows x.rows.first ≡ [] → (c : ℕ) → list_in x.rows c ≡ [] in
    subst P v (λ n. empty_all d.rows one others n) none
