-- One class that holds packets: what is due, and what it stands for after an offer and after a sending.
use Rattle.std.proofs.Common.{◌≡◌, ◌<◌, ◌+◌, ◌∙◌, inl, inr, ℕ, zero, suc, Bool, true, false, cond, List, [], ◌∷◌, None, Some, length, map, replicate, set, eqb, refl, ap, sym, subst, arith}
use Rattle.std.specs.Prelude.{◌↔◌, Option, slice_get, option_map, slice_index}
use Rattle.std.proofs.lemmas.Bool.{cases_eq}
use Rattle.std.proofs.lemmas.Bool.Decides.{nat_tests}
use Rattle.altq_model.specs.declared.Rule.{Rule}
use Rattle.altq_model.specs.declared.Rule.TheVariants.{Share}
use Rattle.altq_model.specs.History.{Arrival, Event, LabelledEvent, unlabelled, waiting}
use Rattle.altq_model.specs.Lawful.{first_at}
use Rattle.altq_model.specs.Play.{Choice, Policy, lesser}
use Rattle.altq_model.specs.Policies.{Answering, first_waiting, strict}
use Rattle.link_clock.specs.Clock.{Clock}
use Rattle.play_base.specs.declared.packet.Ticket.{Ticket}
use Rattle.leaf_queue.specs.declared.node.Entry.{Entry}
use Rattle.leaf_queue.specs.Queue.{QueueEvent, Saying}
use Rattle.discipline.specs.declared.pick.Pick.{Pick}
use Rattle.discipline.specs.declared.pick.Pick.TheVariants.{Send, Wait, Empty}
use Rattle.discipline.specs.declared.pick.Sending.{Sending}
use Rattle.discipline.specs.Laws.{IsAnswer, IsDue, NamesHead, Waits, entry, offer_of, seen, seen_of, sent_of}
use Rattle.discipline.specs.Moments.{IsChoice, IsOffer, IsOrderly, WasDue}
use Rattle.class_rows.specs.Rows.{Answers, ClassQueuesView, SameRow, RowRepresents, answering, holding, limit_at, limits_of, list_in}
use Rattle.class_rows.proofs.FrontLemmas.{front_shown}
use Rattle.class_rows.proofs.RowHistory.{Offering, bare_arrival}
use Rattle.one_queue.specs.Single.{IsSingle, Single, Represents, due_in, due_of, policy_of}

-- the classes that hold packets, where one does
none_hold : (c n : ℕ) → holding c (replicate n false) ≡ []
none_hold c zero = refl
none_hold c (suc n) = none_hold (c + 1) n

pub one_holds : (c n k class : ℕ) → k < n → c + k ≡ class → holding c (set (replicate n false) k true) ≡ class ∷ []
one_holds c zero k class l e = absurd (omega arith)
one_holds c (suc n) zero class l e =
    let same : c ≡ class = omega (arith, e) in
    ap (λ (cs : List ℕ). c ∷ cs) (none_hold (c + 1) n) ∙ ap (λ (m : ℕ). m ∷ []) same
one_holds c (suc n) (suc k) class l e = one_holds (c + 1) n k class (omega arith) (omega (arith, e))

-- what is due
pub names_head : (lists : ℕ → List Entry) (class : ℕ) → NamesHead lists (due_in class (lists class))
names_head lists class = go (lists class) refl
  where
    go : (xs : List Entry) → lists class ≡ xs → NamesHead lists (due_in class xs)
    go [] e = tt
    go (x ∷ xs) e = (x.prec, ap (λ (ys : List Entry). slice_get ys 0) e)

pub waits_never : (class : ℕ) (xs : List Entry) (due : ℕ → Pick) (now : ℕ) → Waits due now (due_in class xs)
waits_never class [] due now = tt
waits_never class (x ∷ xs) due now = tt

pub empty_is : (lists : ℕ → List Entry) (class : ℕ) → ((c : ℕ) → (class ≡ c → ⊥) → lists c ≡ [])
    → (due_in class (lists class) ≡ Empty) ↔ ((c : ℕ) → lists c ≡ [])
empty_is lists class others = (λ e c. here (lists class) refl e c, λ f. ap (due_in class) (f class))
  where
    here : (xs : List Entry) → lists class ≡ xs → due_in class xs ≡ Empty → (c : ℕ) → lists c ≡ []
    here [] same e c = elim (cases_eq class c) [
      | inl eq ↦ ap lists (sym eq) ∙ same
      | inr n ↦ others c n
    ]
    here (x ∷ xs) same e c = absurd cc

-- what is due after a history, by what waits in the class
abbrev IsDueBy : (now : ℕ) → Option ℕ → (first : ℕ) → Pick → Type 0
IsDueBy now o first (Send t class len r) = (o ≡ Some now) × (first ≡ class) × (Share ≡ r)
IsDueBy now o first (Wait till) = ⊥
IsDueBy now o first Empty = o ≡ None

due_case : (class now : ℕ) (xs : List Entry) (ws : List Arrival) → seen xs ≡ seen_of ws
    → IsDueBy now (lesser (option_map (λ (a : Arrival). now) (slice_get ws 0)) None) (elim ws [ [] ↦ 0 | a ∷ rest ↦ class ]) (due_in class xs)
due_case class now [] [] e = refl
due_case class now [] (a ∷ ws) e = absurd cc
due_case class now (x ∷ xs) [] e = absurd cc
due_case class now (x ∷ xs) (a ∷ ws) e = (refl, refl, refl)

abbrev choice_of : ℕ → Rule → Choice
choice_of class r = record { class = class; rule = r }

due_by : (class : ℕ) (answer : Answering) (now : ℕ) (b : List Event) (p : Pick)
    → IsDueBy now (first_at (strict (class ∷ []) Share answer) now b (class ∷ [])) (first_waiting (class ∷ []) b) p → IsDue (strict (class ∷ []) Share answer) b now p
due_by class answer now b (Send t c len r) d = (d.0, ap (λ (n : ℕ). choice_of n Share) d.1 ∙ ap (λ (s : Rule). choice_of c s) d.2)
due_by class answer now b (Wait till) d = absurd d
due_by class answer now b Empty d = d

-- what is sent is the head of its list
pub head_sent : (lists : ℕ → List Entry) (class : ℕ) (t : Ticket) (c len : ℕ) (r : Rule) → due_in class (lists class) ≡ Send t c len r
    → (prec : ℕ) × (slice_get (lists c) 0 ≡ Some (entry t len prec))
head_sent lists class t c len r e = subst (λ (p : Pick). NamesHead lists p) e (names_head lists class)

has_front : (xs : List Entry) (x : Entry) → slice_get xs 0 ≡ Some x → 0 < length xs
has_front [] x e = absurd cc
has_front (y ∷ xs) x e = omega arith

pub some_due : (lists : ℕ → List Entry) (class : ℕ) (t : Ticket) (c len : ℕ) (r : Rule) → due_in class (lists class) ≡ Send t c len r → 0 < length (lists c)
some_due lists class t c len r e = let x = head_sent lists class t c len r e in has_front (lists c) (entry t len x.0) x.1

module _ {Q : Type 0} (stands : Q → List QueueEvent → Type 0) (says : Q → Saying) where
  what_is : (d : Single Q) (h : List LabelledEvent) (now : ℕ) → Represents stands says d h
      → IsDueBy now (first_at (policy_of says d) now (unlabelled h) (d.class ∷ [])) (first_waiting (d.class ∷ []) (unlabelled h)) (due_of d)
  what_is d h now s = due_case d.class now (list_in d.rows d.class) (waiting d.class (unlabelled h)) (s.recorded.shown d.class).packets

  -- what is due after a history is the policy's
  pub due_of_policy : (d : Single Q) (h : List LabelledEvent) (now : ℕ) → Represents stands says d h → IsDue (policy_of says d) (unlabelled h) now (due_of d)
  due_of_policy d h now s = due_by d.class (answering says d.rows) now (unlabelled h) (due_of d) (what_is d h now s)

  -- the policy of a row that answers alike
  same_policy : (most : Q → ℕ) (d : Single Q) (rows : ClassQueuesView Q) → SameRow most says d.rows rows → policy_of says (record { class = d.class; rows = rows }) ≡ policy_of says d
  same_policy most d rows s = ap (λ (a : Answering). strict (d.class ∷ []) Share a) s.answers

  -- a sending of what is due
  pub sent_stands : (most : Q → ℕ) (d : Single Q) (rows : ClassQueuesView Q) (h : List LabelledEvent) (clock : Clock) (s : Sending) → SameRow most says d.rows rows → Represents stands says d h
      → RowRepresents stands rows (sent_of s ∷ h) → due_of d ≡ Send s.ticket s.class s.len s.rule → IsChoice s.start clock (unlabelled h)
      → Represents stands says (record { class = d.class; rows = rows }) (sent_of s ∷ h)
  sent_stands most d rows h clock s same k recorded due o =
      let is = subst (λ (p : Pick). IsDue (policy_of says d) (unlabelled h) s.start p) due (due_of_policy d h s.start k) in
      let x = head_sent (list_in d.rows) d.class s.ticket s.class s.len s.rule due in
      let f = front_shown s.class (list_in d.rows s.class) h (entry s.ticket s.len x.0) (k.recorded.shown s.class) x.1 in
      let was : WasDue (policy_of says d) (unlabelled h) (record { class = s.class; len = s.len; rule = s.rule; start = s.start; end = s.end }) = record {
        packet = f.packet;
        front = f.front;
        len = f.len;
        arrived = o.arrived;
        started = o.started;
        first = is.0;
        pick = is.1;
      } in
      let O : Policy → Type 0 = λ y. IsOrderly y (unlabelled (sent_of s ∷ h)) in
      record { recorded = recorded; orderly = subst O (sym (same_policy most d rows same)) (was, k.orderly) }

  -- an offer
  pub offer_stands : (most : Q → ℕ) (d : Single Q) (rows : ClassQueuesView Q) (h : List LabelledEvent) (x : Offering)
      → SameRow most says d.rows rows → Represents stands says d h → IsOffer (bare_arrival x) (unlabelled h) → Answers stands says d.rows rows h x.class x.entry x.now x.words x.verdict x.after
      → IsAnswer (policy_of says d) (unlabelled h) x.words (bare_arrival x) x.verdict x.after
      × Represents stands says (record { class = d.class; rows = rows }) (offer_of (policy_of says d) h x.entry.ticket x.words (bare_arrival x) ∷ h)
  offer_stands most d rows h x same k o a =
      let O : Policy → Type 0 = λ y. IsOrderly y (unlabelled (offer_of (policy_of says d) h x.entry.ticket x.words (bare_arrival x) ∷ h)) in (
        record { verdict = a.verdict; words = a.words },
        record { recorded = a.recorded; orderly = subst O (sym (same_policy most d rows same)) (o, refl, k.orderly) },
      )

-- the limit of the class that holds packets
pub one_limit : {Q : Type 0} (most : Q → ℕ) (c : ℕ) (queues : List Q) (k class : ℕ) → k < length queues → c + k ≡ class
    → limit_at c (limits_of most queues (set (replicate (length queues) false) k true)) class ≡ slice_index (map most queues) k
one_limit most c [] k class l e = absurd (omega arith)
one_limit most c (q ∷ queues) zero class l e =
    let here : eqb c class ≡ true = grind (arith, nat_tests, e) in
    ap (λ (b : Bool). cond b (most q) (limit_at (c + 1) (limits_of most queues (replicate (length queues) false)) class)) here
one_limit most c (q ∷ queues) (suc k) class l e =
    let rest = limits_of most queues (set (replicate (length queues) false) k true) in
    let other : eqb c class ≡ false = grind (arith, nat_tests, e) in
    ap (λ (b : Bool). cond b 0 (limit_at (c + 1) rest class)) other ∙ one_limit most (c + 1) queues k class (omega arith) (omega (arith, e))

-- a new one
pub new_single : {Q : Type 0} (stands : Q → List QueueEvent → Type 0) (class : ℕ) (d : ClassQueuesView Q) → class < length d.queues → d.first ≡ 0
    → d.holds ≡ set (replicate (length d.queues) false) class true → RowRepresents stands d [] → IsSingle class d
new_single stands class d low first holds recorded = record {
  classes = ap (λ (n : ℕ). holding n d.holds) first ∙ ap (holding 0) holds ∙ one_holds 0 (length d.queues) class class low (omega arith);
  low = omega (arith, first);
  high = omega (arith, first, low);
  others = λ c n. none_seen (list_in d c) (recorded.shown c).packets;
}
  where
    none_seen : (xs : List Entry) → seen xs ≡ [] → xs ≡ []
    none_seen [] e = refl
    none_seen (x ∷ xs) e = absurd cc
