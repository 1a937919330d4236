-- Classes in a row, of which the first that is not empty is sent: what is due.
use Rattle.std.proofs.Common.{◌≡◌, ◌≤◌, ◌<◌, ◌+◌, ◌∙◌, ◌⊎◌, inl, inr, ℕ, zero, suc, min, Bool, true, false, List, [], ◌∷◌, None, Some, length, replicate, refl, ap, sym, subst, arith}
use Rattle.std.specs.declared.option.Option.{Option}
use Rattle.std.specs.Prelude.{slice_get, option_map, nat_le, nat_lt}
use Rattle.std.proofs.lemmas.Bool.{le-leb, leb-true, lt-ltb, ltb-true}
use Rattle.altq_model.specs.declared.Rule.{Rule}
use Rattle.altq_model.specs.History.{Arrival, Event, LabelledEvent, unlabelled, waiting}
use Rattle.altq_model.specs.Play.{Choice, Policy, lesser}
use Rattle.altq_model.specs.Policies.{Answering, strict, first_waiting}
use Rattle.altq_model.specs.Lawful.{first_at}
use Rattle.link_clock.specs.Clock.{Clock}
use Rattle.play_base.specs.declared.packet.Ticket.{Ticket}
use Rattle.play_laws.proofs.StrictLemmas.{steady, strict_lawful, strict_never_waits}
use Rattle.leaf_queue.specs.declared.node.Entry.{Entry}
use Rattle.leaf_queue.specs.Queue.{QueueEvent, Saying}
use Rattle.discipline.specs.declared.pick.Pick.{Pick}
use Rattle.discipline.specs.declared.pick.Pick.TheVariants.{Send, Wait, Empty}
use Rattle.discipline.specs.declared.pick.Sending.{Sending}
use Rattle.discipline.specs.Laws.{IsAnswer, IsDue, NamesHead, Waits, entry, offer_of, seen, seen_of, sent_of}
use Rattle.discipline.specs.Moments.{IsChoice, IsOffer, IsOrderly, WasDue}
use Rattle.class_rows.specs.Rows.{Answers, ClassQueuesView, SameRow, RowRepresents, answering, classes_in, holding, list_in}
use Rattle.class_rows.proofs.RowLemmas.{holding_distinct}
use Rattle.class_rows.proofs.FrontLemmas.{front_shown}
use Rattle.class_rows.proofs.RowHistory.{Offering, bare_arrival}
use Rattle.plain_disciplines.specs.Plain.{IsPlain}
use Rattle.plain_disciplines.specs.Strict.{IsStrict, Ordered, Represents, classes_from, first_pick, pick_head, strict_due, strict_of}

-- the queue classes, where every class is one
pub all_hold : (c n : ℕ) → holding c (replicate n true) ≡ classes_from c n
all_hold c zero = refl
all_hold c (suc n) = ap (λ (cs : List ℕ). c ∷ cs) (all_hold (c + 1) n)

pub classes_are : {Q : Type 0} (d : ClassQueuesView Q) → IsStrict d → classes_in d ≡ classes_from d.first (length d.queues)
classes_are d i = ap (holding d.first) i.holds ∙ all_hold d.first (length d.queues)

-- the pick is the head of the first list that is not empty
at_head : (c : ℕ) (rule : Rule) (xs : List Entry) (x : Entry) (other : Pick) → slice_get xs 0 ≡ Some x → pick_head c rule xs other ≡ Send x.ticket c x.len rule
at_head c rule [] x other e = absurd (cc)
at_head c rule (y ∷ ys) x other e = let same : y ≡ x = cc in ap (λ (z : Entry). Send z.ticket c z.len rule) same

pub pick_found : (rule : Rule) (lists : ℕ → List Entry) (c n k : ℕ) (x : Entry) → k < n
    → ((j : ℕ) → c ≤ j → j < c + k → lists j ≡ []) → slice_get (lists (c + k)) 0 ≡ Some x
    → first_pick rule lists (classes_from c n) ≡ Send x.ticket (c + k) x.len rule
pick_found rule lists c zero k x l f e = absurd (omega arith)
pick_found rule lists c (suc n) zero x l f e =
    let same : c + 0 ≡ c = omega arith in
    let P : ℕ → Type 0 = λ m. slice_get (lists m) 0 ≡ Some x in
    at_head c rule (lists c) x (first_pick rule lists (classes_from (c + 1) n)) (subst P same e) ∙ ap (λ (m : ℕ). Send x.ticket m x.len rule) (sym same)
pick_found rule lists c (suc n) (suc k) x l f e =
    let same : c + 1 + k ≡ c + suc k = omega arith in
    let P : ℕ → Type 0 = λ m. slice_get (lists m) 0 ≡ Some x in
    ap (λ (ys : List Entry). pick_head c rule ys (first_pick rule lists (classes_from (c + 1) n))) (f c (omega arith) (omega arith))
    ∙ pick_found rule lists (c + 1) n k x (omega arith) (λ j a b. f j (omega arith) (omega arith)) (subst P (sym same) e)
    ∙ ap (λ (m : ℕ). Send x.ticket m x.len rule) same

pub pick_none : (rule : Rule) (lists : ℕ → List Entry) (c n : ℕ) → ((j : ℕ) → c ≤ j → j < c + n → lists j ≡ []) → first_pick rule lists (classes_from c n) ≡ Empty
pick_none rule lists c zero f = refl
pick_none rule lists c (suc n) f =
    ap (λ (ys : List Entry). pick_head c rule ys (first_pick rule lists (classes_from (c + 1) n))) (f c (omega arith) (omega arith))
    ∙ pick_none rule lists (c + 1) n (λ j a b. f j (omega arith) (omega arith))

has_front : (xs : List Entry) (x : Entry) → slice_get xs 0 ≡ Some x → 0 < length xs
has_front [] x e = absurd (cc)
has_front (y ∷ xs) x e = omega arith

pub no_head : (xs : List Entry) → slice_get xs 0 ≡ None → xs ≡ []
no_head [] e = refl
no_head (x ∷ xs) e = absurd (cc)

-- what is said of a pick, where it is the first list that is not empty
picked_case : (R : Pick → Type 0) (c : ℕ) (rule : Rule) (xs : List Entry) (other : Pick) → R other
    → ((x : Entry) → slice_get xs 0 ≡ Some x → R (Send x.ticket c x.len rule)) → R (pick_head c rule xs other)
picked_case R c rule [] other a b = a
picked_case R c rule (x ∷ xs) other a b = b x refl

pub picked : (R : Pick → Type 0) (rule : Rule) (lists : ℕ → List Entry) (cs : List ℕ) → R Empty
    → ((c : ℕ) (x : Entry) → slice_get (lists c) 0 ≡ Some x → R (Send x.ticket c x.len rule)) → R (first_pick rule lists cs)
picked R rule lists [] a b = a
picked R rule lists (c ∷ cs) a b = picked_case R c rule (lists c) (first_pick rule lists cs) (picked R rule lists cs a b) (λ x e. b c x e)

pub names_head : (rule : Rule) (lists : ℕ → List Entry) (cs : List ℕ) → NamesHead lists (first_pick rule lists cs)
names_head rule lists cs = picked (λ p. NamesHead lists p) rule lists cs tt (λ c x e. (x.prec, e))

pub waits_never : (rule : Rule) (lists : ℕ → List Entry) (cs : List ℕ) (due : ℕ → Pick) (now : ℕ) → Waits due now (first_pick rule lists cs)
waits_never rule lists cs due now = picked (λ p. Waits due now p) rule lists cs tt (λ c x e. tt)

-- every list is empty, those of the classes and all others
pub within_or : (lists : ℕ → List Entry) (c n j : ℕ) (b d : Bool) → nat_le c j ≡ b → nat_lt j (c + n) ≡ d
    → ((i : ℕ) → c ≤ i → i < c + n → lists i ≡ []) → ((i : ℕ) → (c ≤ i → i < c + n → ⊥) → lists i ≡ []) → lists j ≡ []
within_or lists c n j true true l m inside outside = inside j (leb-true c j l) (ltb-true j (c + n) m)
within_or lists c n j false d l m inside outside = outside j (λ a b. let e = le-leb c j a in (cc))
within_or lists c n j true false l m inside outside = outside j (λ a b. let e = lt-ltb j (c + n) b in (cc))

pub no_front : (xs : List Entry) (x : Entry) → slice_get xs 0 ≡ Some x → xs ≡ [] → ⊥
no_front [] x e n = (cc)
no_front (y ∷ xs) x e n = (cc)

-- what is due after a history, of strict order
abbrev DueIs : (rule : Rule) (now : ℕ) → Option ℕ → (first : ℕ) → Pick → Type 0
DueIs rule now o first (Send t class len r) = (o ≡ Some now) × (first ≡ class) × (rule ≡ r)
DueIs rule now o first (Wait till) = ⊥
DueIs rule now o first Empty = o ≡ None

lesser_same : (now : ℕ) (o : Option ℕ) → (o ≡ None) ⊎ (o ≡ Some now) → lesser (Some now) o ≡ Some now
lesser_same now o (inl e) = ap (lesser (Some now)) e
lesser_same now o (inr e) = let n : min now now ≡ now = omega arith in ap (lesser (Some now)) e ∙ ap (λ (m : ℕ). Some m) n

module _ (classes : List ℕ) (rule : Rule) (answer : Answering) (now : ℕ) (b : List Event) where
  abbrev first_of : List ℕ → Option ℕ
  first_of cs = first_at (strict classes rule answer) now b cs

  front_case : (ws : List Arrival) (o : Option ℕ) → (o ≡ None) ⊎ (o ≡ Some now)
      → (lesser (option_map (λ (a : Arrival). now) (slice_get ws 0)) o ≡ None) ⊎ (lesser (option_map (λ (a : Arrival). now) (slice_get ws 0)) o ≡ Some now)
  front_case [] o f = f
  front_case (a ∷ ws) o f = inr (lesser_same now o f)

  first_or_none : (cs : List ℕ) → (first_of cs ≡ None) ⊎ (first_of cs ≡ Some now)
  first_or_none [] = inl refl
  first_or_none (c ∷ cs) = front_case (waiting c b) (first_of cs) (first_or_none cs)

  due_case : (c : ℕ) (cs : List ℕ) (xs : List Entry) (ws : List Arrival) (other : Pick) → seen xs ≡ seen_of ws → DueIs rule now (first_of cs) (first_waiting cs b) other
      → DueIs rule now (lesser (option_map (λ (a : Arrival). now) (slice_get ws 0)) (first_of cs)) (elim ws [ [] ↦ first_waiting cs b | a ∷ rest ↦ c ])
      (pick_head c rule xs other)
  due_case c cs [] [] other e d = d
  due_case c cs [] (a ∷ ws) other e d = absurd (cc)
  due_case c cs (x ∷ xs) [] other e d = absurd (cc)
  due_case c cs (x ∷ xs) (a ∷ ws) other e d = (lesser_same now (first_of cs) (first_or_none cs), refl, refl)

  due_is : (lists : ℕ → List Entry) (cs : List ℕ) → ((c : ℕ) → seen (lists c) ≡ seen_of (waiting c b))
      → DueIs rule now (first_of cs) (first_waiting cs b) (first_pick rule lists cs)
  due_is lists [] s = refl
  due_is lists (c ∷ cs) s = due_case c cs (lists c) (waiting c b) (first_pick rule lists cs) (s c) (due_is lists cs s)

abbrev choice : ℕ → Rule → Choice
choice class r = record { class = class; rule = r }

choice_is : (c d : ℕ) (r s : Rule) → c ≡ d → r ≡ s → choice c r ≡ choice d s
choice_is c d r s e f = ap (λ (n : ℕ). choice n r) e ∙ ap (λ (t : Rule). choice d t) f

due_by : (rule : Rule) (cs : List ℕ) (answer : Answering) (now : ℕ) (b : List Event) (p : Pick)
    → DueIs rule now (first_at (strict cs rule answer) now b cs) (first_waiting cs b) p → IsDue (strict cs rule answer) b now p
due_by rule cs answer now b (Send t class len r) d = (d.0, choice_is (first_waiting cs b) class rule r d.1 d.2)
due_by rule cs answer now b (Wait till) d = absurd d
due_by rule cs answer now b Empty d = d

-- what is sent is the front of its list
record SendsFront (xs : List Entry) (length_is : ℕ) : Type 0 where
  entry_is : Entry
  front : slice_get xs 0 ≡ Some entry_is
  long : entry_is.len ≡ length_is

front_case_of : (rule : Rule) (lists : ℕ → List Entry) (c : ℕ) (xs : List Entry) (other : Pick) (t : Ticket) (class len : ℕ) (r : Rule) → xs ≡ lists c
    → (other ≡ Send t class len r → SendsFront (lists class) len) → pick_head c rule xs other ≡ Send t class len r → SendsFront (lists class) len
front_case_of rule lists c [] other t class len r e f p = f p
front_case_of rule lists c (x ∷ xs) other t class len r e f p =
    let here : c ≡ class = cc in
    let long : x.len ≡ len = cc in
    record { entry_is = x; front = ap (λ (n : ℕ). slice_get (lists n) 0) (sym here) ∙ ap (λ (ys : List Entry). slice_get ys 0) (sym e); long = long }

sends_front : (rule : Rule) (lists : ℕ → List Entry) (cs : List ℕ) (t : Ticket) (class len : ℕ) (r : Rule) → first_pick rule lists cs ≡ Send t class len r
    → SendsFront (lists class) len
sends_front rule lists [] t class len r p = absurd (cc)
sends_front rule lists (c ∷ cs) t class len r p =
    front_case_of rule lists c (lists c) (first_pick rule lists cs) t class len r refl (sends_front rule lists cs t class len r) p

module _ {Q : Type 0} (stands : Q → List QueueEvent → Type 0) (says : Q → Saying) where
  what_is : (d : Ordered Q) (h : List LabelledEvent) (now : ℕ) → Represents stands says d h
      → DueIs d.rule now (first_at (strict_of says d) now (unlabelled h) (classes_in d.rows)) (first_waiting (classes_in d.rows) (unlabelled h)) (strict_due d)
  what_is d h now s = due_is (classes_in d.rows) d.rule (answering says d.rows) now (unlabelled h) (list_in d.rows) (classes_in d.rows) (λ c. (s.recorded.shown c).packets)

  -- what is due after a history is the policy's
  pub due_of_policy : (d : Ordered Q) (h : List LabelledEvent) (now : ℕ) → Represents stands says d h → IsDue (strict_of says d) (unlabelled h) now (strict_due d)
  due_of_policy d h now s = due_by d.rule (classes_in d.rows) (answering says d.rows) now (unlabelled h) (strict_due d) (what_is d h now s)

  -- the policy of a row that answers alike
  pub same_policy : (most : Q → ℕ) (d : Ordered Q) (rows : ClassQueuesView Q) → SameRow most says d.rows rows → strict_of says (record { rule = d.rule; rows = rows }) ≡ strict_of says d
  same_policy most d rows s =
      let first : holding rows.first rows.holds ≡ holding d.rows.first d.rows.holds = ap (λ (n : ℕ). holding n rows.holds) s.first ∙ ap (holding d.rows.first) s.holds in
      ap (λ (cs : List ℕ). strict cs d.rule (answering says rows)) first
      ∙ ap (λ (a : Answering). strict (classes_in d.rows) d.rule a) s.answers

  pub plain : (d : Ordered Q) → IsPlain (strict_of says d)
  plain d = record {
    lawful = strict_lawful (classes_in d.rows) d.rule (answering says d.rows);
    steady = steady (strict_of says d) (strict_never_waits (classes_in d.rows) d.rule (answering says d.rows));
    distinct = holding_distinct d.rows.first d.rows.holds;
  }

  -- a sending of what is due
  pub sent_stands : (most : Q → ℕ) (d : Ordered Q) (rows : ClassQueuesView Q) (h : List LabelledEvent) (clock : Clock) (s : Sending) → SameRow most says d.rows rows → Represents stands says d h
      → RowRepresents stands rows (sent_of s ∷ h) → strict_due d ≡ Send s.ticket s.class s.len s.rule → IsChoice s.start clock (unlabelled h)
      → Represents stands says (record { rule = d.rule; rows = rows }) (sent_of s ∷ h)
  sent_stands most d rows h clock s same k recorded due o =
      let D : Pick → Type 0 = λ z. DueIs d.rule s.start (first_at (strict_of says d) s.start (unlabelled h) (classes_in d.rows)) (first_waiting (classes_in d.rows) (unlabelled h)) z in
      let is = subst D due (what_is d h s.start k) in
      let e : Ordered Q = record { rule = d.rule; rows = rows } in
      let x = sends_front d.rule (list_in d.rows) (classes_in d.rows) s.ticket s.class s.len s.rule due in
      let f = front_shown s.class (list_in d.rows s.class) h x.entry_is (k.recorded.shown s.class) x.front in
      let was : WasDue (strict_of says d) (unlabelled h) (record { class = s.class; len = s.len; rule = s.rule; start = s.start; end = s.end }) = record {
        packet = f.packet;
        front = f.front;
        len = sym x.long ∙ f.len;
        arrived = o.arrived;
        started = o.started;
        first = is.0;
        pick = choice_is (first_waiting (classes_in d.rows) (unlabelled h)) s.class d.rule s.rule is.1 is.2;
      } in
      let O : Policy → Type 0 = λ y. IsOrderly y (unlabelled (sent_of s ∷ h)) in
      record { recorded = recorded; orderly = subst O (sym (same_policy most d rows same)) (was, k.orderly); plain = plain e }

  -- an offer
  pub offer_stands : (most : Q → ℕ) (d : Ordered Q) (rows : ClassQueuesView Q) (h : List LabelledEvent) (x : Offering)
      → SameRow most says d.rows rows → Represents stands says d h → IsOffer (bare_arrival x) (unlabelled h) → Answers stands says d.rows rows h x.class x.entry x.now x.words x.verdict x.after
      → IsAnswer (strict_of says d) (unlabelled h) x.words (bare_arrival x) x.verdict x.after
      × Represents stands says (record { rule = d.rule; rows = rows }) (offer_of (strict_of says d) h x.entry.ticket x.words (bare_arrival x) ∷ h)
  offer_stands most d rows h x same k o a =
      let e : Ordered Q = record { rule = d.rule; rows = rows } in
      let O : Policy → Type 0 = λ y. IsOrderly y (unlabelled (offer_of (strict_of says d) h x.entry.ticket x.words (bare_arrival x) ∷ h)) in (
        record { verdict = a.verdict; words = a.words },
        record { recorded = a.recorded; orderly = subst O (sym (same_policy most d rows same)) (o, refl, k.orderly); plain = plain e },
      )

-- what is due has a list that is not empty
some_case : (lists : ℕ → List Entry) (p : Pick) → NamesHead lists p → (t : Ticket) (class len : ℕ) (r : Rule) → p ≡ Send t class len r → 0 < length (lists class)
some_case lists (Send u d l q) n t class len r e =
    let same : d ≡ class = cc in
    let S : ℕ → Type 0 = λ c. 0 < length (lists c) in
    subst S same (has_front (lists d) (entry u l n.0) n.1)
some_case lists (Wait till) n t class len r e = absurd (cc)
some_case lists Empty n t class len r e = absurd (cc)

pub some_due : (rule : Rule) (lists : ℕ → List Entry) (cs : List ℕ) (t : Ticket) (class len : ℕ) (r : Rule) → first_pick rule lists cs ≡ Send t class len r → 0 < length (lists class)
some_due rule lists cs t class len r e = some_case lists (first_pick rule lists cs) (names_head rule lists cs) t class len r e
