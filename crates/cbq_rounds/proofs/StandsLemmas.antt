-- The histories that CBQ stands for.
use Rattle.std.proofs.Common.{◌≡◌, ◌≢◌, ◌≤◌, ◌<◌, ◌+◌, ◌-◌, ◌∙◌, ℕ, Bool, true, false, List, [], ◌∷◌, ◌++◌, None, Some, length, get_or, drop, max, refl, ap, sym, subst, arith, eqb, length-set}
use Rattle.std.specs.declared.option.Option.{Option}
use Rattle.std.specs.Prelude.{◌&&◌, is_none, is_some, not, slice_get, slice_set, option_map, if◌then◌else◌}
use Rattle.std.proofs.lemmas.Bool.{ne_eqb}
use Rattle.altq_model.specs.declared.Rule.{Rule}
use Rattle.altq_model.specs.declared.Verdict.{Verdict}
use Rattle.altq_model.specs.History.{Arrival, DrawnWords, Event, LabelledEvent, Sent, unlabelled, head, is_kept, waiting}
use Rattle.altq_model.specs.Link.{Link, end_of, link}
use Rattle.altq_model.specs.Play.{Choice}
use Rattle.altq_model.specs.Policies.{Answering}
use Rattle.play_base.specs.declared.packet.Ticket.{Ticket}
use Rattle.leaf_queue.specs.Queue.{QueueEvent, Saying}
use Rattle.leaf_queue.specs.declared.node.Entry.{Entry}
use Rattle.class_rows.specs.Rows.{Answers, ClassQueuesView, SameRow, RowRepresents, answering, classes_in, holding, list_in}
use Rattle.class_rows.proofs.RowLemmas.{holding_distinct}
use Rattle.discipline.specs.declared.pick.Pick.TheVariants.{Send}
use Rattle.discipline.specs.declared.pick.Sending.{Sending}
use Rattle.discipline.specs.Laws.{AreDistinct, after_offer, after_sent, IsAnswer, arrival_with, entry, offer_of, sent_of}
use Rattle.discipline.specs.Moments.{IsChoice, IsOffer, IsOrderly, WasDue}
use Rattle.link_clock.specs.Clock.{Clock}
use Rattle.play_laws.proofs.LinkLemmas.{end_later}
use Rattle.cbq_estimator.specs.Estimate.{Estimate}
use Rattle.cbq_model.specs.declared.CbqClass.{CbqClass}
use Rattle.cbq_model.specs.Capped.{AreSendings, IsSending}
use Rattle.cbq_model.specs.Choice.{Situation, candidates, choice_of}
use Rattle.cbq_model.specs.Rounds.{cbq, credits, cursors, estimates, gained, rounds_needed, situation}
use Rattle.cbq_model.specs.Tree.{class_of, each, each_from, numbers}
use Rattle.cbq_model.proofs.Lawful.{cbq_lawful, cbq_steady}
use Rattle.cbq_model.proofs.Places.{at_place}
use Rattle.class_sets.specs.Held.{HeldBack}
use Rattle.class_sets.specs.Marked.{marked}
use Rattle.cbq_rounds.specs.Due.{due_in}
use Rattle.cbq_rounds.specs.Gained.{gained_by, bare_sending, with_gains}
use Rattle.cbq_sharing.specs.Sent.{told_up, with_credit, with_estimates, with_last}
use Rattle.cbq_sharing.specs.Rings.{AreRings}
use Rattle.cbq_sharing.specs.Shared.{IsTree, Shared, head_len, situation_in}
use Rattle.cbq_rounds.proofs.DueLemmas.{SendsPicked, front_len, member_from, sends_picked}
use Rattle.cbq_rounds.proofs.PolicyLemmas.{IsClock, Standing, each_same, first_is, shown, situation_is}
use Rattle.cbq_sharing.proofs.SentLemmas.{estimates_after, none_shown, set_each}
use Rattle.cbq_sharing.specs.Held.{IsUntold}
use Rattle.cbq_rounds.specs.Stands.{IsRuling, Ruling, Sets, Represents, cbq_of}
use Rattle.cbq_sharing.proofs.HeldLemmas.{sent_held}
use Rattle.cbq_sharing.specs.Waiting.{AreSized, AreWaiting}

-- a list whose packets have lengths of packets keeps so where one more comes, and where its head leaves
sized_more : (b : Bool) (x : Entry) (xs : List Entry) → 1 ≤ x.len → x.len ≤ 262144 → AreSized xs → AreSized (if b then xs ++ x ∷ [] else xs)
sized_more true x [] l m a = (l, m, tt)
sized_more true x (y ∷ ys) l m a = (a.0, a.1, sized_more true x ys l m a.2)
sized_more false x xs l m a = a

pub offer_sized : (v : Verdict) (class c : ℕ) (x : Entry) (lists : ℕ → List Entry) → 1 ≤ x.len → x.len ≤ 262144 → AreSized (lists c)
    → AreSized (after_offer v class x lists c)
offer_sized v class c x lists l m a = sized_more (is_kept v && eqb class c) x (lists c) l m a

not_kept : (a b : Bool) (x : Entry) (xs : List Entry) → b ≡ false → (if a && b then xs ++ x ∷ [] else xs) ≡ xs
not_kept true b x xs e = ap (λ (t : Bool). if t then xs ++ x ∷ [] else xs) e
not_kept false b x xs e = refl

pub offer_others : (v : Verdict) (class c : ℕ) (x : Entry) (lists : ℕ → List Entry) → class < c → lists c ≡ [] → after_offer v class x lists c ≡ []
offer_others v class c x lists l e = not_kept (is_kept v) (eqb class c) x (lists c) (ne_eqb class c (λ q. omega (arith, q, l))) ∙ e

pub same_in : {Q : Type 0} (most : Q → ℕ) (says : Q → Saying) (old new : ClassQueuesView Q) → SameRow most says old new → classes_in new ≡ classes_in old
same_in most says old new s = ap (λ (n : ℕ). holding n new.holds) s.first ∙ ap (holding old.first) s.holds

-- a choice by its parts
choice_parts : (k : Choice) (class : ℕ) (rule : Rule) → k.class ≡ class → k.rule ≡ rule → k ≡ record { class = class; rule = rule }
choice_parts k class rule e f =
    let C : ℕ → Rule → Choice = λ c r. record { class = c; rule = r } in
    ap (λ (c : ℕ). C c k.rule) e ∙ ap (λ (r : Rule). C class r) f

-- an offer with its answer, and the random words before and after it
pub record Offering : Type 0 where
  pub ticket : Ticket
  pub class : ℕ
  pub len : ℕ
  pub prec : ℕ
  pub now : ℕ
  pub words : DrawnWords
  pub after : DrawnWords
  pub verdict : Verdict

abbrev bare_arrival : Offering → Arrival
bare_arrival x = arrival_with x.class x.len x.prec x.now

-- a packet of a length waits first
pub record HasFront (o : Option Arrival) (length_is : ℕ) : Type 0 where
  pub packet : Arrival
  pub front : o ≡ Some packet
  pub len : length_is ≡ packet.len

front_of : (o : Option Arrival) (n : ℕ) → option_map (λ (a : Arrival). a.len) o ≡ Some n → HasFront o n
front_of None n e = absurd (cc)
front_of (Some a) n e = let same : a.len ≡ n = cc in record { packet = a; front = refl; len = sym same }

-- what is kept after a sending, by what was kept
pub record IsAfter (d : Shared) (lists : ℕ → List Entry) (clock : Clock) (x : Sending) (end : ℕ) (emptied : Bool) (after : Shared) : Type 0 where
  pub rate : after.rate ≡ d.rate
  pub tree : after.tree ≡ d.tree
  pub estimates : after.estimates ≡ told_up 8 d.tree (Some x.class) (record { end = end; len = x.len }) d.estimates
  pub credits : after.credits ≡ slice_set (each (λ c k. gained_by d lists clock x c) d.tree) x.class
      (if emptied then 0 else gained_by d lists clock x x.class - x.len)
  pub cursors : after.cursors ≡ slice_set d.cursors (class_of d.tree x.class).priority x.class
  pub ended : after.ended ≡ end

-- what is kept after the steps of a sending
pub after_steps : (d : Shared) (lists : ℕ → List Entry) (clock : Clock) (x : Sending) (emptied : Bool) (end : ℕ) (s1 s2 s3 s4 : Shared) → x.class < length d.tree
    → s1 ≡ with_gains d lists clock x
    → s2 ≡ with_credit s1 x.class (if emptied then 0 else get_or s1.credits x.class 0 - x.len)
    → s3 ≡ with_last s2 x.class end
    → s4 ≡ with_estimates s3 (told_up 8 s3.tree (Some x.class) (record { end = s3.ended; len = x.len }) s3.estimates)
    → IsAfter d lists clock x end emptied s4
after_steps d lists clock x emptied end s1 s2 s3 s4 low e1 e2 e3 e4 =
    let f : ℕ → ℕ = gained_by d lists clock x in
    let here : get_or (each (λ c k. f c) d.tree) x.class 0 ≡ f x.class = at_place (λ c k. f c) d.tree x.class 0 low in
    let P4 : Shared → Type 0 = λ s. IsAfter d lists clock x end emptied s in
    let P3 : Shared → Type 0 = λ s. P4 (with_estimates s (told_up 8 s.tree (Some x.class) (record { end = s.ended; len = x.len }) s.estimates)) in
    let P2 : Shared → Type 0 = λ s. P3 (with_last s x.class end) in
    let P1 : Shared → Type 0 = λ s. P2 (with_credit s x.class (if emptied then 0 else get_or s.credits x.class 0 - x.len)) in
    let base : P1 (with_gains d lists clock x) = record {
      rate = refl;
      tree = refl;
      estimates = refl;
      credits = ap (λ (n : ℕ). slice_set (each (λ c k. f c) d.tree) x.class (if emptied then 0 else n - x.len)) here;
      cursors = refl;
      ended = refl;
    } in
    subst P4 (sym e4) (subst P3 (sym e3) (subst P2 (sym e2) (subst P1 (sym e1) base)))

-- a sending of what is due, after a history that CBQ stands for
pub record IsDueSending {Q : Type 0} (stands : Q → List QueueEvent → Type 0) (says : Q → Saying) : Type 0 where
  pub from : Standing stands says
  pub clock : Clock
  pub sending : Sending
  pub tree : IsTree from.ruling.shares.tree
  pub choice : IsChoice sending.start clock (unlabelled from.history)
  pub free : clock.link.free ≤ sending.start
  pub same_rate : clock.rate ≡ from.ruling.shares.rate
  pub ends : sending.end ≡ end_of clock.rate clock.link sending.start sending.len
  pub due : due_in from.ruling.shares (list_in from.ruling.rows) clock sending.start ≡ Send sending.ticket sending.class sending.len sending.rule

module _ {Q : Type 0} (stands : Q → List QueueEvent → Type 0) (says : Q → Saying) where
  pub distinct_in : (d : Ruling Q) → classes_in d.rows ≡ numbers d.shares.tree → AreDistinct (cbq_of says d).classes
  distinct_in d e = let P : List ℕ → Type 0 = λ cs. AreDistinct cs in subst P e (holding_distinct d.rows.first d.rows.holds)

  -- an offer
  pub offer_stands : (most : Q → ℕ) (d : Ruling Q) (rows : ClassQueuesView Q) (h : List LabelledEvent) (x : Offering)
      → SameRow most says d.rows rows → Represents stands says d h → IsOffer (bare_arrival x) (unlabelled h)
      → Answers stands says d.rows rows h x.class (entry x.ticket x.len x.prec) x.now x.words x.verdict x.after
      → IsAnswer (cbq_of says d) (unlabelled h) x.words (bare_arrival x) x.verdict x.after
      × Represents stands says (record { shares = d.shares; rows = rows }) (offer_of (cbq_of says d) h x.ticket x.words (bare_arrival x) ∷ h)
  offer_stands most d rows h x same k o a =
      let O : Answering → Type 0 = λ f. IsOrderly (cbq d.shares.tree d.shares.rate f) (unlabelled (offer_of (cbq_of says d) h x.ticket x.words (bare_arrival x) ∷ h)) in (
        record { verdict = a.verdict; words = a.words },
        record {
          recorded = a.recorded;
          estimates = k.estimates;
          credits = k.credits;
          cursors = k.cursors;
          ended = k.ended;
          rate = k.rate;
          classes = same_in most says d.rows rows same ∙ k.classes;
          lawful = cbq_lawful d.shares.tree d.shares.rate (answering says rows) k.rate;
          steady = cbq_steady d.shares.tree d.shares.rate (answering says rows) k.rate;
          distinct = k.distinct;
          orderly = subst O (sym same.answers) (o, refl, k.orderly);
          sendings = k.sendings;
        },
      )

  -- a sending of what is due
  module _ (w : IsDueSending stands says) where
    abbrev d : Ruling Q
    d = w.from.ruling

    abbrev lists : ℕ → List Entry
    lists = list_in d.rows

    abbrev clock : Clock
    clock = w.clock

    abbrev x : Sending
    x = w.sending

    abbrev tree : List CbqClass
    tree = d.shares.tree

    abbrev rate : ℕ
    rate = d.shares.rate

    abbrev b : List Event
    b = unlabelled w.from.history

    same_link : clock.link ≡ link rate b
    same_link = sym w.choice.link ∙ ap (λ (r : ℕ). link r b) w.same_rate

    timed : IsClock d w.from.history clock
    timed = record { same_rate = w.same_rate; same_link = same_link }

    sends : SendsPicked d.shares lists clock x.start x.class x.len x.ticket x.rule
    sends = sends_picked d.shares lists clock x.start x.class x.len x.ticket x.rule w.free w.same_rate w.due

    end_is : x.end ≡ end_of rate (link rate b) x.start x.len
    end_is = w.ends ∙ ap (λ (r : ℕ). end_of r clock.link x.start x.len) w.same_rate ∙ ap (λ (l : Link). end_of rate l x.start x.len) same_link

    -- the end that is kept is that of the sending
    pub kept_end : max (end_of clock.rate clock.link x.start x.len) d.shares.ended ≡ x.end
    kept_end =
        let late = end_later rate b x.start x.len w.from.stood.rate in
        let before = w.from.stood.ended rate refl in
        let at : (link rate b).free ≤ x.start = omega (arith, w.free, ap (λ (l : Link). l.free) same_link) in
        omega (arith, w.ends, end_is, late, before, at)

    choice : choice_of tree rate (situation tree rate b) x.start ≡ record { class = x.class; rule = x.rule }
    choice =
        ap (λ (s : Situation). choice_of tree rate s x.start) (sym (situation_is stands says w.from clock.link same_link))
        ∙ choice_parts (choice_of tree rate (situation_in d.shares lists clock.link) x.start) x.class x.rule sends.of_class sends.of_rule

    waits_here : HasFront (head x.class b) x.len
    waits_here =
        let len : head_len (lists x.class) ≡ Some x.len = front_len (lists x.class) sends.entry sends.front ∙ ap (λ (n : ℕ). Some n) sends.of_len in
        front_of (head x.class b) x.len (sym (shown stands says w.from x.class) ∙ len)

    is_sending : IsSending tree rate b (bare_sending x)
    is_sending = record {
      held = member_from 0 x.class tree (omega arith) (omega (arith, sends.place));
      free = omega (arith, w.free, ap (λ (l : Link). l.free) same_link);
      end = end_is;
      packet = waits_here.packet;
      front = waits_here.front;
      len = waits_here.len;
      choice = choice;
    }

    was_due : WasDue (cbq_of says d) b (bare_sending x)
    was_due = record {
      packet = waits_here.packet;
      front = waits_here.front;
      len = waits_here.len;
      arrived = w.choice.arrived;
      started = w.choice.started;
      first = first_is stands says w.from clock timed x.start w.free ∙ sends.first;
      pick = choice;
    }

    -- credits
    gained_same : (c : ℕ) → gained_by d.shares lists clock x c
        ≡ gained tree rate (situation tree rate b) (candidates tree rate (situation tree rate b) x.start) (rounds_needed tree rate (situation tree rate b) (bare_sending x)) c
    gained_same c =
        ap (λ (s : Situation). gained tree rate s (candidates tree rate s x.start) (rounds_needed tree rate s (bare_sending x)) c)
        (situation_is stands says w.from clock.link same_link)

    credits_same : (emptied : Bool) → emptied ≡ is_none (head x.class (Sent (bare_sending x) ∷ b))
        → slice_set (each (λ c y. gained_by d.shares lists clock x c) tree) x.class (if emptied then 0 else gained_by d.shares lists clock x x.class - x.len)
        ≡ credits tree rate (Sent (bare_sending x) ∷ b)
    credits_same emptied e =
        let f : ℕ → ℕ = gained_by d.shares lists clock x in
        let n : ℕ → ℕ = λ c. gained tree rate (situation tree rate b) (candidates tree rate (situation tree rate b) x.start)
        (rounds_needed tree rate (situation tree rate b) (bare_sending x)) c in
        set_each f (λ c. if emptied then 0 else f c - x.len) tree x.class (if emptied then 0 else f x.class - x.len) sends.place refl
        ∙ each_same (λ c. if eqb x.class c then if emptied then 0 else f c - x.len else f c) (λ c. if eqb x.class c then if emptied then 0 else n c - x.len else n c) 0 tree
        (λ c. ap (λ (v : ℕ). if eqb x.class c then if emptied then 0 else v - x.len else v) (gained_same c))
        ∙ ap (λ (z : Bool). each (λ c y. if eqb x.class c then if z then 0 else n c - x.len else n c) tree) e

    pub sent_stands : (most : Q → ℕ) (rows : ClassQueuesView Q) (after : Shared) (end : ℕ) (emptied : Bool) → SameRow most says d.rows rows → RowRepresents stands rows (sent_of x ∷ w.from.history)
        → emptied ≡ is_none (slice_get (list_in rows x.class) 0) → end ≡ x.end → IsAfter d.shares lists clock x end emptied after
        → Represents stands says (record { shares = after; rows = rows }) (sent_of x ∷ w.from.history)
    sent_stands most rows after end emptied same recorded none e i =
        let g : List Event = Sent (bare_sending x) ∷ b in
        let empty : emptied ≡ is_none (head x.class g) = none ∙ none_shown (list_in rows x.class) (waiting x.class g) (recorded.shown x.class).packets in
        let es : after.estimates ≡ estimates tree g =
        i.estimates ∙ ap (λ (n : ℕ). told_up 8 tree (Some x.class) (record { end = n; len = x.len }) d.shares.estimates) e
        ∙ ap (λ (l : List Estimate). told_up 8 tree (Some x.class) (record { end = x.end; len = x.len }) l) w.from.stood.estimates
        ∙ estimates_after tree b (bare_sending x) w.tree in
        let credited : after.credits ≡ credits tree rate g = i.credits ∙ credits_same emptied empty in
        let turned : after.cursors ≡ cursors tree g = i.cursors ∙ ap (λ (ns : List ℕ). slice_set ns (class_of tree x.class).priority x.class) w.from.stood.cursors in
        let some : 0 < after.rate = omega (arith, w.from.stood.rate, i.rate) in
        let R : ℕ → Type 0 = λ r. IsOrderly (cbq after.tree r (answering says rows)) g in
        let T : List CbqClass → Type 0 = λ cs. IsOrderly (cbq cs rate (answering says rows)) g in
        let O : Answering → Type 0 = λ f. IsOrderly (cbq tree rate f) g in
        let orderly : IsOrderly (cbq tree rate (answering says d.rows)) g = (was_due, w.from.stood.orderly) in
        let S : ℕ → Type 0 = λ r. AreSendings after.tree r g in
        let U : List CbqClass → Type 0 = λ cs. AreSendings cs rate g in
        let classes : classes_in rows ≡ numbers after.tree = same_in most says d.rows rows same ∙ w.from.stood.classes ∙ ap numbers (sym i.tree) in
        record {
          recorded = recorded;
          estimates = es ∙ ap (λ (cs : List CbqClass). estimates cs g) (sym i.tree);
          credits = credited ∙ ap (λ (cs : List CbqClass). credits cs rate g) (sym i.tree) ∙ ap (λ (r : ℕ). credits after.tree r g) (sym i.rate);
          cursors = turned ∙ ap (λ (cs : List CbqClass). cursors cs g) (sym i.tree);
          ended = λ r q.
              let P : ℕ → Type 0 = λ m. after.ended ≤ (link m g).free in
              subst P (sym (q ∙ i.rate)) (omega (arith, i.ended, e, end_is));
          rate = some;
          classes = classes;
          lawful = cbq_lawful after.tree after.rate (answering says rows) some;
          steady = cbq_steady after.tree after.rate (answering says rows) some;
          distinct = distinct_in (record { shares = after; rows = rows }) classes;
          orderly = subst R (sym i.rate) (subst T (sym i.tree) (subst O (sym same.answers) orderly));
          sendings = subst S (sym i.rate) (subst U (sym i.tree) (is_sending, w.from.stood.sendings));
        }

-- lists after the head of one has left
without_sized : (b : Bool) (xs : List Entry) → AreSized xs → AreSized (if b then drop 1 xs else xs)
without_sized true [] a = tt
without_sized true (x ∷ xs) a = a.2
without_sized false xs a = a

pub sent_sized : (class c : ℕ) (lists : ℕ → List Entry) → AreSized (lists c) → AreSized (after_sent class lists c)
sent_sized class c lists a = without_sized (eqb class c) (lists c) a

without_none : (b : Bool) (xs : List Entry) → xs ≡ [] → (if b then drop 1 xs else xs) ≡ []
without_none true xs e = ap (drop 1) e
without_none false xs e = e

pub sent_others : (class c : ℕ) (lists : ℕ → List Entry) → lists c ≡ [] → after_sent class lists c ≡ []
sent_others class c lists e = without_none (eqb class c) (lists c) e

length_all : (f : ℕ → ℕ) (b : ℕ) (cs : List CbqClass) → length (each_from (λ c k. f c) b cs) ≡ length cs
length_all f b [] = refl
length_all f b (k ∷ ks) = let more = length_all f (b + 1) ks in omega (arith, more)

-- what is kept after a sending, and the rows that its packet has left
pub record HasLeft {Q : Type 0} (says : Q → Saying) (d : Ruling Q) (rows : ClassQueuesView Q) (x : Sending) (after : Shared) : Type 0 where
  pub clock : Clock
  pub end : ℕ
  pub emptied : Bool
  pub most : Q → ℕ
  pub kept : IsAfter d.shares (list_in d.rows) clock x end emptied after
  pub same : SameRow most says d.rows rows
  pub lists : (c : ℕ) → list_in rows c ≡ after_sent x.class (list_in d.rows) c

-- the classes keep their form after a sending
pub ruling_after : {Q : Type 0} (says : Q → Saying) (d : Ruling Q) (rows : ClassQueuesView Q) (x : Sending) (after : Shared)
    (k : Sets) (words : List ℕ) (h : HeldBack) → IsRuling d.shares d.rows k → HasLeft says d rows x after
    → AreWaiting words (list_in rows) → marked h.set x.class ≢ 1 → ((c : ℕ) → marked h.set c ≡ 1 → IsUntold k.held.set d.shares.estimates after.estimates c)
    → h.moments ≡ k.held.moments → IsRuling after rows (record { waiting = words; held = h; sets = k.sets; tops = k.tops })
ruling_after says d rows x after k words h r z wait gone untold moments =
    let f : ℕ → ℕ = gained_by d.shares (list_in d.rows) z.clock x in
    let i = z.kept in
    let same = z.same in
    let lists = z.lists in
    let emptied = z.emptied in
    let tree : length after.tree ≡ length d.shares.tree = ap (λ (cs : List CbqClass). length cs) i.tree in
    let S : List Entry → Type 0 = λ xs. AreSized xs in
    let R : List CbqClass → Type 0 = λ cs. AreRings cs k.sets k.tops in
    record {
      first = same.first ∙ r.first;
      count = same.count ∙ r.count ∙ sym tree;
      credit_each = ap (λ (ns : List ℕ). length ns) i.credits
          ∙ length-set (each (λ c k. f c) d.shares.tree) x.class (if emptied then 0 else f x.class - x.len) ∙ length_all f 0 d.shares.tree ∙ sym tree;
      classes = same_in z.most says d.rows rows same ∙ r.classes ∙ ap numbers (sym i.tree);
      sized = λ c. subst S (sym (lists c)) (sent_sized x.class c (list_in d.rows) (r.sized c));
      others = λ c l. lists c ∙ sent_others x.class c (list_in d.rows) (r.others c (omega (arith, l, tree)));
      few = omega (arith, tree, r.few);
      waiting = wait;
      held = sent_held d.shares after x.class (list_in d.rows) (list_in rows) k.held h r.held i.tree i.rate lists gone untold moments;
      rings = subst R (sym i.tree) r.rings;
    }

-- an option is none exactly where it is not some
pub none_of : (o : Option Entry) (b : Bool) → is_some o ≡ not b → b ≡ is_none o
none_of None true e = refl
none_of None false e = absurd (cc)
none_of (Some x) true e = absurd (cc)
none_of (Some x) false e = refl
