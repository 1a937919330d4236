-- Classes in a row: what an offer and a leaving do to the histories that they stand for.
use Rattle.std.proofs.Common.{◌≡◌, ◌≤◌, ◌<◌, ◌+◌, ◌-◌, ◌^◌, ◌∙◌, ◌⊎◌, inl, inr, ℕ, zero, suc, Bool, true, false, cond, List, [], ◌∷◌, ◌++◌, Some, length, map, refl, ap, sym, subst, arith, drop, eqb, set, get_or}
use Rattle.std.specs.declared.option.Option.{Option}
use Rattle.std.specs.Prelude.{slice_get, option_map, unwrap_or, ◌↔◌}
use Rattle.std.proofs.lemmas.Bool.{eq-eqb, ne_eqb, eqb-true}
use Rattle.std.proofs.lemmas.List.{length-set, length-append}
use Rattle.std.proofs.lemmas.Option.{slice_get-map, slice_get-get_or}
use Rattle.altq_model.specs.declared.Reason.TheVariants.{Full}
use Rattle.altq_model.specs.declared.Verdict.{Verdict}
use Rattle.altq_model.specs.declared.Verdict.TheVariants.{Keep, Mark, Drop}
use Rattle.altq_model.specs.History.{Arrival, DrawnWords, Answer, Event, Offered, Sent, LabelledEvent, Sending, unlabelled, waiting, with_offer, without_head}
use Rattle.altq_model.specs.Lawful.{IsOneOf}
use Rattle.leaf_queue.specs.declared.node.Entry.{Entry}
use Rattle.leaf_queue.specs.Lists.{Listed, list_of, precs_in}
use Rattle.leaf_queue.specs.Words.{Drew}
use Rattle.leaf_queue.specs.Queue.{QueueEvent, Enqueued, Saying, by_queue, by_queues, queue_at, told_of, waiting_of, precs_of}
use Rattle.discipline.specs.Laws.{seen, seen_of, after_offer, after_sent, arrival_with, held_in, room_of}
use Rattle.class_rows.specs.Leaf.{after_verdict, gone, HasPrecs}
use Rattle.class_rows.specs.Rows.{Answers, Fit, IsRow, ClassQueuesView, RowsStand, SameRow, RowRepresents, answering, classes_in, limit_at, limit_in, limits_sum, list_at, list_in}
use Rattle.class_rows.proofs.ShowsLemmas.{shows_offered, shows_sent, seen_precs, told_here, told_there, gone_here, gone_there, seen-offer, seen-sent}
use Rattle.class_rows.proofs.RowLemmas.{after_is, fit_at, fit_length, fit_set, fit_total, held_is, limit_here, limits_kept, list_at-here, list_at-set, map_kept, one_of, room_is, some_place}

-- an event changes what waits in one class, and what its queue was told, alone
pub record Others (class : ℕ) (e : Event) (b : List Event) : Type 0 where
  pub waits : (c : ℕ) → (class ≡ c → ⊥) → waiting c (e ∷ b) ≡ waiting c b
  pub recorded : (c : ℕ) → (class ≡ c → ⊥) → told_of c (e ∷ b) ≡ told_of c b

-- the queue of a place
queue_there : {Q : Type 0} (says : Q → Saying) (queues : List Q) (k : ℕ) (q : Q) → slice_get queues k ≡ Some q → queue_at (map says queues) k ≡ says q
queue_there says [] k q e = absurd (cc)
queue_there {Q} says (p ∷ queues) k q e =
    ap (λ (o : Option Saying). unwrap_or o (says p)) (slice_get-map says (p ∷ queues) k ∙ ap (option_map says) e)

-- an offer of an entry to a class with its answer, and the random words before and after it
pub record Offering : Type 0 where
  pub class : ℕ
  pub entry : Entry
  pub now : ℕ
  pub words : DrawnWords
  pub after : DrawnWords
  pub verdict : Verdict

abbrev pub bare_arrival : Offering → Arrival
bare_arrival x = arrival_with x.class x.entry.len x.entry.prec x.now

-- an event of a class and those before it, and the queue and the list that the class has then
record Turn (Q : Type 0) : Type 0 where
  pub class : ℕ
  pub event : Event
  pub before : List Event
  pub queue : Q
  pub list : List Entry

-- it is of that class alone, the list is what waits then, and the queue was told it
record IsTurn {Q : Type 0} (stands : Q → List QueueEvent → Type 0) (x : Turn Q) : Type 0 where
  pub others : Others x.class x.event x.before
  pub waits : seen x.list ≡ seen_of (waiting x.class (x.event ∷ x.before))
  pub recorded : stands x.queue (told_of x.class (x.event ∷ x.before))

module _ {Q : Type 0} (stands : Q → List QueueEvent → Type 0) where
  rows_at : (c : ℕ) (queues : List Q) (lists : List (List Entry)) (b : List Event) (k class : ℕ) (q : Q) → RowsStand stands c queues lists b
      → slice_get queues k ≡ Some q → c + k ≡ class → (seen (list_of lists k) ≡ seen_of (waiting class b)) × stands q (told_of class b)
  rows_at c [] lists b k class q s e n = absurd (cc)
  rows_at c (p ∷ queues) [] b k class q s e n = absurd s
  rows_at c (p ∷ queues) (xs ∷ lists) b zero class q s e n =
      let same : p ≡ q = cc in
      let m : c ≡ class = omega arith in
      let P : ℕ → Type 0 = λ d. seen xs ≡ seen_of (waiting d b) in
      let R : ℕ → Type 0 = λ d. stands p (told_of d b) in
      let S : Q → Type 0 = λ u. stands u (told_of class b) in
      (subst P m s.0, subst S same (subst R m s.1))
  rows_at c (p ∷ queues) (xs ∷ lists) b (suc k) class q s e n = rows_at (c + 1) queues lists b k class q s.2 e (omega arith)

  row_kept : (c class : ℕ) (q : Q) (xs : List Entry) (e : Event) (b : List Event) → Others class e b → (class ≡ c → ⊥) → seen xs ≡ seen_of (waiting c b)
      → stands q (told_of c b) → (seen xs ≡ seen_of (waiting c (e ∷ b))) × stands q (told_of c (e ∷ b))
  row_kept c class q xs e b o n s t =
      let P : List QueueEvent → Type 0 = λ k. stands q k in
      (s ∙ ap seen_of (sym (o.waits c n)), subst P (sym (o.recorded c n)) t)

  rows_kept : (c class : ℕ) (queues : List Q) (lists : List (List Entry)) (e : Event) (b : List Event) → Others class e b → class < c
      → RowsStand stands c queues lists b → RowsStand stands c queues lists (e ∷ b)
  rows_kept c class [] [] e b o l s = tt
  rows_kept c class [] (xs ∷ lists) e b o l s = s
  rows_kept c class (q ∷ queues) [] e b o l s = s
  rows_kept c class (q ∷ queues) (xs ∷ lists) e b o l s =
      let here = row_kept c class q xs e b o (λ n. omega arith) s.0 s.1 in
      (here.0, here.1, rows_kept (c + 1) class queues lists e b o (omega arith) s.2)

  -- one more event of the class at this place
  rows_set : (c : ℕ) (queues : List Q) (lists : List (List Entry)) (k : ℕ) (x : Turn Q) → c + k ≡ x.class → IsTurn stands x
      → RowsStand stands c queues lists x.before → RowsStand stands c (set queues k x.queue) (set lists k x.list) (x.event ∷ x.before)
  rows_set c [] [] k x n t s = tt
  rows_set c [] (xs ∷ lists) k x n t s = absurd s
  rows_set c (p ∷ queues) [] k x n t s = absurd s
  rows_set c (p ∷ queues) (xs ∷ lists) zero x n t s =
      let h : List Event = x.event ∷ x.before in
      let m : x.class ≡ c = omega arith in
      let P : ℕ → Type 0 = λ d. seen x.list ≡ seen_of (waiting d h) in
      let R : ℕ → Type 0 = λ d. stands x.queue (told_of d h) in
      (subst P m t.waits, subst R m t.recorded, rows_kept (c + 1) x.class queues lists x.event x.before t.others (omega arith) s.2)
  rows_set c (p ∷ queues) (xs ∷ lists) (suc k) x n t s =
      let here = row_kept c x.class p xs x.event x.before t.others (λ d. omega arith) s.0 s.1 in
      (here.0, here.1, rows_set (c + 1) queues lists k x (omega arith) t s.2)

offer_stays : (v : Verdict) (x : Arrival) (xs : List Arrival) (m : Bool) → m ≡ false → with_offer m v x xs ≡ xs
offer_stays Keep x xs m e = ap (λ (b : Bool). cond b (xs ++ x ∷ []) xs) e
offer_stays Mark x xs m e = ap (λ (b : Bool). cond b (xs ++ x ∷ []) xs) e
offer_stays (Drop r) x xs m e = refl

others_offered : (a : Arrival) (w : DrawnWords) (s : Answer) (b : List Event) → Others a.class (Offered a w s) b
others_offered a w s b = record {
  waits = λ c n. offer_stays s.verdict a (waiting c b) (eqb a.class c) (ne_eqb a.class c n);
  recorded = λ c n. told_there c b a w s n;
}

others_sent : (s : Sending) (b : List Event) → Others s.class (Sent s) b
others_sent s b = record {
  waits = λ c n. ap (λ (m : Bool). without_head m (waiting c b)) (ne_eqb s.class c n);
  recorded = λ c n. gone_there c b s n;
}

-- the list of each class, where that of one has changed
keep_or : {A : Type 0} (v : Verdict) (x : A) (xs ys : List A) (m : Bool) → (m ≡ true → xs ≡ ys)
    → cond m (with_offer true v x ys) xs ≡ with_offer m v x xs
keep_or v x xs ys true f = ap (with_offer true v x) (sym (f refl))
keep_or Keep x xs ys false f = refl
keep_or Mark x xs ys false f = refl
keep_or (Drop r) x xs ys false f = refl

drop_or : {A : Type 0} (xs ys : List A) (m : Bool) → (m ≡ true → xs ≡ ys) → cond m (drop 1 ys) xs ≡ without_head m xs
drop_or xs ys true f = ap (drop 1) (sym (f refl))
drop_or xs ys false f = refl

lists_offered : (c : ℕ) (lists : List (List Entry)) (k class : ℕ) (v : Verdict) (x : Entry) (d : ℕ) → k < length lists → c + k ≡ class
    → list_at c (set lists k (with_offer true v x (list_of lists k))) d ≡ after_offer v class x (list_at c lists) d
lists_offered c lists k class v x d l e =
    list_at-set c lists k (with_offer true v x (list_of lists k)) d l
    ∙ ap (λ (n : ℕ). cond (eqb n d) (with_offer true v x (list_of lists k)) (list_at c lists d)) e
    ∙ keep_or v x (list_at c lists d) (list_of lists k) (eqb class d)
    (λ t. list_at-here c lists k d l (e ∙ eqb-true class d t))

lists_sent : (c : ℕ) (lists : List (List Entry)) (k class d : ℕ) → k < length lists → c + k ≡ class
    → list_at c (set lists k (drop 1 (list_of lists k))) d ≡ after_sent class (list_at c lists) d
lists_sent c lists k class d l e =
    list_at-set c lists k (drop 1 (list_of lists k)) d l
    ∙ ap (λ (n : ℕ). cond (eqb n d) (drop 1 (list_of lists k)) (list_at c lists d)) e
    ∙ drop_or (list_at c lists d) (list_of lists k) (eqb class d)
    (λ t. list_at-here c lists k d l (e ∙ eqb-true class d t))

mine_offered : (v : Verdict) (x : Entry) (xs : List Entry) (a : Arrival) (c : ℕ) (b : List Event) (w : DrawnWords) (s : Answer) → v ≡ s.verdict → a.class ≡ c
    → x.len ≡ a.len → x.prec ≡ a.prec → seen xs ≡ seen_of (waiting c b) → seen (with_offer true v x xs) ≡ seen_of (waiting c (Offered a w s ∷ b))
mine_offered v x xs a c b w s e m l p h =
    ap (λ (u : Verdict). seen (with_offer true u x xs)) e ∙ seen-offer true s.verdict x xs a (waiting c b) l p h
    ∙ ap (λ (t : Bool). seen_of (with_offer t s.verdict a (waiting c b))) (sym (eq-eqb a.class c m))

mine_sent : (xs : List Entry) (s : Sending) (c : ℕ) (b : List Event) → s.class ≡ c → seen xs ≡ seen_of (waiting c b)
    → seen (drop 1 xs) ≡ seen_of (waiting c (Sent s ∷ b))
mine_sent xs s c b m h =
    seen-sent true xs (waiting c b) h ∙ ap (λ (t : Bool). seen_of (without_head t (waiting c b))) (sym (eq-eqb s.class c m))

-- the place of a class
pub record IsPlace {Q : Type 0} (d : ClassQueuesView Q) (class : ℕ) : Type 0 where
  pub low : d.first ≤ class
  pub there : class - d.first < length d.queues
  pub listed : class - d.first < length d.listed.lists
  pub is : d.first + (class - d.first) ≡ class

abbrev pub IsRowed : {Q : Type 0} → (Q → ℕ) → (room : ℕ) → ClassQueuesView Q → Type 0
IsRowed most room d = IsRow most d.first room d.queues d.holds d.listed

module _ {Q : Type 0} (most : Q → ℕ) (room : ℕ) (d : ClassQueuesView Q) (i : IsRowed most room d) where
  place_of : (class : ℕ) → d.first ≤ class → class < d.first + length d.queues → IsPlace d class
  place_of class low high = record {
    low = low;
    there = omega arith;
    listed = omega (arith, (fit_length most d.queues d.holds d.listed.lists i.fit).0);
    is = omega arith;
  }

  -- a queue class
  pub queue_place : (class : ℕ) → IsOneOf class (classes_in d) → IsPlace d class × (slice_get d.holds (class - d.first) ≡ Some true)
  queue_place class o =
      let x = one_of class d.first d.holds o in
      (place_of class x.low (omega (arith, x.high, (fit_length most d.queues d.holds d.listed.lists i.fit).1)), x.held)

  -- a class in which something waits
  pub waiting_place : (class : ℕ) → 0 < length (list_in d class) → IsPlace d class
  waiting_place class l =
      let x = some_place d.first d.listed.lists class l in
      place_of class x.0 (omega (arith, x.1, (fit_length most d.queues d.holds d.listed.lists i.fit).0))

  pub known_place : (class : ℕ) → d.first ≤ class → class < d.first + length d.queues → IsPlace d class
  known_place = place_of

  pub room_row : room ≡ room_of (limit_in most d) (classes_in d)
  room_row = i.sum ∙ sym (room_is most d.first d.queues d.holds (fit_length most d.queues d.holds d.listed.lists i.fit).1)

  pub within_row : held_in (list_in d) (classes_in d) ≤ room
  within_row = omega (arith, held_is d.first d.listed.lists d.holds, fit_total most d.queues d.holds d.listed.lists i.fit, i.sum)

  pub bounded_row : held_in (list_in d) (classes_in d) ≤ room_of (limit_in most d) (classes_in d)
  bounded_row = omega (arith, within_row, room_row)

-- the queue of a place
pub queue_is : {Q : Type 0} (d : ClassQueuesView Q) (class : ℕ) (q : Q) → IsPlace d class → q ≡ get_or d.queues (class - d.first) q → slice_get d.queues (class - d.first) ≡ Some q
queue_is d class q p e = slice_get-get_or d.queues (class - d.first) q p.there ∙ ap Some (sym e)

-- the head of a class's list
pub head_is : {Q : Type 0} (d : ClassQueuesView Q) (class : ℕ) → IsPlace d class → slice_get (list_of d.listed.lists (class - d.first)) 0 ≡ slice_get (list_in d class) 0
head_is d class p = ap (λ (xs : List Entry). slice_get xs 0) (sym (list_at-here d.first d.listed.lists (class - d.first) class p.listed p.is))

-- the list of a place, after an offer
bounded_after : (v : Verdict) (x : Entry) (xs : List Entry) (most : ℕ) → length xs ≤ most → ((v ≡ Drop Full) ↔ (length xs ≡ most))
    → length (with_offer true v x xs) ≤ most
bounded_after Keep x xs most l f =
    let less : length xs ≡ most → ⊥ = λ e. let full = f.1 e in (cc) in
    omega (arith, less, length-append xs (x ∷ []))
bounded_after Mark x xs most l f =
    let less : length xs ≡ most → ⊥ = λ e. let full = f.1 e in (cc) in
    omega (arith, less, length-append xs (x ∷ []))
bounded_after (Drop r) x xs most l f = l

precs_append : (xs : List Entry) (x : Entry) → HasPrecs xs → x.prec ≤ 2 → HasPrecs (xs ++ x ∷ [])
precs_append [] x h l = (l, tt)
precs_append (y ∷ xs) x h l = (h.0, precs_append xs x h.1 l)

precs_after : (v : Verdict) (xs : List Entry) (x : Entry) → HasPrecs xs → x.prec ≤ 2 → HasPrecs (with_offer true v x xs)
precs_after Keep xs x h l = precs_append xs x h l
precs_after Mark xs x h l = precs_append xs x h l
precs_after (Drop r) xs x h l = h

length_drop : (xs : List Entry) → length (drop 1 xs) ≤ length xs
length_drop [] = omega arith
length_drop (x ∷ xs) = omega arith

precs_drop : (xs : List Entry) → HasPrecs xs → HasPrecs (drop 1 xs)
precs_drop [] h = tt
precs_drop (x ∷ xs) h = h.1

-- the queue that a place had and the one that it has, and the lists then
pub record Swap (Q : Type 0) : Type 0 where
  pub was : Q
  pub is : Q
  pub listed : Listed

-- a row with another queue and other lists
abbrev pub with_row : {Q : Type 0} → ClassQueuesView Q → (k : ℕ) → Q → Listed → ClassQueuesView Q
with_row d k q l = record { first = d.first; queues = set d.queues k q; holds = d.holds; listed = l }

abbrev pub swapped : {Q : Type 0} → ClassQueuesView Q → (class : ℕ) → Swap Q → ClassQueuesView Q
swapped d class o = with_row d (class - d.first) o.is o.listed

-- the queues answer alike and have the same limit, and the lists have the same room
pub record IsSwap {Q : Type 0} (says : Q → Saying) (most : Q → ℕ) (d : ClassQueuesView Q) (k : ℕ) (o : Swap Q) : Type 0 where
  pub there : slice_get d.queues k ≡ Some o.was
  pub same : says o.is ≡ says o.was
  pub limit : most o.is ≡ most o.was
  pub room : o.listed.room ≡ d.listed.room

-- so it is the same row
same_row : {Q : Type 0} (says : Q → Saying) (most : Q → ℕ) (d : ClassQueuesView Q) (k : ℕ) (o : Swap Q) → IsSwap says most d k o
    → SameRow most says d (with_row d k o.is o.listed)
same_row says most d k o i = record {
  first = refl;
  holds = refl;
  count = length-set d.queues k o.is;
  limits = ap (limit_at d.first) (limits_kept most d.queues d.holds k o.was o.is i.there i.limit);
  answers = ap (by_queues d.first) (map_kept says d.queues k o.was o.is i.there i.same);
}

-- and a sound one, where one list alone is another one that may be
row_set : {Q : Type 0} (says : Q → Saying) (most : Q → ℕ) (room : ℕ) (d : ClassQueuesView Q) (k : ℕ) (o : Swap Q) (ys : List Entry) → IsRowed most room d
    → IsSwap says most d k o → o.listed.lists ≡ set d.listed.lists k ys
    → (length ys ≤ length (list_of d.listed.lists k)) ⊎ ((slice_get d.holds k ≡ Some true) × (length ys ≤ most o.was)) → HasPrecs ys
    → IsRowed most room (with_row d k o.is o.listed)
row_set says most room d k o ys i n lists long precs =
    let P : List (List Entry) → Type 0 = λ ls. Fit most (set d.queues k o.is) d.holds ls in
    record {
      fit = subst P (sym lists) (fit_set most d.queues d.holds d.listed.lists k o.was o.is ys i.fit n.there n.limit long precs);
      sum = i.sum ∙ sym (ap limits_sum (limits_kept most d.queues d.holds k o.was o.is n.there n.limit));
      there = omega (arith, i.there, n.room);
      bound = i.bound;
      count_bound = omega (arith, length-set d.queues k o.is, i.count_bound);
    }

-- what a queue answered of an offer to a class with this list, and what it stands for after it
abbrev pub Asks : {Q : Type 0} → (Q → List QueueEvent → Type 0) → (Q → Saying) → (was is : Q) → (list : List Entry) → Offering → Type 0
Asks stands says p q xs o = (t : List QueueEvent) → stands p t → o.words.drawn < 2 ^ 64 - 1
    → (o.verdict ≡ (says p t o.now (waiting_of (precs_in xs)) o.entry.prec o.words).verdict)
    × Drew o.words o.after (says p t o.now (waiting_of (precs_in xs)) o.entry.prec o.words).took
    × stands q (Enqueued o.now (waiting_of (precs_in xs)) o.entry.prec o.words (says p t o.now (waiting_of (precs_in xs)) o.entry.prec o.words) ∷ t)

module _ {Q : Type 0} (stands : Q → List QueueEvent → Type 0) (says : Q → Saying) (most : Q → ℕ) where
  -- all that an offer does
  pub record Offers (room : ℕ) (d e : ClassQueuesView Q) (o : Offering) : Type 0 where
    pub row : IsRowed most room e
    pub lists : (c : ℕ) → list_in e c ≡ after_offer o.verdict o.class o.entry (list_in d) c
    pub full : (o.verdict ≡ Drop Full) ↔ (length (list_in d o.class) ≡ limit_in most d o.class)
    pub recorded : (h : List LabelledEvent) → RowRepresents stands d h → o.words.drawn < 2 ^ 64 - 1
        → Answers stands says d e h o.class o.entry o.now o.words o.verdict o.after
    pub same : SameRow most says d e

  -- an offer to a queue class, which its queue answered
  pub record IsOffered (d : ClassQueuesView Q) (n : Swap Q) (o : Offering) : Type 0 where
    pub place : IsPlace d o.class
    pub held : slice_get d.holds (o.class - d.first) ≡ Some true
    pub swap : IsSwap says most d (o.class - d.first) n
    pub small : o.entry.prec ≤ 2
    pub lists : n.listed.lists ≡ after_verdict o.verdict (o.class - d.first) o.entry d.listed.lists
    pub full : (o.verdict ≡ Drop Full) ↔ (length (list_of d.listed.lists (o.class - d.first)) ≡ most n.was)
    pub asks : Asks stands says n.was n.is (list_of d.listed.lists (o.class - d.first)) o

  pub offers : (room : ℕ) (d : ClassQueuesView Q) (n : Swap Q) (o : Offering) → IsRowed most room d → IsOffered d n o → Offers room d (swapped d o.class n) o
  offers room d n o i f =
      let p : Q = n.was in
      let q : Q = n.is in
      let class : ℕ = o.class in
      let x : Entry = o.entry in
      let now : ℕ = o.now in
      let w : DrawnWords = o.words in
      let z : DrawnWords = o.after in
      let v : Verdict = o.verdict in
      let place = f.place in
      let there = f.swap.there in
      let k : ℕ = class - d.first in
      let xs : List Entry = list_of d.listed.lists k in
      let ys : List Entry = with_offer true v x xs in
      let is : n.listed.lists ≡ set d.listed.lists k ys = f.lists ∙ after_is v k x d.listed.lists in
      let at = fit_at most d.queues d.holds d.listed.lists k p i.fit there in
      let here : list_in d class ≡ xs = list_at-here d.first d.listed.lists k class place.listed place.is in
      let most_is : limit_in most d class ≡ most p = limit_here most d.first d.queues d.holds k class p there f.held place.is in
      let each : (c : ℕ) → list_in (swapped d class n) c ≡ after_offer v class x (list_in d) c =
      λ c. ap (λ (ls : List (List Entry)). list_at d.first ls c) is ∙ lists_offered d.first d.listed.lists k class v x c place.listed place.is in
      record {
        row = row_set says most room d k n ys i f.swap is (inr (f.held, bounded_after v x xs (most p) at.0 f.full)) (precs_after v xs x at.1 f.small);
        lists = each;
        full = (λ e. ap length here ∙ f.full.0 e ∙ sym most_is, λ e. f.full.1 (sym (ap length here) ∙ e ∙ most_is));
        recorded = λ h s few.
            let b : List Event = unlabelled h in
            let a : Arrival = arrival_with class x.len x.prec now in
            let t : List QueueEvent = told_of class b in
            let row = rows_at stands d.first d.queues d.listed.lists b k class p s.rows there place.is in
            let answer : Answer = answering says d b w a in
            let queue : queue_at (map says d.queues) k ≡ says p = queue_there says d.queues k p there in
            let R : Answer → Type 0 = λ j. (v ≡ j.verdict) × Drew w z j.took × stands q (Enqueued now (waiting_of (precs_of (waiting class b))) x.prec w j ∷ t) in
            let F : List ℕ → Type 0 = λ ps.
            (v ≡ (says p t now (waiting_of ps) x.prec w).verdict) × Drew w z (says p t now (waiting_of ps) x.prec w).took
            × stands q (Enqueued now (waiting_of ps) x.prec w (says p t now (waiting_of ps) x.prec w) ∷ t) in
            let r0 = subst F (seen_precs xs (waiting class b) row.0) (f.asks t row.1 few) in
            let S : Saying → Type 0 = λ y. R (by_queue y b w a) in
            let r = subst S (sym queue) r0 in
            let T : List QueueEvent → Type 0 = λ u. stands q u in
            let L : List (List Entry) → Type 0 = λ ls. RowsStand stands d.first (set d.queues k q) ls (Offered a w answer ∷ b) in
            let turn : Turn Q = record { class = class; event = Offered a w answer; before = b; queue = q; list = ys } in
            record {
              verdict = r.0;
              words = r.1;
              recorded = record {
                shown = shows_offered (list_in d) (list_in (swapped d class n)) h x a w answer v s.shown r.0 refl refl each;
                rows = subst L (sym is) (rows_set stands d.first d.queues d.listed.lists k turn place.is (record {
                  others = others_offered a w answer b;
                  waits = mine_offered v x xs a class b w answer r.0 refl refl refl row.0;
                  recorded = subst T (sym (told_here class b a w answer refl)) r.2;
                }) s.rows);
              };
            };
        same = same_row says most d k n f.swap;
      }

  -- all that the leaving of a head does
  pub record Leaves (room : ℕ) (d e : ClassQueuesView Q) (class now : ℕ) : Type 0 where
    pub row : IsRowed most room e
    pub lists : (c : ℕ) → list_in e c ≡ after_sent class (list_in d) c
    pub recorded : (h : List LabelledEvent) → RowRepresents stands d h → (n : ℕ) (s : Sending) → s.class ≡ class → s.start ≡ now
        → RowRepresents stands e (record { label = n; what = Sent s } ∷ h)
    pub same : SameRow most says d e

  -- the head of a class left, and its queue was told
  pub record IsLeft (d : ClassQueuesView Q) (class now : ℕ) (n : Swap Q) : Type 0 where
    pub place : IsPlace d class
    pub swap : IsSwap says most d (class - d.first) n
    pub lists : n.listed.lists ≡ set d.listed.lists (class - d.first) (drop 1 (list_of d.listed.lists (class - d.first)))
    pub goes : (t : List QueueEvent) → stands n.was t → stands n.is (gone now (list_of d.listed.lists (class - d.first)) t)

  pub leaves : (room : ℕ) (d : ClassQueuesView Q) (class now : ℕ) (n : Swap Q) → IsRowed most room d → IsLeft d class now n → Leaves room d (swapped d class n) class now
  leaves room d class now n i f =
      let q : Q = n.is in
      let place = f.place in
      let there = f.swap.there in
      let k : ℕ = class - d.first in
      let xs : List Entry = list_of d.listed.lists k in
      let at = fit_at most d.queues d.holds d.listed.lists k n.was i.fit there in
      let each : (c : ℕ) → list_in (swapped d class n) c ≡ after_sent class (list_in d) c =
      λ c. ap (λ (ls : List (List Entry)). list_at d.first ls c) f.lists ∙ lists_sent d.first d.listed.lists k class c place.listed place.is in
      record {
        row = row_set says most room d k n (drop 1 xs) i f.swap f.lists (inl (length_drop xs)) (precs_drop xs at.1);
        lists = each;
        recorded = λ h y m s is start.
            let b : List Event = unlabelled h in
            let row = rows_at stands d.first d.queues d.listed.lists b k class n.was y.rows there place.is in
            let T : List QueueEvent → Type 0 = λ t. stands q t in
            let N : ℕ → Type 0 = λ u. stands q (gone u xs (told_of class b)) in
            let L : List (List Entry) → Type 0 = λ ls. RowsStand stands d.first (set d.queues k q) ls (Sent s ∷ b) in
            let C : ℕ → Type 0 = λ c. Others c (Sent s) b in
            let turn : Turn Q = record { class = class; event = Sent s; before = b; queue = q; list = drop 1 xs } in
            record {
              shown = shows_sent (list_in d) (list_in (swapped d class n)) h m s y.shown
                  (λ c. each c ∙ ap (λ (u : ℕ). after_sent u (list_in d) c) (sym is));
              rows = subst L (sym f.lists) (rows_set stands d.first d.queues d.listed.lists k turn place.is (record {
                others = subst C is (others_sent s b);
                waits = mine_sent xs s class b is row.0;
                recorded = subst T (sym (gone_here class b s xs is row.0)) (subst N (sym start) (f.goes (told_of class b) row.1));
              }) y.rows);
            };
        same = same_row says most d k n f.swap;
      }
