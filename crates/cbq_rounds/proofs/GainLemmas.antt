-- The gains of the candidates of a sending, one class after the other.
use Rattle.std.proofs.Common.{◌≡◌, ◌≤◌, ◌<◌, ◌+◌, ◌-◌, ◌*◌, ◌∙◌, inl, inr, ℕ, zero, suc, Bool, true, false, List, [], ◌∷◌, Some, length, get_or, refl, ap, sym, subst, arith, eqb, get_or-set_same, get_or-set_other, length-set}
use Rattle.std.specs.declared.option.Option.{Option}
use Rattle.std.specs.Prelude.{slice_set, if◌then◌else◌, unwrap_or}
use Rattle.std.specs.List.{list_any}
use Rattle.std.proofs.lemmas.Bool.{cases_lt, eq-eqb, eqb-true}
use Rattle.std.proofs.lemmas.Bool.Decides.{nat_tests}
use Rattle.altq_model.specs.Link.{end_of}
use Rattle.altq_model.specs.Play.{IsOneOf}
use Rattle.play_laws.proofs.LinkLemmas.{ceil_grows}
use Rattle.leaf_queue.specs.declared.node.Entry.{Entry}
use Rattle.link_clock.specs.Clock.{Clock}
use Rattle.discipline.specs.declared.pick.Pick.TheVariants.{Send}
use Rattle.discipline.specs.declared.pick.Sending.{Sending}
use Rattle.cbq_model.specs.declared.CbqClass.{CbqClass}
use Rattle.cbq_model.specs.declared.Rank.{Rank}
use Rattle.cbq_model.specs.Choice.{Situation, able, candidates, class_in, credit_in, goes_before, may, picked, rank_in, rounds, rounds_for}
use Rattle.cbq_model.specs.Rounds.{rounds_needed}
use Rattle.cbq_model.specs.Tree.{class_of, each, each_from, numbers, quantum_of}
use Rattle.cbq_model.proofs.Best.{best_of}
use Rattle.cbq_model.proofs.Members.{kept, passes_some, some_passes, was_kept}
use Rattle.cbq_model.proofs.Places.{at_place}
use Rattle.cbq_rounds.specs.Due.{due_in}
use Rattle.cbq_rounds.specs.Gained.{HasGained, gained_by, bare_sending, with_credits, with_gains}
use Rattle.cbq_sharing.specs.declared.lent.Lent.{Lent}
use Rattle.cbq_sharing.specs.Lent.{IsLent}
use Rattle.cbq_sharing.specs.Sent.{with_credit}
use Rattle.cbq_sharing.specs.Shared.{Shared, head_len, may_end, situation_in}
use Rattle.cbq_rounds.proofs.DueLemmas.{SendsPicked, front_len, member_from, sends_picked}
use Rattle.cbq_rounds.proofs.LookLemmas.{waiting_may}
use Rattle.cbq_sharing.proofs.Moments.{head_seen}

-- lists of one length that have the same at each place are the same
pub same_lists : (xs ys : List ℕ) → length xs ≡ length ys → ((i : ℕ) → i < length xs → get_or xs i 0 ≡ get_or ys i 0) → xs ≡ ys
same_lists [] [] l e = refl
same_lists [] (y ∷ ys) l e = absurd (omega arith)
same_lists (x ∷ xs) [] l e = absurd (omega arith)
same_lists (x ∷ xs) (y ∷ ys) l e =
    let more : length xs ≡ length ys = omega arith in
    let here : x ≡ y = e 0 (omega arith) in
    ap (λ (n : ℕ). n ∷ xs) here ∙ ap (λ (ns : List ℕ). y ∷ ns) (same_lists xs ys more (λ i l. e (suc i) (omega (arith, l))))

each_length : (f : ℕ → ℕ) (b : ℕ) (cs : List CbqClass) → length (each_from (λ c k. f c) b cs) ≡ length cs
each_length f b [] = refl
each_length f b (k ∷ ks) = let more = each_length f (b + 1) ks in omega (arith, more)

any_by : (c : ℕ) (xs : List ℕ) (b : Bool) → list_any (λ e. eqb e c) xs ≡ b → (IsOneOf c xs → ⊥) → list_any (λ e. eqb e c) xs ≡ false
any_by c xs true e other =
    let x = some_passes (λ d. eqb d c) xs e in
    let same : x.one ≡ c = eqb-true x.one c x.passes in
    let P : ℕ → Type 0 = λ d. IsOneOf d xs in
    absurd (other (subst P same x.there))
any_by c xs false e other = e

pub not_among : (c : ℕ) (xs : List ℕ) → (IsOneOf c xs → ⊥) → list_any (λ e. eqb e c) xs ≡ false
not_among c xs other = any_by c xs (list_any (λ e. eqb e c) xs) refl other

pub among : (c : ℕ) (xs : List ℕ) → IsOneOf c xs → list_any (λ e. eqb e c) xs ≡ true
among c xs m = passes_some (λ e. eqb e c) c xs m (eq-eqb c c refl)

-- a class that does not go before another of its priority needs no fewer rounds
pub fewer : (a b : Rank) → goes_before a b ≡ false → a.priority ≡ b.priority → b.rounds ≤ a.rounds
fewer a b e p = grind (arith, nat_tests)

module _ (d : Shared) (lists : ℕ → List Entry) (clock : Clock) (x : Sending) where
  abbrev s : Situation
  s = situation_in d lists clock.link

  abbrev ready : List ℕ
  ready = candidates d.tree d.rate s x.start

  abbrev n : ℕ
  n = rounds_needed d.tree d.rate s (bare_sending x)

  abbrev priority : ℕ → ℕ
  priority c = (class_of d.tree c).priority

  -- who is a candidate, and who is not
  pub candidate : (c : ℕ) → IsOneOf c (numbers d.tree) → may d.tree d.rate s c x.start ≡ true
      → priority c ≡ priority (picked d.tree d.rate s x.start) → IsOneOf c ready
  candidate c m able_then p =
      kept (λ k. eqb (priority k) (priority (picked d.tree d.rate s x.start))) c (able d.tree d.rate s x.start)
      (kept (λ k. may d.tree d.rate s k x.start) c (numbers d.tree) m able_then) (eq-eqb (priority c) (priority (picked d.tree d.rate s x.start)) p)

  pub not_able : (c : ℕ) → may d.tree d.rate s c x.start ≡ false → IsOneOf c ready → ⊥
  not_able c other m =
      let a = was_kept (λ k. eqb (priority k) (priority (picked d.tree d.rate s x.start))) c (able d.tree d.rate s x.start) m in
      let b = was_kept (λ k. may d.tree d.rate s k x.start) c (numbers d.tree) a.there in
      let e = b.passes in
      (cc)

  pub other_priority : (c : ℕ) → (priority c ≡ priority (picked d.tree d.rate s x.start) → ⊥) → IsOneOf c ready → ⊥
  other_priority c other m =
      let a = was_kept (λ k. eqb (priority k) (priority (picked d.tree d.rate s x.start))) c (able d.tree d.rate s x.start) m in
      other (eqb-true (priority c) (priority (picked d.tree d.rate s x.start)) a.passes)

  abbrev gain_if : Bool → ℕ → ℕ
  gain_if b c = if b then credit_in s c + n * quantum_of d.rate (class_of d.tree c) else credit_in s c

  pub gains_nothing : (c : ℕ) → (IsOneOf c ready → ⊥) → gained_by d lists clock x c ≡ get_or d.credits c 0
  gains_nothing c other = ap (λ (b : Bool). gain_if b c) (not_among c ready other)

  pub gains_rounds : (c : ℕ) → IsOneOf c ready → gained_by d lists clock x c ≡ get_or d.credits c 0 + n * quantum_of d.rate (class_of d.tree c)
  gains_rounds c m = ap (λ (b : Bool). gain_if b c) (among c ready m)

  -- one class more, which gains nothing
  kept_at : (i c : ℕ) (now : Shared) → HasGained d lists clock x i now → gained_by d lists clock x i ≡ get_or d.credits i 0 → c < i + 1
      → c < length d.tree
      → get_or now.credits c 0 ≡ gained_by d lists clock x c
  kept_at i c now g e l h = elim (cases_lt c i) [
    | inl m ↦ g.done c m h
    | inr m ↦
        let same : c ≡ i = omega (arith, l, m) in
        let P : ℕ → Type 0 = λ k. get_or now.credits k 0 ≡ gained_by d lists clock x k in
        subst P (sym same) (g.rest i (omega arith) ∙ sym e)
  ]

  pub gain_kept : (i : ℕ) (now : Shared) → HasGained d lists clock x i now → gained_by d lists clock x i ≡ get_or d.credits i 0
      → HasGained d lists clock x (i + 1) now
  gain_kept i now g e = record {
    same = g.same;
    count = g.count;
    done = λ c l h. kept_at i c now g e l h;
    rest = λ c l. g.rest c (omega (arith, l));
  }

  -- or which gains
  set_at : (i c v : ℕ) (now : Shared) → HasGained d lists clock x i now → i < length now.credits → v ≡ gained_by d lists clock x i → c < i + 1
      → c < length d.tree
      → get_or (slice_set now.credits i v) c 0 ≡ gained_by d lists clock x c
  set_at i c v now g place e l h = elim (cases_lt c i) [
    | inl m ↦
        let other : c ≡ i → ⊥ = λ q. omega (arith, q, m) in
        rw get_or-set_other (g.done c m h)
    | inr m ↦
        let same : c ≡ i = omega (arith, l, m) in
        let P : ℕ → Type 0 = λ k. get_or (slice_set now.credits i v) k 0 ≡ gained_by d lists clock x k in
        subst P (sym same) (rw get_or-set_same e)
  ]

  set_rest : (i c v : ℕ) (now : Shared) → HasGained d lists clock x i now → i + 1 ≤ c → get_or (slice_set now.credits i v) c 0 ≡ get_or d.credits c 0
  set_rest i c v now g l =
      let other : c ≡ i → ⊥ = λ q. omega (arith, q, l) in
      rw get_or-set_other (g.rest c (omega (arith, l)))

  pub gain_more : (i v : ℕ) (now : Shared) → HasGained d lists clock x i now → i < length d.tree → length d.credits ≡ length d.tree
      → v ≡ gained_by d lists clock x i
      → HasGained d lists clock x (i + 1) (with_credit now i v)
  gain_more i v now g place all e = record {
    same = ap (λ (k : Shared). with_credit k i v) g.same;
    count = length-set now.credits i v ∙ g.count;
    done = λ c l h. set_at i c v now g (omega (arith, g.count, place, all)) e l h;
    rest = λ c l. set_rest i c v now g l;
  }

  -- nothing is left
  pub gain_all_is : (i : ℕ) (now : Shared) → HasGained d lists clock x i now → length d.tree ≤ i → length d.credits ≡ length d.tree
      → now ≡ with_gains d lists clock x
  gain_all_is i now g l all =
      let f : ℕ → ℕ = gained_by d lists clock x in
      let count : length now.credits ≡ length (each (λ c k. f c) d.tree) = g.count ∙ all ∙ sym (each_length f 0 d.tree) in
      let credits : now.credits ≡ each (λ c k. f c) d.tree = same_lists now.credits (each (λ c k. f c) d.tree) count
      (λ c h.
      let low : c < length d.tree = omega (arith, h, g.count, all) in
      g.done c (omega (arith, low, l)) low ∙ sym (at_place (λ e k. f e) d.tree c 0 low)) in
      g.same ∙ ap (with_credits d) credits

  -- what the class that is sent needs, and what a candidate needs
  pub record IsDueNow (i len : ℕ) : Type 0 where
    pub free : clock.link.free ≤ x.start
    pub rate : clock.rate ≡ d.rate
    pub due : due_in d lists clock x.start ≡ Send x.ticket x.class x.len x.rule
    pub place : i < length d.tree
    pub head : head_len (lists i) ≡ Some len
    pub able : may d.tree d.rate s i x.start ≡ true
    pub alike : priority i ≡ priority x.class

  picked_is : (i len : ℕ) → IsDueNow i len → SendsPicked d lists clock x.start x.class x.len x.ticket x.rule
  picked_is i len q = sends_picked d lists clock x.start x.class x.len x.ticket x.rule q.free q.rate q.due

  pub is_candidate : (i len : ℕ) → IsDueNow i len → IsOneOf i ready
  is_candidate i len q =
      let y = picked_is i len q in
      candidate i (member_from 0 i d.tree (omega arith) (omega (arith, q.place))) q.able (q.alike ∙ ap priority (sym y.of_class))

  rounds_of_head : (c len : ℕ) → c < length d.tree → head_len (lists c) ≡ Some len
      → rounds d.tree d.rate s c ≡ rounds_for (get_or d.credits c 0) (quantum_of d.rate (class_of d.tree c)) len
  rounds_of_head c len l e =
      ap (λ (o : Option ℕ). rounds_for (get_or d.credits c 0) (quantum_of d.rate (class_of d.tree c)) (unwrap_or o 0)) (head_seen d lists clock.link c l ∙ e)

  pub few_rounds : (i len : ℕ) → IsDueNow i len
      → rounds_for (get_or d.credits x.class 0) (quantum_of d.rate (class_of d.tree x.class)) x.len ≤ rounds_for (get_or d.credits i 0) (quantum_of d.rate (class_of d.tree i)) len
  few_rounds i len q =
      let y = picked_is i len q in
      let m : IsOneOf i (able d.tree d.rate s x.start) =
      kept (λ k. may d.tree d.rate s k x.start) i (numbers d.tree) (member_from 0 i d.tree (omega arith) (omega (arith, q.place))) q.able in
      let b = best_of d.tree d.rate s i (able d.tree d.rate s x.start) m in
      let one : b.one ≡ x.class = sym (ap class_in b.is) ∙ y.of_class in
      let same : priority i ≡ priority b.one = q.alike ∙ ap priority (sym one) in
      let low = fewer (rank_in d.tree d.rate s i) (rank_in d.tree d.rate s b.one) (b.first i m) same in
      let head : head_len (lists x.class) ≡ Some x.len = front_len (lists x.class) y.entry y.front ∙ ap (λ (n : ℕ). Some n) y.of_len in
      let theirs : rounds d.tree d.rate s b.one ≡ rounds_for (get_or d.credits x.class 0) (quantum_of d.rate (class_of d.tree x.class)) x.len =
      ap (rounds d.tree d.rate s) one ∙ rounds_of_head x.class x.len y.place head in
      omega (arith, low, theirs, rounds_of_head i len q.place q.head)

  -- the class's gain, by what stands
  pub gain_is : (i len now_rounds : ℕ) (now : Shared) → HasGained d lists clock x i now → IsDueNow i len
      → now_rounds ≡ rounds_for (get_or d.credits x.class 0) (quantum_of d.rate (class_of d.tree x.class)) x.len
      → get_or now.credits i 0 + now_rounds * quantum_of now.rate (class_of now.tree i) ≡ gained_by d lists clock x i
  gain_is i len r now g q e =
      ap (λ (k : Shared). get_or now.credits i 0 + r * quantum_of k.rate (class_of k.tree i)) g.same
      ∙ ap (λ (c : ℕ). c + r * quantum_of d.rate (class_of d.tree i)) (g.rest i (omega arith))
      ∙ ap (λ (k : ℕ). get_or d.credits i 0 + k * quantum_of d.rate (class_of d.tree i)) e
      ∙ sym (gains_rounds i (is_candidate i len q))

  -- the same needs, by what stands
  pub few_now : (i len r : ℕ) (now : Shared) → HasGained d lists clock x i now → IsDueNow i len
      → r ≡ rounds_for (get_or d.credits x.class 0) (quantum_of d.rate (class_of d.tree x.class)) x.len
      → r ≤ rounds_for (get_or now.credits i 0) (quantum_of now.rate (class_of now.tree i)) len
  few_now i len r now g q e =
      let same : rounds_for (get_or now.credits i 0) (quantum_of now.rate (class_of now.tree i)) len ≡ rounds_for (get_or d.credits i 0) (quantum_of d.rate (class_of d.tree i)) len =
      ap (λ (k : Shared). rounds_for (get_or now.credits i 0) (quantum_of k.rate (class_of k.tree i)) len) g.same
      ∙ ap (λ (c : ℕ). rounds_for c (quantum_of d.rate (class_of d.tree i)) len) (g.rest i (omega arith)) in
      omega (arith, few_rounds i len q, same, e)

  -- so do a longer packet's
  pub few_longer : (i len most r : ℕ) (now : Shared) → HasGained d lists clock x i now → IsDueNow i len
      → r ≡ rounds_for (get_or d.credits x.class 0) (quantum_of d.rate (class_of d.tree x.class)) x.len → len ≤ most
      → r ≤ rounds_for (get_or now.credits i 0) (quantum_of now.rate (class_of now.tree i)) most
  few_longer i len most r now g q e l =
      let quantum : ℕ = quantum_of now.rate (class_of now.tree i) in
      let credit : ℕ = get_or now.credits i 0 in
      let some : 0 < quantum = omega arith in
      let more = ceil_grows (len - credit) (most - credit) quantum some (omega (arith, l)) in
      omega (arith, few_now i len r now g q e, more)

  -- gains change no answer of a lender
  pub lent_now : (i : ℕ) (now : Shared) (l : Lent) → HasGained d lists clock x i now → IsLent d.tree d.estimates clock x.start l
      → IsLent now.tree now.estimates clock x.start l
  lent_now i now l g e = let P : Shared → Type 0 = λ k. IsLent k.tree k.estimates clock x.start l in subst P (sym g.same) e

  pub lent_by : (i : ℕ) (now : Shared) (l : Lent) → HasGained d lists clock x i now → IsLent now.tree now.estimates clock x.start l
      → IsLent d.tree d.estimates clock x.start l
  lent_by i now l g e = let P : Shared → Type 0 = λ k. IsLent k.tree k.estimates clock x.start l in subst P g.same e

  -- a class that waits, as it is found
  pub record IsLookedAt (i len : ℕ) (now : Shared) : Type 0 where
    pub gone : HasGained d lists clock x i now
    pub free : clock.link.free ≤ x.start
    pub rate : clock.rate ≡ d.rate
    pub due : due_in d lists clock x.start ≡ Send x.ticket x.class x.len x.rule
    pub place : i < length d.tree
    pub head : head_len (lists i) ≡ Some len

  -- whether it may be sent, by what stands
  may_by : (i len : ℕ) (now : Shared) → IsLookedAt i len now
      → may d.tree d.rate s i x.start ≡ may_end now.tree now.estimates (end_of clock.rate clock.link x.start len) len i
  may_by i len now q =
      waiting_may d lists clock x.start i len (record { place = q.place; rate = q.rate; head = q.head })
      ∙ ap (λ (k : Shared). may_end k.tree k.estimates (end_of clock.rate clock.link x.start len) len i) (sym q.gone.same)

  pub due_now : (i len : ℕ) (now : Shared) → IsLookedAt i len now → may_end now.tree now.estimates (end_of clock.rate clock.link x.start len) len i ≡ true
      → priority i ≡ priority x.class → IsDueNow i len
  due_now i len now q passes alike = record {
    free = q.free;
    rate = q.rate;
    due = q.due;
    place = q.place;
    head = q.head;
    able = may_by i len now q ∙ passes;
    alike = alike;
  }

  -- it may not be sent now
  pub held_gains_nothing : (i len : ℕ) (now : Shared) → IsLookedAt i len now
      → may_end now.tree now.estimates (end_of clock.rate clock.link x.start len) len i ≡ false → gained_by d lists clock x i ≡ get_or d.credits i 0
  held_gains_nothing i len now q held = gains_nothing i (not_able i (may_by i len now q ∙ held))

  pub gained_on : (i len r : ℕ) (now after : Shared) → HasGained d lists clock x i now → IsDueNow i len → length d.credits ≡ length d.tree
      → r ≡ rounds_for (get_or d.credits x.class 0) (quantum_of d.rate (class_of d.tree x.class)) x.len
      → after ≡ with_credit now i (get_or now.credits i 0 + r * quantum_of now.rate (class_of now.tree i)) → HasGained d lists clock x (i + 1) after
  gained_on i len r now after g q all e f =
      let P : Shared → Type 0 = λ k. HasGained d lists clock x (i + 1) k in
      subst P (sym f) (gain_more i (get_or now.credits i 0 + r * quantum_of now.rate (class_of now.tree i)) now g q.place all (gain_is i len r now g q e))

  -- where the class sent needs no round, nobody gains
  no_rounds : (b : Bool) (c : ℕ) → n ≡ 0 → get_or d.credits c 0 ≡ gain_if b c
  no_rounds true c e =
      let none : get_or d.credits c 0 + 0 * quantum_of d.rate (class_of d.tree c) ≡ get_or d.credits c 0 = omega arith in
      sym (ap (λ (k : ℕ). get_or d.credits c 0 + k * quantum_of d.rate (class_of d.tree c)) e ∙ none)
  no_rounds false c e = refl

  pub no_gains : (r : ℕ) → r ≡ rounds_for (get_or d.credits x.class 0) (quantum_of d.rate (class_of d.tree x.class)) x.len → r ≡ 0
      → length d.credits ≡ length d.tree → d ≡ with_gains d lists clock x
  no_gains r e none all =
      let needed : n ≡ 0 = sym e ∙ none in
      gain_all_is (length d.tree) d (record {
        same = refl;
        count = refl;
        done = λ c l h. no_rounds (list_any (λ k. eqb k c) ready) c needed;
        rest = λ c l. refl;
      }) (omega arith) all

-- gains pass by the classes that gain nothing
gain_over : (d : Shared) (lists : ℕ → List Entry) (clock : Clock) (x : Sending) (from more : ℕ) (now : Shared) → HasGained d lists clock x from now
    → from + more ≤ length d.tree → ((c : ℕ) → from ≤ c → c < from + more → gained_by d lists clock x c ≡ get_or d.credits c 0)
    → HasGained d lists clock x (from + more) now
gain_over d lists clock x from zero now g l none =
    let P : ℕ → Type 0 = λ n. HasGained d lists clock x n now in
    let same : from ≡ from + 0 = omega arith in
    subst P same g
gain_over d lists clock x from (suc more) now g l none =
    let before = gain_over d lists clock x from more now g (omega (arith, l)) (λ c a b. none c a (omega (arith, b))) in
    let P : ℕ → Type 0 = λ n. HasGained d lists clock x n now in
    let same : from + more + 1 ≡ from + suc more = omega arith in
    subst P same (gain_kept d lists clock x (from + more) now before (none (from + more) (omega arith) (omega arith)))

pub gain_to : (d : Shared) (lists : ℕ → List Entry) (clock : Clock) (x : Sending) (from class : ℕ) (now : Shared) → HasGained d lists clock x from now
    → from ≤ class → class ≤ length d.tree → ((c : ℕ) → from ≤ c → c < class → gained_by d lists clock x c ≡ get_or d.credits c 0)
    → HasGained d lists clock x class now
gain_to d lists clock x from class now g low high none =
    let same : from + (class - from) ≡ class = omega (arith, low) in
    let P : ℕ → Type 0 = λ n. HasGained d lists clock x n now in
    subst P same (gain_over d lists clock x from (class - from) now g (omega (arith, low, high)) (λ c a b. none c a (omega (arith, b, low))))

pub gain_rest : (d : Shared) (lists : ℕ → List Entry) (clock : Clock) (x : Sending) (from : ℕ) (now : Shared) → HasGained d lists clock x from now
    → ((c : ℕ) → from ≤ c → c < length d.tree → gained_by d lists clock x c ≡ get_or d.credits c 0) → length d.credits ≡ length d.tree
    → now ≡ with_gains d lists clock x
gain_rest d lists clock x from now g none all = elim (cases_lt from (length d.tree)) [
  | inl m ↦
      gain_all_is d lists clock x (length d.tree) now (gain_to d lists clock x from (length d.tree) now g (omega (arith, m)) (omega arith) none)
      (omega arith) all
  | inr m ↦ gain_all_is d lists clock x from now g m all
]
