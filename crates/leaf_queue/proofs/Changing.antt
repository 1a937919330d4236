-- What becomes of linked lists when an entry comes or leaves.
use Rattle.std.proofs.Common.{◌≡◌, ◌≤◌, ◌+◌, ◌-◌, ◌∙◌, ◌⊎◌, inl, inr, ℕ, zero, suc, Bool, true, false, cond, List, [], ◌∷◌, ◌++◌, None, Some, length, refl, ap, sym, subst, arith, map, drop, eqb, length-append}
use Rattle.std.specs.declared.option.Option.{Option}
use Rattle.std.specs.Prelude.{slice_get, unwrap_or, is_some, nat_le}
use Rattle.std.proofs.lemmas.Bool.{eq-eqb, ne_eqb, cases_eq, lt-leb}
use Rattle.std.proofs.Math.ListN.{set}
use Rattle.slab.specs.Slab.{Slab, get, Updates, slab_len}
use Rattle.altq_model.specs.Laws.{occurs}
use Rattle.leaf_queue.specs.declared.node.Entry.{Entry}
use Rattle.leaf_queue.specs.declared.node.Node.{Node}
use Rattle.leaf_queue.specs.declared.node.Row.{Row}
use Rattle.leaf_queue.specs.declared.rule.Waiting.{Waiting}
use Rattle.leaf_queue.specs.Queue.{at_most, waiting_of}
use Rattle.leaf_queue.specs.Lists.{precs_in}
use Rattle.leaf_queue.specs.Linked.{node_at, no_node, chain, step, entries_at, row_slots, row_entries, uses, IsRow, IsLinked, IsCounted, row_after, row_before}
use Rattle.leaf_queue.proofs.Linking.{once_same, once_other, occurs_here, occurs_other, occurs-append, uses_row, uses_two, occurs_step, AllSame, all_same, chain_same, step_same, entries_same, fewer_same, row_entries_same, set_at, uses_set, total_set, lists_set}

-- how often a place holds a node
abbrev pub held : Slab Node → ℕ → ℕ
held s slot = cond (is_some (get s slot)) 1 0

pub held_some : (s : Slab Node) (slot : ℕ) (x : Node) → get s slot ≡ Some x → held s slot ≡ 1
held_some s slot x e = ap (λ (o : Option Node). cond (is_some o) 1 0) e

pub held_none : (s : Slab Node) (slot : ℕ) → get s slot ≡ None → held s slot ≡ 0
held_none s slot e = ap (λ (o : Option Node). cond (is_some o) 1 0) e

one_held : (o : Option Node) → 1 ≤ cond (is_some o) 1 0 → o ≡ Some (unwrap_or o no_node)
one_held None l = absurd (omega arith)
one_held (Some x) l = refl

-- the places of a list that is not empty hold nodes
pub first_held : (s : Slab Node) (rows : List Row) (room c : ℕ) (r : Row) (k : ℕ) → IsLinked s rows room → slice_get rows c ≡ Some r
    → r.waiting.all ≡ suc k → get s r.first.0 ≡ Some (node_at s r.first.0)
first_held s rows room c r k i e n =
    let slots : row_slots s r ≡ chain s r.first.0 (suc k) = ap (chain s r.first.0) n in
    let here : 1 ≤ occurs r.first.0 (chain s r.first.0 (suc k)) = omega (arith, occurs_here r.first.0 (chain s (node_at s r.first.0).next.0 k)) in
    one_held (get s r.first.0) (omega (arith, ap (occurs r.first.0) slots, uses_row s rows c r r.first.0 e, i.each r.first.0))

pub last_held : (s : Slab Node) (rows : List Row) (room c : ℕ) (r : Row) (k : ℕ) → IsLinked s rows room → slice_get rows c ≡ Some r
    → r.waiting.all ≡ suc k → get s r.last.0 ≡ Some (node_at s r.last.0)
last_held s rows room c r k i e n =
    let slots : row_slots s r ≡ chain s r.first.0 (suc k) = ap (chain s r.first.0) n in
    let last : step s r.first.0 k ≡ r.last.0 = (i.row c r e).ends k n in
    let there : occurs (step s r.first.0 k) (chain s r.first.0 (suc k)) ≡ occurs r.last.0 (chain s r.first.0 (suc k)) =
    ap (λ (a : ℕ). occurs a (chain s r.first.0 (suc k))) last in
    one_held (get s r.last.0) (omega (arith, occurs_step s r.first.0 k, there, ap (occurs r.last.0) slots, uses_row s rows c r r.last.0 e, i.each r.last.0))

-- no count of a list is greater than its length
one_more : (t : Bool) (m n : ℕ) → m ≤ n → cond t 1 0 + m ≤ suc n
one_more true m n l = omega arith
one_more false m n l = omega arith

at_most-length : (p : ℕ) (xs : List ℕ) → at_most p xs ≤ length xs
at_most-length p [] = omega arith
at_most-length p (x ∷ xs) = one_more (nat_le x p) (at_most p xs) (length xs) (at_most-length p xs)

pub is_counted : (s : Slab Node) (rows : List Row) (room c : ℕ) (r : Row) → IsLinked s rows room → slice_get rows c ≡ Some r → IsCounted r.waiting
is_counted s rows room c r i e =
    let counts = (i.row c r e).counts in
    let P : Waiting → Type 0 = λ w. IsCounted w in
    subst P (sym counts) (record {
      best = at_most-length 0 (precs_in (row_entries s r));
      middle = at_most-length 1 (precs_in (row_entries s r));
    })

-- a list changes from one row to another, and each place is used or not as before, but for one
rows_after : (s t : Slab Node) (rows : List Row) (c : ℕ) (r y : Row) → slice_get rows c ≡ Some r
    → ((d : ℕ) (x : Row) → slice_get rows d ≡ Some x → IsRow s x) → IsRow t y
    → ((d : ℕ) (x : Row) → slice_get rows d ≡ Some x → (d ≡ c → ⊥) → AllSame s t (row_slots s x))
    → (d : ℕ) (x : Row) → slice_get (set rows c y) d ≡ Some x → IsRow t x
rows_after s t rows c r y e old own f d x i = by_case (set_at rows c d r y x e i)
  where
    by_case : ((d ≡ c) × (x ≡ y)) ⊎ ((d ≡ c → ⊥) × (slice_get rows d ≡ Some x)) → IsRow t x
    by_case (inl p) = let P : Row → Type 0 = λ z. IsRow t z in subst P (sym p.1) own
    by_case (inr p) = kept x (f d x p.1 p.0) (old d x p.1)
      where
        kept : (x : Row) → AllSame s t (row_slots s x) → IsRow s x → IsRow t x
        kept x a o = record {
          ends = λ k n. step_same s t x.first.0 k (fewer_same s t x.first.0 k
              (let P : ℕ → Type 0 = λ m. AllSame s t (chain s x.first.0 m) in subst P n a)) ∙ o.ends k n;
          counts = o.counts ∙ ap (λ (xs : List Entry). waiting_of (precs_in xs)) (sym (row_entries_same s t x a));
        }

abbrev waits : (best middle all : ℕ) → Waiting
waits best middle all = record { best = best; middle = middle; all = all }

same_waits : (a b c x y z : ℕ) → a ≡ x → b ≡ y → c ≡ z → waits a b c ≡ waits x y z
same_waits a b c x y z e f g =
    ap (λ (k : ℕ). waits k b c) e ∙ ap (λ (k : ℕ). waits x k c) f ∙ ap (λ (k : ℕ). waits x y k) g

abbrev bit : Bool → ℕ
bit t = cond t 1 0

zero_test : (p : ℕ) → bit (eqb p 0) ≡ bit (nat_le p 0)
zero_test zero = refl
zero_test (suc p) = ap bit (ne_eqb (suc p) 0 (λ q. omega arith) ∙ sym (lt-leb (suc p) 0 (omega arith)))

-- the counts after a head has left
counts_before : (w : Waiting) (p : ℕ) (ps : List ℕ) → w ≡ waiting_of (p ∷ ps)
    → waits (w.best - cond (eqb p 0) 1 0) (w.middle - cond (nat_le p 1) 1 0) (w.all - 1) ≡ waiting_of ps
counts_before w p ps e =
    let best : w.best ≡ cond (nat_le p 0) 1 0 + at_most 0 ps = ap (λ (v : Waiting). v.best) e in
    let middle : w.middle ≡ cond (nat_le p 1) 1 0 + at_most 1 ps = ap (λ (v : Waiting). v.middle) e in
    let all : w.all ≡ suc (length ps) = ap (λ (v : Waiting). v.all) e in
    same_waits (w.best - cond (eqb p 0) 1 0) (w.middle - cond (nat_le p 1) 1 0) (w.all - 1) (at_most 0 ps) (at_most 1 ps) (length ps)
    (omega (arith, zero_test p)) (omega arith) (omega arith)

at_most-append : (p : ℕ) (xs : List ℕ) (q : ℕ) → at_most p (xs ++ q ∷ []) ≡ at_most p xs + cond (nat_le q p) 1 0
at_most-append p [] q = omega arith
at_most-append p (x ∷ xs) q = omega (arith, at_most-append p xs q)

-- the counts after one more has come
counts_after : (w : Waiting) (ps : List ℕ) (p : ℕ) → w ≡ waiting_of ps
    → waits (w.best + cond (eqb p 0) 1 0) (w.middle + cond (nat_le p 1) 1 0) (w.all + 1) ≡ waiting_of (ps ++ p ∷ [])
counts_after w ps p e =
    let best : w.best ≡ at_most 0 ps = ap (λ (v : Waiting). v.best) e in
    let middle : w.middle ≡ at_most 1 ps = ap (λ (v : Waiting). v.middle) e in
    let all : w.all ≡ length ps = ap (λ (v : Waiting). v.all) e in
    same_waits (w.best + cond (eqb p 0) 1 0) (w.middle + cond (nat_le p 1) 1 0) (w.all + 1)
    (at_most 0 (ps ++ p ∷ [])) (at_most 1 (ps ++ p ∷ [])) (length (ps ++ p ∷ []))
    (omega (arith, zero_test p, at_most-append 0 ps p)) (omega (arith, at_most-append 1 ps p)) (omega (arith, length-append ps (p ∷ [])))

precs-append : (xs : List Entry) (x : Entry) → precs_in (xs ++ x ∷ []) ≡ precs_in xs ++ x.prec ∷ []
precs-append [] x = refl
precs-append (y ∷ xs) x = ap (λ (ps : List ℕ). y.prec ∷ ps) (precs-append xs x)

-- what is so after the head of a list was taken
pub record IsTaken (s t : Slab Node) (rows : List Row) (c : ℕ) (r : Row) (x : Node) (k : ℕ) : Type 0 where
  pub others : (d : ℕ) (y : Row) → slice_get rows d ≡ Some y → (d ≡ c → ⊥) → AllSame s t (row_slots s y)
  pub rest : AllSame s t (chain s x.next.0 k)
  pub slots : row_slots s r ≡ r.first.0 ∷ chain s x.next.0 k
  pub entries : row_entries s r ≡ x.entry ∷ entries_at s (chain s x.next.0 k)
  pub new_slots : row_slots t (row_before r x) ≡ chain s x.next.0 k
  pub new_entries : row_entries t (row_before r x) ≡ entries_at s (chain s x.next.0 k)

pub is_taken : (s t : Slab Node) (rows : List Row) (room c : ℕ) (r : Row) (x : Node) (k : ℕ) → IsLinked s rows room → slice_get rows c ≡ Some r
    → r.waiting.all ≡ suc k → get s r.first.0 ≡ Some x → Updates s t r.first.0 None → IsTaken s t rows c r x k
is_taken s t rows room c r x k i e n h u =
    let f : ℕ = r.first.0 in
    let rest : List ℕ = chain s x.next.0 k in
    let at : node_at s f ≡ x = ap (λ (o : Option Node). unwrap_or o no_node) h in
    let slots : row_slots s r ≡ f ∷ rest = ap (chain s f) n ∙ ap (λ (y : Node). f ∷ chain s y.next.0 k) at in
    let used : occurs f (row_slots s r) ≡ 1 + occurs f rest = ap (occurs f) slots ∙ occurs_here f rest in
    let most : uses s rows f ≡ 1 = i.each f ∙ held_some s f x h in
    let kept : (j : ℕ) → (j ≡ f → ⊥) → (j ≡ f → ⊥) → node_at t j ≡ node_at s j =
    λ j m m'. ap (λ (o : Option Node). unwrap_or o no_node) (u.others j m) in
    let none : occurs f rest ≡ 0 = omega (arith, used, most, uses_row s rows c r f e) in
    let same : AllSame s t rest = all_same s t f f kept rest none none in
    let less : r.waiting.all - 1 ≡ k = omega arith in
    let new : row_slots t (row_before r x) ≡ rest = ap (chain t x.next.0) less ∙ chain_same s t x.next.0 k same in
    record {
      others = λ d y j m. let zero_of : occurs f (row_slots s y) ≡ 0 = omega (arith, used, most, uses_two s rows c d r y f e j m) in
          all_same s t f f kept (row_slots s y) zero_of zero_of;
      rest = same;
      slots = slots;
      entries = ap (entries_at s) slots ∙ ap (λ (y : Node). y.entry ∷ entries_at s rest) at;
      new_slots = new;
      new_entries = ap (entries_at t) new ∙ entries_same s t rest same;
    }

ends_before : (s t : Slab Node) (r : Row) (x : Node) (k j : ℕ) → IsRow s r → r.waiting.all ≡ suc k → get s r.first.0 ≡ Some x → AllSame s t (chain s x.next.0 k)
    → k ≡ suc j → step t x.next.0 j ≡ r.last.0
ends_before s t r x k j o n h a m =
    let at : node_at s r.first.0 ≡ x = ap (λ (q : Option Node). unwrap_or q no_node) h in
    let P : ℕ → Type 0 = λ q. AllSame s t (chain s x.next.0 q) in
    step_same s t x.next.0 j (fewer_same s t x.next.0 j (subst P m a))
    ∙ sym (ap (λ (y : Node). step s y.next.0 j) at)
    ∙ o.ends (suc j) (omega arith)

each_before : (s t : Slab Node) (rows : List Row) (c : ℕ) (r y : Row) (x : Node) (ks : List ℕ) (a : ℕ)
    → ((slot : ℕ) → uses s rows slot ≡ held s slot)
    → ((slot : ℕ) → uses t (set rows c y) slot + occurs slot (row_slots s r) ≡ uses s rows slot + occurs slot (row_slots t y))
    → row_slots s r ≡ a ∷ ks → row_slots t y ≡ ks → get s a ≡ Some x → Updates s t a None
    → (slot : ℕ) → uses t (set rows c y) slot ≡ held t slot
each_before s t rows c r y x ks a old new e f h u slot = by_case (cases_eq a slot)
  where
    by_case : (a ≡ slot) ⊎ (a ≡ slot → ⊥) → uses t (set rows c y) slot ≡ held t slot
    by_case (inl p) =
        let P : ℕ → Type 0 = λ q. uses t (set rows c y) q ≡ held t q in
        subst P p (omega (arith, old a, new a, ap (occurs a) e, ap (occurs a) f, once_same a a refl, held_some s a x h, held_none t a u.changed))
    by_case (inr p) =
        let same : held t slot ≡ held s slot = ap (λ (o : Option Node). cond (is_some o) 1 0) (u.others slot (λ (q : slot ≡ a). p (sym q))) in
        omega (arith, old slot, new slot, ap (occurs slot) e, ap (occurs slot) f, once_other a slot p, same)

pub taken_linked : (s t : Slab Node) (rows : List Row) (room c : ℕ) (r : Row) (x : Node) (k : ℕ) → IsLinked s rows room → slice_get rows c ≡ Some r
    → r.waiting.all ≡ suc k → get s r.first.0 ≡ Some x → Updates s t r.first.0 None → slab_len t + 1 ≡ slab_len s → t.capacity ≡ s.capacity
    → IsLinked t (set rows c (row_before r x)) room
taken_linked s t rows room c r x k i e n h u l p =
    let y : Row = row_before r x in
    let a = is_taken s t rows room c r x k i e n h u in
    let own : IsRow t y = record {
      ends = λ j m. ends_before s t r x k j (i.row c r e) n h a.rest (omega arith);
      counts = counts_before r.waiting x.entry.prec (precs_in (entries_at s (chain s x.next.0 k)))
          ((i.row c r e).counts ∙ ap (λ (xs : List Entry). waiting_of (precs_in xs)) a.entries)
          ∙ ap (λ (xs : List Entry). waiting_of (precs_in xs)) (sym a.new_entries);
    } in
    record {
      each = each_before s t rows c r y x (chain s x.next.0 k) r.first.0 i.each (λ slot. uses_set s t rows c r y slot e a.others) a.slots a.new_slots h u;
      row = rows_after s t rows c r y e i.row own a.others;
      count = omega (arith, total_set rows c r y e, i.count);
      there = omega (arith, i.there);
      small = omega (arith, i.small);
    }

pub taken_lists : (s t : Slab Node) (rows : List Row) (room c : ℕ) (r : Row) (x : Node) (k : ℕ) → IsLinked s rows room → slice_get rows c ≡ Some r
    → r.waiting.all ≡ suc k → get s r.first.0 ≡ Some x → Updates s t r.first.0 None
    → map (row_entries t) (set rows c (row_before r x)) ≡ set (map (row_entries s) rows) c (drop 1 (row_entries s r))
taken_lists s t rows room c r x k i e n h u =
    let a = is_taken s t rows room c r x k i e n h u in
    lists_set s t rows c (row_before r x) a.others
    ∙ ap (set (map (row_entries s) rows) c) (a.new_entries ∙ sym (ap (drop 1) a.entries))

-- what is so after an entry was put at the end of a list, in this place
pub record IsPut (s t : Slab Node) (rows : List Row) (c : ℕ) (r : Row) (a : ℕ) (x : Entry) : Type 0 where
  pub others : (d : ℕ) (y : Row) → slice_get rows d ≡ Some y → (d ≡ c → ⊥) → AllSame s t (row_slots s y)
  pub slots : row_slots t (row_after r (record { 0 = a }) x.prec) ≡ row_slots s r ++ a ∷ []
  pub entries : row_entries t (row_after r (record { 0 = a }) x.prec) ≡ row_entries s r ++ x ∷ []
  pub ends : (k : ℕ) → r.waiting.all + 1 ≡ suc k → step t (row_after r (record { 0 = a }) x.prec).first.0 k ≡ a
  pub fresh : held s a ≡ 0
  pub held_now : held t a ≡ 1
  pub held_others : (slot : ℕ) → (slot ≡ a → ⊥) → held t slot ≡ held s slot

each_after : (s t : Slab Node) (rows : List Row) (c : ℕ) (r y : Row) (a : ℕ)
    → ((slot : ℕ) → uses s rows slot ≡ held s slot)
    → ((slot : ℕ) → uses t (set rows c y) slot + occurs slot (row_slots s r) ≡ uses s rows slot + occurs slot (row_slots t y))
    → row_slots t y ≡ row_slots s r ++ a ∷ [] → held s a ≡ 0 → held t a ≡ 1 → ((slot : ℕ) → (slot ≡ a → ⊥) → held t slot ≡ held s slot)
    → (slot : ℕ) → uses t (set rows c y) slot ≡ held t slot
each_after s t rows c r y a old new e z o f slot = by_case (cases_eq a slot)
  where
    by_case : (a ≡ slot) ⊎ (a ≡ slot → ⊥) → uses t (set rows c y) slot ≡ held t slot
    by_case (inl p) =
        let P : ℕ → Type 0 = λ q. uses t (set rows c y) q ≡ held t q in
        subst P p (omega (arith, old a, new a, ap (occurs a) e, occurs-append a (row_slots s r) (a ∷ []), once_same a a refl, z, o))
    by_case (inr p) =
        omega (arith, old slot, new slot, ap (occurs slot) e, occurs-append slot (row_slots s r) (a ∷ []), once_other a slot p, f slot (λ (q : slot ≡ a). p (sym q)))

pub put_linked : (s t : Slab Node) (rows : List Row) (room c : ℕ) (r : Row) (a : ℕ) (x : Entry) → IsLinked s rows room → slice_get rows c ≡ Some r
    → IsPut s t rows c r a x → slab_len t ≡ slab_len s + 1 → t.capacity ≡ s.capacity
    → IsLinked t (set rows c (row_after r (record { 0 = a }) x.prec)) room
put_linked s t rows room c r a x i e p l q =
    let y : Row = row_after r (record { 0 = a }) x.prec in
    let own : IsRow t y = record {
      ends = λ k m. p.ends k m;
      counts = counts_after r.waiting (precs_in (row_entries s r)) x.prec (i.row c r e).counts
          ∙ ap waiting_of (sym (ap precs_in p.entries ∙ precs-append (row_entries s r) x));
    } in
    record {
      each = each_after s t rows c r y a i.each (λ slot. uses_set s t rows c r y slot e p.others) p.slots p.fresh p.held_now p.held_others;
      row = rows_after s t rows c r y e i.row own p.others;
      count = omega (arith, total_set rows c r y e, i.count);
      there = omega (arith, i.there);
      small = omega (arith, i.small);
    }

pub put_lists : (s t : Slab Node) (rows : List Row) (c : ℕ) (r : Row) (a : ℕ) (x : Entry) → IsPut s t rows c r a x
    → map (row_entries t) (set rows c (row_after r (record { 0 = a }) x.prec)) ≡ set (map (row_entries s) rows) c (row_entries s r ++ x ∷ [])
put_lists s t rows c r a x p =
    lists_set s t rows c (row_after r (record { 0 = a }) x.prec) p.others ∙ ap (set (map (row_entries s) rows) c) p.entries

entries_kept : (s t : Slab Node) (a : ℕ) → ((k : ℕ) → (k ≡ a → ⊥) → (node_at t k).entry ≡ (node_at s k).entry)
    → (ks : List ℕ) → occurs a ks ≡ 0 → entries_at t ks ≡ entries_at s ks
entries_kept s t a f [] z = refl
entries_kept s t a f (k ∷ ks) z =
    ap (λ (x : Entry). x ∷ entries_at t ks) (f k (occurs_other a k ks z))
    ∙ ap (λ (xs : List Entry). (node_at s k).entry ∷ xs) (entries_kept s t a f ks (omega arith))

entries-append : (s : Slab Node) (ks js : List ℕ) → entries_at s (ks ++ js) ≡ entries_at s ks ++ entries_at s js
entries-append s [] js = refl
entries-append s (k ∷ ks) js = ap (λ (xs : List Entry). (node_at s k).entry ∷ xs) (entries-append s ks js)

-- the first entry of a list that was empty
pub put_first : (s t : Slab Node) (rows : List Row) (room c : ℕ) (r : Row) (a : ℕ) (x : Entry) (m : Node) → IsLinked s rows room → slice_get rows c ≡ Some r
    → r.waiting.all ≡ 0 → get s a ≡ None → m.entry ≡ x → Updates s t a (Some m) → IsPut s t rows c r a x
put_first s t rows room c r a x m i e n z q u =
    let y : Row = row_after r (record { 0 = a }) x.prec in
    let one : r.waiting.all + 1 ≡ 1 = omega arith in
    let first : y.first.0 ≡ a = ap (λ (b : Bool). (cond b (record { 0 = a }) r.first).0) (eq-eqb r.waiting.all 0 n) in
    let old : row_slots s r ≡ [] = ap (chain s r.first.0) n in
    let new : row_slots t y ≡ a ∷ [] = ap (chain t y.first.0) one ∙ ap (λ (k : ℕ). k ∷ []) first in
    let at : (node_at t a).entry ≡ x = ap (λ (o : Option Node). (unwrap_or o no_node).entry) u.changed ∙ q in
    let kept : (j : ℕ) → (j ≡ a → ⊥) → (j ≡ a → ⊥) → node_at t j ≡ node_at s j =
    λ j d d'. ap (λ (o : Option Node). unwrap_or o no_node) (u.others j d) in
    record {
      others = λ d w j p. let zero_of : occurs a (row_slots s w) ≡ 0 = omega (arith, uses_row s rows d w a j, i.each a, held_none s a z) in
          all_same s t a a kept (row_slots s w) zero_of zero_of;
      slots = new ∙ ap (λ (ks : List ℕ). ks ++ a ∷ []) (sym old);
      entries = ap (entries_at t) new ∙ ap (λ (w : Entry). w ∷ []) at ∙ ap (λ (ks : List ℕ). entries_at s ks ++ x ∷ []) (sym old);
      ends = λ k l. let k0 : k ≡ 0 = omega arith in ap (step t y.first.0) k0 ∙ first;
      fresh = held_none s a z;
      held_now = held_some t a m u.changed;
      held_others = λ j d. ap (λ (o : Option Node). cond (is_some o) 1 0) (u.others j d);
    }

-- a list goes on from its last place to another
link_chain : (s t : Slab Node) (last a : ℕ) → (node_at t last).next.0 ≡ a → ((j : ℕ) → (j ≡ a → ⊥) → (j ≡ last → ⊥) → node_at t j ≡ node_at s j)
    → (f k : ℕ) → step s f k ≡ last → occurs last (chain s f (suc k)) ≤ 1 → occurs a (chain s f (suc k)) ≡ 0
    → (chain t f (suc (suc k)) ≡ chain s f (suc k) ++ a ∷ []) × (step t f (suc k) ≡ a)
link_chain s t last a n g f zero e o z =
    let next : (node_at t f).next.0 ≡ a = ap (λ (j : ℕ). (node_at t j).next.0) e ∙ n in
    (ap (λ (j : ℕ). f ∷ j ∷ []) next, next)
link_chain s t last a n g f (suc k) e o z =
    let p : ℕ = (node_at s f).next.0 in
    let later : 1 ≤ occurs last (chain s p (suc k)) =
    let P : ℕ → Type 0 = λ j. 1 ≤ occurs j (chain s p (suc k)) in subst P e (occurs_step s p k) in
    let other : f ≡ last → ⊥ = λ q. omega (arith, once_same f last q) in
    let kept : node_at t f ≡ node_at s f = g f (occurs_other a f (chain s p (suc k)) z) other in
    let rest = link_chain s t last a n g p k e (omega arith) (omega arith) in (
      ap (λ (y : Node). f ∷ chain t y.next.0 (suc (suc k))) kept ∙ ap (λ (ks : List ℕ). f ∷ ks) rest.0,
      ap (λ (y : Node). step t y.next.0 (suc k)) kept ∙ rest.1,
    )

-- one more entry of a list that was not empty
pub put_next : (s t : Slab Node) (rows : List Row) (room c : ℕ) (r : Row) (a : ℕ) (x : Entry) (m : Node) (k : ℕ) → IsLinked s rows room → slice_get rows c ≡ Some r
    → r.waiting.all ≡ suc k → get s a ≡ None → m.entry ≡ x → get t a ≡ Some m
    → get t r.last.0 ≡ Some (record (node_at s r.last.0) { next = record { 0 = a } })
    → ((j : ℕ) → (j ≡ a → ⊥) → (j ≡ r.last.0 → ⊥) → get t j ≡ get s j) → IsPut s t rows c r a x
put_next s t rows room c r a x m k i e n z q h l g =
    let y : Row = row_after r (record { 0 = a }) x.prec in
    let f : ℕ = r.first.0 in
    let last : ℕ = r.last.0 in
    let more : r.waiting.all + 1 ≡ suc (suc k) = omega arith in
    let some : r.waiting.all ≡ 0 → ⊥ = λ w. omega arith in
    let first : y.first.0 ≡ f = ap (λ (b : Bool). (cond b (record { 0 = a }) r.first).0) (ne_eqb r.waiting.all 0 some) in
    let old : row_slots s r ≡ chain s f (suc k) = ap (chain s f) n in
    let end : step s f k ≡ last = (i.row c r e).ends k n in
    let was : get s last ≡ Some (node_at s last) = last_held s rows room c r k i e n in
    let there : 1 ≤ occurs last (chain s f (suc k)) =
    let P : ℕ → Type 0 = λ j. 1 ≤ occurs j (chain s f (suc k)) in subst P end (occurs_step s f k) in
    let used : uses s rows last ≡ 1 = i.each last ∙ held_some s last (node_at s last) was in
    let unused : uses s rows a ≡ 0 = i.each a ∙ held_none s a z in
    let kept : (j : ℕ) → (j ≡ a → ⊥) → (j ≡ last → ⊥) → node_at t j ≡ node_at s j =
    λ j d d'. ap (λ (o : Option Node). unwrap_or o no_node) (g j d d') in
    let at : node_at t a ≡ m = ap (λ (o : Option Node). unwrap_or o no_node) h in
    let linked : node_at t last ≡ record (node_at s last) { next = record { 0 = a } } = ap (λ (o : Option Node). unwrap_or o no_node) l in
    let none : occurs a (chain s f (suc k)) ≡ 0 = omega (arith, ap (occurs a) old, uses_row s rows c r a e) in
    let both = link_chain s t last a (ap (λ (w : Node). w.next.0) linked) kept f k end
    (omega (arith, ap (occurs last) old, uses_row s rows c r last e)) none in
    let new : row_slots t y ≡ chain s f (suc k) ++ a ∷ [] =
    ap (chain t y.first.0) more ∙ ap (λ (j : ℕ). chain t j (suc (suc k))) first ∙ both.0 in
    let entry_kept : (j : ℕ) → (j ≡ a → ⊥) → (node_at t j).entry ≡ (node_at s j).entry =
    λ j d. elim (cases_eq j last) [
      | inl p ↦ ap (λ (w : ℕ). (node_at t w).entry) p ∙ ap (λ (w : Node). w.entry) linked ∙ sym (ap (λ (w : ℕ). (node_at s w).entry) p)
      | inr p ↦ ap (λ (w : Node). w.entry) (kept j d p)
    ] in
    let other : a ≡ last → ⊥ = λ p. let same : get s a ≡ Some (node_at s last) = ap (get s) p ∙ was in (cc (z, same)) in
    record {
      others = λ d w j p.
          let z1 : occurs a (row_slots s w) ≡ 0 = omega (arith, uses_row s rows d w a j) in
          let z2 : occurs last (row_slots s w) ≡ 0 = omega (arith, ap (occurs last) old, uses_two s rows c d r w last e j p) in
          all_same s t a last kept (row_slots s w) z1 z2;
      slots = new ∙ ap (λ (ks : List ℕ). ks ++ a ∷ []) (sym old);
      entries = ap (entries_at t) new ∙ entries-append t (chain s f (suc k)) (a ∷ [])
          ∙ ap (λ (xs : List Entry). xs ++ (node_at t a).entry ∷ []) (entries_kept s t a entry_kept (chain s f (suc k)) none)
          ∙ ap (λ (w : Entry). entries_at s (chain s f (suc k)) ++ w ∷ []) (ap (λ (w : Node). w.entry) at ∙ q)
          ∙ ap (λ (ks : List ℕ). entries_at s ks ++ x ∷ []) (sym old);
      ends = λ j w. let k1 : j ≡ suc k = omega arith in
          ap (step t y.first.0) k1 ∙ ap (λ (v : ℕ). step t v (suc k)) first ∙ both.1;
      fresh = held_none s a z;
      held_now = held_some t a m h;
      held_others = λ j d. elim (cases_eq j last) [
        | inl p ↦ let P : ℕ → Type 0 = λ v. held t v ≡ held s v in
            subst P (sym p) (held_some t last (record (node_at s last) { next = record { 0 = a } }) l ∙ sym (held_some s last (node_at s last) was))
        | inr p ↦ ap (λ (o : Option Node). cond (is_some o) 1 0) (g j d p)
      ];
    }
