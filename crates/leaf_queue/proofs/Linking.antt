-- Places, and the lists that pass through them.
use Rattle.std.proofs.Common.{◌≡◌, ◌≤◌, ◌+◌, ◌∙◌, ◌⊎◌, inl, inr, ℕ, zero, suc, Bool, cond, List, [], ◌∷◌, ◌++◌, Some, length, refl, ap, arith, map, eqb}
use Rattle.std.specs.Prelude.{slice_get}
use Rattle.std.proofs.lemmas.Bool.{eq-eqb, ne_eqb}
use Rattle.std.proofs.Math.ListN.{set}
use Rattle.slab.specs.Slab.{Slab}
use Rattle.altq_model.specs.Laws.{occurs}
use Rattle.leaf_queue.specs.declared.node.Entry.{Entry}
use Rattle.leaf_queue.specs.declared.node.Node.{Node}
use Rattle.leaf_queue.specs.declared.node.Row.{Row}
use Rattle.leaf_queue.specs.Linked.{node_at, chain, step, entries_at, row_slots, row_entries, uses, total}

-- how often one number is another
abbrev pub once : (a b : ℕ) → ℕ
once a b = cond (eqb a b) 1 0

pub once_same : (a b : ℕ) → a ≡ b → once a b ≡ 1
once_same a b e = ap (λ (t : Bool). cond t 1 0) (eq-eqb a b e)

pub once_other : (a b : ℕ) → (a ≡ b → ⊥) → once a b ≡ 0
once_other a b n = ap (λ (t : Bool). cond t 1 0) (ne_eqb a b n)

pub occurs_here : (a : ℕ) (xs : List ℕ) → occurs a (a ∷ xs) ≡ 1 + occurs a xs
occurs_here a xs = ap (λ (n : ℕ). n + occurs a xs) (once_same a a refl)

pub occurs_other : (a x : ℕ) (xs : List ℕ) → occurs a (x ∷ xs) ≡ 0 → x ≡ a → ⊥
occurs_other a x xs none e = omega (arith, once_same x a e)

pub occurs-append : (a : ℕ) (xs ys : List ℕ) → occurs a (xs ++ ys) ≡ occurs a xs + occurs a ys
occurs-append a [] ys = omega arith
occurs-append a (x ∷ xs) ys = omega (arith, occurs-append a xs ys)

-- a list's places are among those of all lists, and two lists' places too
pub uses_row : (s : Slab Node) (rows : List Row) (c : ℕ) (r : Row) (slot : ℕ) → slice_get rows c ≡ Some r
    → occurs slot (row_slots s r) ≤ uses s rows slot
uses_row s [] c r slot e = absurd (cc)
uses_row s (x ∷ rows) zero r slot e =
    let same : x ≡ r = cc in
    let n : occurs slot (row_slots s x) ≡ occurs slot (row_slots s r) = ap (λ (y : Row). occurs slot (row_slots s y)) same in
    omega (arith, n)
uses_row s (x ∷ rows) (suc c) r slot e = omega (arith, uses_row s rows c r slot e)

pub uses_two : (s : Slab Node) (rows : List Row) (c d : ℕ) (r x : Row) (slot : ℕ) → slice_get rows c ≡ Some r → slice_get rows d ≡ Some x
    → (d ≡ c → ⊥) → occurs slot (row_slots s r) + occurs slot (row_slots s x) ≤ uses s rows slot
uses_two s [] c d r x slot e i n = absurd (cc)
uses_two s (y ∷ rows) zero zero r x slot e i n = absurd (n refl)
uses_two s (y ∷ rows) zero (suc d) r x slot e i n =
    let same : y ≡ r = cc in
    let m : occurs slot (row_slots s y) ≡ occurs slot (row_slots s r) = ap (λ (z : Row). occurs slot (row_slots s z)) same in
    omega (arith, m, uses_row s rows d x slot i)
uses_two s (y ∷ rows) (suc c) zero r x slot e i n =
    let same : y ≡ x = cc in
    let m : occurs slot (row_slots s y) ≡ occurs slot (row_slots s x) = ap (λ (z : Row). occurs slot (row_slots s z)) same in
    omega (arith, m, uses_row s rows c r slot e)
uses_two s (y ∷ rows) (suc c) (suc d) r x slot e i n =
    omega (arith, uses_two s rows c d r x slot e i (λ (q : d ≡ c). n (ap (λ (k : ℕ). suc k) q)))

pub total_row : (rows : List Row) (c : ℕ) (r : Row) → slice_get rows c ≡ Some r → r.waiting.all ≤ total rows
total_row [] c r e = absurd (cc)
total_row (x ∷ rows) zero r e =
    let same : x ≡ r = cc in
    let n : x.waiting.all ≡ r.waiting.all = ap (λ (y : Row). y.waiting.all) same in
    omega (arith, n)
total_row (x ∷ rows) (suc c) r e = omega (arith, total_row rows c r e)

-- the last place is in the list
pub occurs_step : (s : Slab Node) (slot k : ℕ) → 1 ≤ occurs (step s slot k) (chain s slot (suc k))
occurs_step s slot zero = omega (arith, occurs_here slot [])
occurs_step s slot (suc k) = omega (arith, occurs_step s (node_at s slot).next.0 k)

-- at each of these places the same stands
abbrev pub AllSame : (s t : Slab Node) → List ℕ → Type 0
AllSame s t [] = Unit {0}
AllSame s t (k ∷ ks) = (node_at t k ≡ node_at s k) × AllSame s t ks

-- where only two places have changed, a list that passes neither is the same
pub all_same : (s t : Slab Node) (a b : ℕ) → ((k : ℕ) → (k ≡ a → ⊥) → (k ≡ b → ⊥) → node_at t k ≡ node_at s k)
    → (ks : List ℕ) → occurs a ks ≡ 0 → occurs b ks ≡ 0 → AllSame s t ks
all_same s t a b f [] i j = tt
all_same s t a b f (k ∷ ks) i j = (
  f k (occurs_other a k ks i) (occurs_other b k ks j),
  all_same s t a b f ks (omega arith) (omega arith),
)

pub chain_same : (s t : Slab Node) (slot k : ℕ) → AllSame s t (chain s slot k) → chain t slot k ≡ chain s slot k
chain_same s t slot zero a = refl
chain_same s t slot (suc k) a =
    ap (λ (x : Node). slot ∷ chain t x.next.0 k) a.0 ∙ ap (λ (ks : List ℕ). slot ∷ ks) (chain_same s t (node_at s slot).next.0 k a.1)

pub step_same : (s t : Slab Node) (slot k : ℕ) → AllSame s t (chain s slot k) → step t slot k ≡ step s slot k
step_same s t slot zero a = refl
step_same s t slot (suc k) a =
    ap (λ (x : Node). step t x.next.0 k) a.0 ∙ step_same s t (node_at s slot).next.0 k a.1

pub entries_same : (s t : Slab Node) (ks : List ℕ) → AllSame s t ks → entries_at t ks ≡ entries_at s ks
entries_same s t [] a = refl
entries_same s t (k ∷ ks) a =
    ap (λ (x : Node). x.entry ∷ entries_at t ks) a.0 ∙ ap (λ (xs : List Entry). (node_at s k).entry ∷ xs) (entries_same s t ks a.1)

pub fewer_same : (s t : Slab Node) (slot k : ℕ) → AllSame s t (chain s slot (suc k)) → AllSame s t (chain s slot k)
fewer_same s t slot zero a = tt
fewer_same s t slot (suc k) a = (a.0, fewer_same s t (node_at s slot).next.0 k a.1)

pub row_slots_same : (s t : Slab Node) (r : Row) → AllSame s t (row_slots s r) → row_slots t r ≡ row_slots s r
row_slots_same s t r a = chain_same s t r.first.0 r.waiting.all a

pub row_entries_same : (s t : Slab Node) (r : Row) → AllSame s t (row_slots s r) → row_entries t r ≡ row_entries s r
row_entries_same s t r a = ap (entries_at t) (row_slots_same s t r a) ∙ entries_same s t (row_slots s r) a

pub chain-length : (s : Slab Node) (slot k : ℕ) → length (entries_at s (chain s slot k)) ≡ k
chain-length s slot zero = refl
chain-length s slot (suc k) = omega (arith, chain-length s (node_at s slot).next.0 k)

-- one row has changed
pub set_at : {A : Type 0} (xs : List A) (k j : ℕ) (x y z : A) → slice_get xs k ≡ Some x → slice_get (set xs k y) j ≡ Some z
    → ((j ≡ k) × (z ≡ y)) ⊎ ((j ≡ k → ⊥) × (slice_get xs j ≡ Some z))
set_at [] k j x y z e h = absurd (cc)
set_at (u ∷ xs) zero zero x y z e h = inl (refl, (cc))
set_at (u ∷ xs) zero (suc j) x y z e h = inr ((λ (q : suc j ≡ 0). omega arith), h)
set_at (u ∷ xs) (suc k) zero x y z e h = inr ((λ (q : 0 ≡ suc k). omega arith), h)
set_at {A} (u ∷ xs) (suc k) (suc j) x y z e h = later (set_at xs k j x y z e h)
  where
    later : ((j ≡ k) × (z ≡ y)) ⊎ ((j ≡ k → ⊥) × (slice_get xs j ≡ Some z))
        → ((suc j ≡ suc k) × (z ≡ y)) ⊎ ((suc j ≡ suc k → ⊥) × (slice_get xs j ≡ Some z))
    later (inl p) = inl (ap (λ (i : ℕ). suc i) p.0, p.1)
    later (inr p) = inr ((λ (q : suc j ≡ suc k). p.0 (omega arith)), p.1)

-- each list is as it was
pub uses_same : (s t : Slab Node) (rows : List Row) (slot : ℕ) → ((d : ℕ) (x : Row) → slice_get rows d ≡ Some x → AllSame s t (row_slots s x))
    → uses t rows slot ≡ uses s rows slot
uses_same s t [] slot f = refl
uses_same s t (x ∷ rows) slot f =
    let n : occurs slot (row_slots t x) ≡ occurs slot (row_slots s x) = ap (occurs slot) (row_slots_same s t x (f 0 x refl)) in
    omega (arith, n, uses_same s t rows slot (λ d y e. f (suc d) y e))

pub uses_set : (s t : Slab Node) (rows : List Row) (c : ℕ) (r y : Row) (slot : ℕ) → slice_get rows c ≡ Some r
    → ((d : ℕ) (x : Row) → slice_get rows d ≡ Some x → (d ≡ c → ⊥) → AllSame s t (row_slots s x))
    → uses t (set rows c y) slot + occurs slot (row_slots s r) ≡ uses s rows slot + occurs slot (row_slots t y)
uses_set s t [] c r y slot e f = absurd (cc)
uses_set s t (x ∷ rows) zero r y slot e f =
    let same : x ≡ r = cc in
    let n : occurs slot (row_slots s x) ≡ occurs slot (row_slots s r) = ap (λ (z : Row). occurs slot (row_slots s z)) same in
    omega (arith, n, uses_same s t rows slot (λ d z i. f (suc d) z i (λ (q : suc d ≡ 0). omega arith)))
uses_set s t (x ∷ rows) (suc c) r y slot e f =
    let n : occurs slot (row_slots t x) ≡ occurs slot (row_slots s x) = ap (occurs slot) (row_slots_same s t x (f 0 x refl (λ (q : 0 ≡ suc c). omega arith))) in
    omega (arith, n, uses_set s t rows c r y slot e (λ d z i m. f (suc d) z i (λ (q : suc d ≡ suc c). m (omega arith))))

pub total_set : (rows : List Row) (c : ℕ) (r y : Row) → slice_get rows c ≡ Some r → total (set rows c y) + r.waiting.all ≡ total rows + y.waiting.all
total_set [] c r y e = absurd (cc)
total_set (x ∷ rows) zero r y e =
    let same : x ≡ r = cc in
    let n : x.waiting.all ≡ r.waiting.all = ap (λ (z : Row). z.waiting.all) same in
    omega (arith, n)
total_set (x ∷ rows) (suc c) r y e = omega (arith, total_set rows c r y e)

lists_same : (s t : Slab Node) (rows : List Row) → ((d : ℕ) (x : Row) → slice_get rows d ≡ Some x → AllSame s t (row_slots s x))
    → map (row_entries t) rows ≡ map (row_entries s) rows
lists_same s t [] f = refl
lists_same s t (x ∷ rows) f =
    ap (λ (xs : List Entry). xs ∷ map (row_entries t) rows) (row_entries_same s t x (f 0 x refl))
    ∙ ap (λ (ls : List (List Entry)). row_entries s x ∷ ls) (lists_same s t rows (λ d y e. f (suc d) y e))

pub lists_set : (s t : Slab Node) (rows : List Row) (c : ℕ) (y : Row)
    → ((d : ℕ) (x : Row) → slice_get rows d ≡ Some x → (d ≡ c → ⊥) → AllSame s t (row_slots s x))
    → map (row_entries t) (set rows c y) ≡ set (map (row_entries s) rows) c (row_entries t y)
lists_set s t [] c y f = refl
lists_set s t (x ∷ rows) zero y f =
    ap (λ (ls : List (List Entry)). row_entries t y ∷ ls) (lists_same s t rows (λ d z i. f (suc d) z i (λ (q : suc d ≡ 0). omega arith)))
lists_set s t (x ∷ rows) (suc c) y f =
    ap (λ (xs : List Entry). xs ∷ map (row_entries t) (set rows c y)) (row_entries_same s t x (f 0 x refl (λ (q : 0 ≡ suc c). omega arith)))
    ∙ ap (λ (ls : List (List Entry)). row_entries s x ∷ ls) (lists_set s t rows c y (λ d z i m. f (suc d) z i (λ (q : suc d ≡ suc c). m (omega arith))))
