-- What the pool holds under the tickets of what waits.
use Rattle.std.proofs.Common.{◌≡◌, ◌≤◌, ◌<◌, ◌+◌, ◌∙◌, ℕ, Bool, true, false, cond, List, [], ◌∷◌, ◌++◌, Some, refl, ap, sym, subst, arith}
use Rattle.std.specs.Prelude.{slice_get, ◌==◌, ◌&&◌, nat_lt, nat_le, if◌then◌else◌}
use Rattle.std.proofs.lemmas.Bool.{eq-eqb}
use Rattle.std.proofs.lemmas.Grind.{common_steps}
use Rattle.altq_model.specs.Arrivals.{Captured, arrival}
use Rattle.altq_model.specs.History.{LabelledEvent, without_head}
use Rattle.altq_model.specs.Laws.{occurs}
use Rattle.play_base.specs.declared.packet.Packet.{Packet}
use Rattle.leaf_queue.specs.Pool.{PoolView, packet_of}
use Rattle.play_core.specs.Going.{numbered, Holds, HoldEach}

pub first_occurs : (n : ℕ) (ns : List ℕ) → 0 < occurs n (n ∷ ns)
first_occurs n ns = let t : (n == n) ≡ true = eq-eqb n n refl in let q : occurs n (n ∷ ns) ≡ 1 + occurs n ns = rw t refl in omega (arith, q)

later_occurs : (m n : ℕ) (ns : List ℕ) → 0 < occurs m ns → 0 < occurs m (n ∷ ns)
later_occurs m n ns l = omega (arith, l)

-- each pair is moved
pub each_moves : (arrived later : List Captured) (g k : List LabelledEvent) (pool after : PoolView) (ts ns : List ℕ)
    → ((t n : ℕ) → 0 < occurs n ns → Holds arrived g pool t n → Holds later k after t n) → HoldEach arrived g pool ts ns → HoldEach later k after ts ns
each_moves arrived later g k pool after [] [] f h = tt
each_moves arrived later g k pool after [] (n ∷ ns) f h = h
each_moves arrived later g k pool after (t ∷ ts) [] f h = h
each_moves arrived later g k pool after (t ∷ ts) (n ∷ ns) f h =
    (f t n (first_occurs n ns) h.0, each_moves arrived later g k pool after ts ns (λ u m o x. f u m (later_occurs m n ns o) x) h.1)

each_push : (arrived : List Captured) (g : List LabelledEvent) (pool : PoolView) (ts ns : List ℕ) (t n : ℕ) → HoldEach arrived g pool ts ns → Holds arrived g pool t n
    → HoldEach arrived g pool (ts ++ t ∷ []) (ns ++ n ∷ [])
each_push arrived g pool [] [] t n h x = (x, tt)
each_push arrived g pool [] (m ∷ ns) t n h x = absurd h
each_push arrived g pool (u ∷ ts) [] t n h x = absurd h
each_push arrived g pool (u ∷ ts) (m ∷ ns) t n h x = (h.0, each_push arrived g pool ts ns t n h.1 x)

pub each_if : (arrived : List Captured) (g : List LabelledEvent) (pool : PoolView) (k : Bool) (ts ns : List ℕ) (t n : ℕ) → HoldEach arrived g pool ts ns
    → (k ≡ true → Holds arrived g pool t n) → HoldEach arrived g pool (cond k (ts ++ t ∷ []) ts) (cond k (ns ++ n ∷ []) ns)
each_if arrived g pool true ts ns t n h x = each_push arrived g pool ts ns t n h (x refl)
each_if arrived g pool false ts ns t n h x = h

pub each_rest : (arrived : List Captured) (g : List LabelledEvent) (pool : PoolView) (b : Bool) (ts ns : List ℕ) → HoldEach arrived g pool ts ns
    → HoldEach arrived g pool (without_head b ts) (without_head b ns)
each_rest arrived g pool false ts ns h = h
each_rest arrived g pool true [] [] h = h
each_rest arrived g pool true [] (n ∷ ns) h = absurd h
each_rest arrived g pool true (t ∷ ts) [] h = absurd h
each_rest arrived g pool true (t ∷ ts) (n ∷ ns) h = h.1

-- the number of the first ticket
pub record FrontHeld (arrived : List Captured) (g : List LabelledEvent) (pool : PoolView) (ns : List ℕ) (ticket : ℕ) : Type 0 where
  pub number : ℕ
  pub first : slice_get ns 0 ≡ Some number
  pub holds : Holds arrived g pool ticket number

pub front_held : (arrived : List Captured) (g : List LabelledEvent) (pool : PoolView) (ts ns : List ℕ) (ticket : ℕ) → HoldEach arrived g pool ts ns → slice_get ts 0 ≡ Some ticket
    → FrontHeld arrived g pool ns ticket
front_held arrived g pool [] ns ticket h e = absurd (cc)
front_held arrived g pool (t ∷ ts) [] ticket h e = absurd h
front_held arrived g pool (t ∷ ts) (n ∷ ns) ticket h e =
    let same : t ≡ ticket = cc in
    let P : ℕ → Type 0 = λ u. Holds arrived g pool u n in
    record { number = n; first = refl; holds = subst P same h.0 }

pub first_counts : (n : ℕ) (ns : List ℕ) → slice_get ns 0 ≡ Some n → 0 < occurs n ns
first_counts n [] e = absurd (cc)
first_counts n (m ∷ ns) e = let same : m ≡ n = cc in let P : ℕ → Type 0 = λ k. 0 < occurs k (m ∷ ns) in subst P same (first_occurs m ns)

-- two tickets of different numbers differ
pub other_ticket : (arrived : List Captured) (pool : PoolView) (t u n m : ℕ) → packet_of pool t ≡ Some (numbered n (arrival arrived n)) → packet_of pool u ≡ Some (numbered m (arrival arrived m))
    → (n ≡ m → ⊥) → t ≡ u → ⊥
other_ticket arrived pool t u n m a b d e =
    let x : Some (numbered n (arrival arrived n)) ≡ Some (numbered m (arrival arrived m)) = sym a ∙ ap (packet_of pool) e ∙ b in
    let y : numbered n (arrival arrived n) ≡ numbered m (arrival arrived m) = cc in
    d (ap (λ (q : Packet). q.number) y)

-- what counts once at most is within the count
pub within_count : (n m : ℕ) → 0 < (if nat_lt 0 n && nat_le n m then 1 else 0) → n ≤ m
within_count n m l = grind (arith, common_steps, l)

pub from_one : (n m : ℕ) → 0 < (if nat_lt 0 n && nat_le n m then 1 else 0) → 1 ≤ n
from_one n m l = grind (arith, common_steps, l)

pub count_most : (n m : ℕ) → (if nat_lt 0 n && nat_le n m then 1 else 0) ≤ 1
count_most n m = grind (arith, common_steps)
