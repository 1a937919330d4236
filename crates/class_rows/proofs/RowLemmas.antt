-- Classes in a row: their lists, limits and queues.
use Rattle.std.proofs.Common.{◌≡◌, ◌≤◌, ◌<◌, ◌+◌, ◌-◌, ◌∙◌, ◌⊎◌, inl, inr, ℕ, zero, suc, Bool, true, false, cond, List, [], ◌∷◌, Some, length, map, refl, ap, sym, subst, arith, eqb, set, All, replicate, take}
use Rattle.std.specs.Prelude.{slice_get}
use Rattle.std.proofs.lemmas.Bool.{cases_eq, eq-eqb, ne_eqb, eqb-true}
use Rattle.std.proofs.lemmas.List.{set-get_or}
use Rattle.altq_model.specs.declared.Verdict.{Verdict}
use Rattle.altq_model.specs.declared.Verdict.TheVariants.{Keep, Mark, Drop}
use Rattle.altq_model.specs.History.{with_offer}
use Rattle.altq_model.specs.Lawful.{IsOneOf}
use Rattle.altq_model.specs.Laws.{occurs}
use Rattle.leaf_queue.proofs.Linking.{once_same, once_other}
use Rattle.leaf_queue.specs.declared.node.Entry.{Entry}
use Rattle.leaf_queue.specs.Lists.{list_of, total_of}
use Rattle.leaf_queue.specs.Queue.{QueueEvent}
use Rattle.discipline.specs.Laws.{AreDistinct, Shows, tickets, seen, held_in, room_of}
use Rattle.class_rows.specs.Leaf.{after_verdict, HasPrecs}
use Rattle.class_rows.specs.Rows.{Fit, RowsStand, holding, limit_at, limits_of, limits_sum, list_at, most_of}

-- which classes there are
pub record HasClass (class c : ℕ) (hs : List Bool) : Type 0 where
  pub low : c ≤ class
  pub high : class < c + length hs
  pub held : slice_get hs (class - c) ≡ Some true

held_later : (class c : ℕ) (h : Bool) (hs : List Bool) → HasClass class (c + 1) hs → HasClass class c (h ∷ hs)
held_later class c h hs x =
    let n : suc (class - (c + 1)) ≡ class - c = omega (arith, x.low) in
    let P : ℕ → Type 0 = λ k. slice_get (h ∷ hs) k ≡ Some true in
    record { low = omega (arith, x.low); high = omega (arith, x.high); held = subst P n x.held }

pub one_of : (class c : ℕ) (hs : List Bool) → IsOneOf class (holding c hs) → HasClass class c hs
one_of class c [] o = absurd o
one_of class c (true ∷ hs) (inl e) =
    let n : 0 ≡ class - c = omega (arith, e) in
    let P : ℕ → Type 0 = λ k. slice_get (true ∷ hs) k ≡ Some true in
    record { low = omega (arith, e); high = omega (arith, e); held = subst P n refl }
one_of class c (true ∷ hs) (inr o) = held_later class c true hs (one_of class (c + 1) hs o)
one_of class c (false ∷ hs) o = held_later class c false hs (one_of class (c + 1) hs o)

-- the list of a class that has a place
pub list_at-here : (c : ℕ) (lists : List (List Entry)) (k class : ℕ) → k < length lists → c + k ≡ class → list_at c lists class ≡ list_of lists k
list_at-here c [] k class l e = absurd (omega arith)
list_at-here c (xs ∷ lists) zero class l e = ap (λ (b : Bool). cond b xs (list_at (c + 1) lists class)) (eq-eqb c class (omega arith))
list_at-here c (xs ∷ lists) (suc k) class l e =
    ap (λ (b : Bool). cond b xs (list_at (c + 1) lists class)) (ne_eqb c class (λ q. omega arith))
    ∙ list_at-here (c + 1) lists k class (omega arith) (omega arith)

twice : {A : Type 0} (b t : Bool) (x y z : A) → (b ≡ true → t ≡ false) → cond b x (cond t y z) ≡ cond t y (cond b x z)
twice true true x y z f = absurd (let q : true ≡ false = f refl in (cc))
twice true false x y z f = refl
twice false t x y z f = refl

pub list_at-set : (c : ℕ) (lists : List (List Entry)) (k : ℕ) (ys : List Entry) (class : ℕ) → k < length lists
    → list_at c (set lists k ys) class ≡ cond (eqb (c + k) class) ys (list_at c lists class)
list_at-set c [] k ys class l = absurd (omega arith)
list_at-set c (xs ∷ lists) zero ys class l =
    let same : c + 0 ≡ c = omega arith in
    by_test (eqb c class) ∙ ap (λ (n : ℕ). cond (eqb n class) ys (cond (eqb c class) xs (list_at (c + 1) lists class))) (sym same)
  where
    by_test : (b : Bool) → cond b ys (list_at (c + 1) lists class) ≡ cond b ys (cond b xs (list_at (c + 1) lists class))
    by_test true = refl
    by_test false = refl
list_at-set c (xs ∷ lists) (suc k) ys class l =
    let same : c + 1 + k ≡ c + suc k = omega arith in
    ap (λ (zs : List Entry). cond (eqb c class) xs zs) (list_at-set (c + 1) lists k ys class (omega arith))
    ∙ ap (λ (n : ℕ). cond (eqb c class) xs (cond (eqb n class) ys (list_at (c + 1) lists class))) same
    ∙ twice (eqb c class) (eqb (c + suc k) class) xs ys (list_at (c + 1) lists class)
    (λ t. ne_eqb (c + suc k) class (λ q. omega (arith, eqb-true c class t)))

some_case : (c : ℕ) (xs : List Entry) (lists : List (List Entry)) (class : ℕ) (b : Bool) → eqb c class ≡ b
    → 0 < length (cond b xs (list_at (c + 1) lists class))
    → (0 < length (list_at (c + 1) lists class) → (c + 1 ≤ class) × (class < c + 1 + length lists))
    → (c ≤ class) × (class < c + length (xs ∷ lists))
some_case c xs lists class true e m rest = let s = eqb-true c class e in (omega (arith, s), omega (arith, s))
some_case c xs lists class false e m rest = let p = rest m in (omega (arith, p.0), omega (arith, p.1))

-- a class with a list that is not empty has a place
pub some_place : (c : ℕ) (lists : List (List Entry)) (class : ℕ) → 0 < length (list_at c lists class) → (c ≤ class) × (class < c + length lists)
some_place c [] class l = absurd (omega arith)
some_place c (xs ∷ lists) class l = some_case c xs lists class (eqb c class) refl l (λ m. some_place (c + 1) lists class m)

-- any other has an empty list
nothing_else : (c : ℕ) (lists : List (List Entry)) (class : ℕ) (xs : List Entry) → list_at c lists class ≡ xs
    → (c ≤ class → class < c + length lists → ⊥) → list_at c lists class ≡ []
nothing_else c lists class [] e o = e
nothing_else c lists class (x ∷ xs) e o =
    let p = some_place c lists class (omega (arith, ap length e)) in absurd (o p.0 p.1)

pub others_empty : (c : ℕ) (lists : List (List Entry)) (class : ℕ) → (c ≤ class → class < c + length lists → ⊥) → list_at c lists class ≡ []
others_empty c lists class o = nothing_else c lists class (list_at c lists class) refl o

-- what all classes hold
held_same : (c : ℕ) (xs : List Entry) (lists : List (List Entry)) (d : ℕ) (hs : List Bool) → c < d
    → held_in (list_at c (xs ∷ lists)) (holding d hs) ≡ held_in (list_at (c + 1) lists) (holding d hs)
held_same c xs lists d [] l = refl
held_same c xs lists d (true ∷ hs) l =
    let here : list_at c (xs ∷ lists) d ≡ list_at (c + 1) lists d =
    ap (λ (b : Bool). cond b xs (list_at (c + 1) lists d)) (ne_eqb c d (λ q. omega arith)) in
    omega (arith, ap length here, held_same c xs lists (d + 1) hs (omega arith))
held_same c xs lists d (false ∷ hs) l = held_same c xs lists (d + 1) hs (omega arith)

pub held_is : (c : ℕ) (lists : List (List Entry)) (hs : List Bool) → held_in (list_at c lists) (holding c hs) ≤ total_of lists
held_is c [] [] = omega arith
held_is c [] (true ∷ hs) = omega (arith, held_none (c + 1) hs)
  where
    held_none : (d : ℕ) (hs : List Bool) → held_in (list_at c []) (holding d hs) ≡ 0
    held_none d [] = refl
    held_none d (true ∷ hs) = omega (arith, held_none (d + 1) hs)
    held_none d (false ∷ hs) = held_none (d + 1) hs
held_is c [] (false ∷ hs) = held_is (c + 1) [] hs
held_is c (xs ∷ lists) [] = omega arith
held_is c (xs ∷ lists) (true ∷ hs) =
    let here : list_at c (xs ∷ lists) c ≡ xs = ap (λ (b : Bool). cond b xs (list_at (c + 1) lists c)) (eq-eqb c c refl) in
    omega (arith, ap length here, held_same c xs lists (c + 1) hs (omega arith), held_is (c + 1) lists hs)
held_is c (xs ∷ lists) (false ∷ hs) = omega (arith, held_same c xs lists (c + 1) hs (omega arith), held_is (c + 1) lists hs)

room_same : (c m : ℕ) (limits : List ℕ) (d : ℕ) (hs : List Bool) → c < d
    → room_of (limit_at c (m ∷ limits)) (holding d hs) ≡ room_of (limit_at (c + 1) limits) (holding d hs)
room_same c m limits d [] l = refl
room_same c m limits d (true ∷ hs) l =
    let here : limit_at c (m ∷ limits) d ≡ limit_at (c + 1) limits d =
    ap (λ (b : Bool). cond b m (limit_at (c + 1) limits d)) (ne_eqb c d (λ q. omega arith)) in
    omega (arith, here, room_same c m limits (d + 1) hs (omega arith))
room_same c m limits d (false ∷ hs) l = room_same c m limits (d + 1) hs (omega arith)

module _ {Q : Type 0} (most : Q → ℕ) where
  pub room_is : (c : ℕ) (queues : List Q) (hs : List Bool) → length hs ≡ length queues
      → room_of (limit_at c (limits_of most queues hs)) (holding c hs) ≡ limits_sum (limits_of most queues hs)
  room_is c [] [] e = refl
  room_is c [] (h ∷ hs) e = absurd (omega arith)
  room_is c (q ∷ queues) [] e = absurd (omega arith)
  room_is c (q ∷ queues) (true ∷ hs) e =
      let limits : List ℕ = limits_of most queues hs in
      let here : limit_at c (most q ∷ limits) c ≡ most q =
      ap (λ (b : Bool). cond b (most q) (limit_at (c + 1) limits c)) (eq-eqb c c refl) in
      omega (arith, here, room_same c (most q) limits (c + 1) hs (omega arith), room_is (c + 1) queues hs (omega arith))
  room_is c (q ∷ queues) (false ∷ hs) e =
      let limits : List ℕ = limits_of most queues hs in
      omega (arith, room_same c 0 limits (c + 1) hs (omega arith), room_is (c + 1) queues hs (omega arith))

  pub limit_here : (c : ℕ) (queues : List Q) (hs : List Bool) (k class : ℕ) (q : Q) → slice_get queues k ≡ Some q → slice_get hs k ≡ Some true
      → c + k ≡ class → limit_at c (limits_of most queues hs) class ≡ most q
  limit_here c [] hs k class q e t i = absurd (cc)
  limit_here c (p ∷ queues) [] k class q e t i = absurd (cc)
  limit_here c (p ∷ queues) (h ∷ hs) zero class q e t i =
      let same : p ≡ q = cc in
      let held : h ≡ true = cc in
      ap (λ (b : Bool). cond b (most_of most p h) (limit_at (c + 1) (limits_of most queues hs) class)) (eq-eqb c class (omega arith))
      ∙ ap (λ (b : Bool). most_of most p b) held ∙ ap most same
  limit_here c (p ∷ queues) (h ∷ hs) (suc k) class q e t i =
      ap (λ (b : Bool). cond b (most_of most p h) (limit_at (c + 1) (limits_of most queues hs) class)) (ne_eqb c class (λ r. omega arith))
      ∙ limit_here (c + 1) queues hs k class q e t (omega arith)

  pub fit_length : (queues : List Q) (hs : List Bool) (lists : List (List Entry)) → Fit most queues hs lists
      → (length lists ≡ length queues) × (length hs ≡ length queues)
  fit_length [] [] [] f = (refl, refl)
  fit_length [] [] (xs ∷ lists) f = absurd f
  fit_length [] (h ∷ hs) lists f = absurd f
  fit_length (q ∷ queues) [] lists f = absurd f
  fit_length (q ∷ queues) (h ∷ hs) [] f = absurd f
  fit_length (q ∷ queues) (h ∷ hs) (xs ∷ lists) f = let r = fit_length queues hs lists f.2 in (omega (arith, r.0), omega (arith, r.1))

  pub fit_total : (queues : List Q) (hs : List Bool) (lists : List (List Entry)) → Fit most queues hs lists
      → total_of lists ≤ limits_sum (limits_of most queues hs)
  fit_total [] [] [] f = omega arith
  fit_total [] [] (xs ∷ lists) f = absurd f
  fit_total [] (h ∷ hs) lists f = absurd f
  fit_total (q ∷ queues) [] lists f = absurd f
  fit_total (q ∷ queues) (h ∷ hs) [] f = absurd f
  fit_total (q ∷ queues) (h ∷ hs) (xs ∷ lists) f = omega (arith, fit_total queues hs lists f.2, f.0)

  pub fit_less : (queues : List Q) (hs : List Bool) (lists : List (List Entry)) (k : ℕ) (q : Q) → Fit most queues hs lists → slice_get queues k ≡ Some q
      → slice_get hs k ≡ Some true → length (list_of lists k) < most q → total_of lists < limits_sum (limits_of most queues hs)
  fit_less [] hs lists k q f e t l = absurd (cc)
  fit_less (p ∷ queues) [] lists k q f e t l = absurd f
  fit_less (p ∷ queues) (h ∷ hs) [] k q f e t l = absurd f
  fit_less (p ∷ queues) (h ∷ hs) (xs ∷ lists) zero q f e t l =
      let same : p ≡ q = cc in
      let held : h ≡ true = cc in
      let m : most_of most p h ≡ most q = ap (λ (b : Bool). most_of most p b) held ∙ ap most same in
      omega (arith, m, fit_total queues hs lists f.2)
  fit_less (p ∷ queues) (h ∷ hs) (xs ∷ lists) (suc k) q f e t l = omega (arith, fit_less queues hs lists k q f.2 e t l, f.0)

  -- a list is no longer than its queue's limit
  pub most_small : (q : Q) (h : Bool) → most_of most q h ≤ most q
  most_small q true = omega arith
  most_small q false = omega arith

  pub fit_at : (queues : List Q) (hs : List Bool) (lists : List (List Entry)) (k : ℕ) (q : Q) → Fit most queues hs lists → slice_get queues k ≡ Some q
      → (length (list_of lists k) ≤ most q) × HasPrecs (list_of lists k)
  fit_at [] hs lists k q f e = absurd (cc)
  fit_at (p ∷ queues) [] lists k q f e = absurd f
  fit_at (p ∷ queues) (h ∷ hs) [] k q f e = absurd f
  fit_at (p ∷ queues) (h ∷ hs) (xs ∷ lists) zero q f e = let same : p ≡ q = cc in (omega (arith, ap most same, f.0, most_small p h), f.1)
  fit_at (p ∷ queues) (h ∷ hs) (xs ∷ lists) (suc k) q f e = fit_at queues hs lists k q f.2 e

  -- the limit of a changed queue
  set_fits : (b : Bool) (xs ys : List Entry) (o q : Q) (H : Type 0) → length xs ≤ most_of most o b → most q ≡ most o → (H → b ≡ true)
      → (length ys ≤ length xs) ⊎ (H × (length ys ≤ most o)) → length ys ≤ most_of most q b
  set_fits true xs ys o q H l s t (inl m) = omega (arith, l, s, m)
  set_fits true xs ys o q H l s t (inr m) = omega (arith, s, m.1)
  set_fits false xs ys o q H l s t (inl m) = omega (arith, l, m)
  set_fits false xs ys o q H l s t (inr m) = let e : false ≡ true = t m.0 in absurd (cc)

  less_of : {H : Type 0} (xs ys : List Entry) (m n : ℕ) → m ≡ n → (length ys ≤ length xs) ⊎ (H × (length ys ≤ m))
      → (length ys ≤ length xs) ⊎ (H × (length ys ≤ n))
  less_of xs ys m n e (inl l) = inl l
  less_of xs ys m n e (inr l) = inr (l.0, omega (arith, e, l.1))

  -- a list that has as many packets as before or fewer, or is of a queue class
  pub fit_set : (queues : List Q) (hs : List Bool) (lists : List (List Entry)) (k : ℕ) (p q : Q) (ys : List Entry) → Fit most queues hs lists
      → slice_get queues k ≡ Some p → most q ≡ most p → (length ys ≤ length (list_of lists k)) ⊎ ((slice_get hs k ≡ Some true) × (length ys ≤ most p))
      → HasPrecs ys → Fit most (set queues k q) hs (set lists k ys)
  fit_set [] hs lists k p q ys f e s l h = absurd (cc)
  fit_set (o ∷ queues) [] lists k p q ys f e s l h = absurd f
  fit_set (o ∷ queues) (b ∷ hs) [] k p q ys f e s l h = absurd f
  fit_set (o ∷ queues) (b ∷ hs) (xs ∷ lists) zero p q ys f e s l h =
      let same : o ≡ p = cc in
      (set_fits b xs ys o q (slice_get (b ∷ hs) 0 ≡ Some true) f.0 (s ∙ sym (ap most same)) (λ t. cc) (less_of xs ys (most p) (most o) (ap most (sym same)) l), h, f.2)
  fit_set (o ∷ queues) (b ∷ hs) (xs ∷ lists) (suc k) p q ys f e s l h = (f.0, f.1, fit_set queues hs lists k p q ys f.2 e s l h)

-- a function of the queues that a changed queue keeps
pub map_kept : {Q A : Type 0} (f : Q → A) (queues : List Q) (k : ℕ) (p q : Q) → slice_get queues k ≡ Some p → f q ≡ f p → map f (set queues k q) ≡ map f queues
map_kept f [] k p q e s = refl
map_kept f (x ∷ queues) zero p q e s = let same : x ≡ p = cc in ap (λ (y : _). y ∷ map f queues) (s ∙ sym (ap f same))
map_kept f (x ∷ queues) (suc k) p q e s = ap (λ (ys : List _). f x ∷ ys) (map_kept f queues k p q e s)

pub limits_kept : {Q : Type 0} (most : Q → ℕ) (queues : List Q) (hs : List Bool) (k : ℕ) (p q : Q) → slice_get queues k ≡ Some p → most q ≡ most p
    → limits_of most (set queues k q) hs ≡ limits_of most queues hs
limits_kept most [] hs k p q e s = refl
limits_kept most (x ∷ queues) [] zero p q e s = refl
limits_kept most (x ∷ queues) [] (suc k) p q e s = refl
limits_kept most (x ∷ queues) (h ∷ hs) zero p q e s =
    let same : x ≡ p = cc in ap (λ (n : ℕ). n ∷ limits_of most queues hs) (same_most h)
  where
    same_most : (b : Bool) → most_of most q b ≡ most_of most x b
    same_most true = let same : x ≡ p = cc in s ∙ sym (ap most same)
    same_most false = refl
limits_kept most (x ∷ queues) (h ∷ hs) (suc k) p q e s = ap (λ (ns : List ℕ). most_of most x h ∷ ns) (limits_kept most queues hs k p q e s)

-- the lists after an offer are these with one changed
pub after_is : (v : Verdict) (k : ℕ) (x : Entry) (lists : List (List Entry))
    → after_verdict v k x lists ≡ set lists k (with_offer true v x (list_of lists k))
after_is Keep k x lists = refl
after_is Mark k x lists = refl
after_is (Drop r) k x lists = sym (set-get_or lists k [])

-- the sum of one limit more
sum_more : {Q : Type 0} (most : Q → ℕ) (queues : List Q) (hs : List Bool) (k : ℕ) (q : Q) (h : Bool) → slice_get queues k ≡ Some q → slice_get hs k ≡ Some h
    → limits_sum (limits_of most (take (suc k) queues) (take (suc k) hs)) ≡ limits_sum (limits_of most (take k queues) (take k hs)) + most_of most q h
sum_more most [] hs k q h e t = absurd (cc)
sum_more most (p ∷ queues) [] k q h e t = absurd (cc)
sum_more most (p ∷ queues) (b ∷ hs) zero q h e t =
    let same : p ≡ q = cc in
    let held : b ≡ h = cc in
    omega (arith, ap (λ (x : _). most_of most x b) same ∙ ap (λ (c : Bool). most_of most q c) held)
sum_more most (p ∷ queues) (b ∷ hs) (suc k) q h e t = omega (arith, sum_more most queues hs k q h e t)

pub sum_next : {Q : Type 0} (most : Q → ℕ) (queues : List Q) (hs : List Bool) (k : ℕ) (q : Q) (h : Bool) → slice_get queues k ≡ Some q → slice_get hs k ≡ Some h
    → limits_sum (limits_of most (take (k + 1) queues) (take (k + 1) hs)) ≡ limits_sum (limits_of most (take k queues) (take k hs)) + most_of most q h
sum_next most queues hs k q h e t =
    let n : k + 1 ≡ suc k = omega arith in
    ap (λ (m : ℕ). limits_sum (limits_of most (take m queues) (take m hs))) n ∙ sum_more most queues hs k q h e t

pub all_sum : {Q : Type 0} (most : Q → ℕ) (queues : List Q) (hs : List Bool) → length hs ≡ length queues
    → limits_sum (limits_of most (take (length queues) queues) (take (length queues) hs)) ≡ limits_sum (limits_of most queues hs)
all_sum most [] [] e = refl
all_sum most [] (h ∷ hs) e = absurd (omega arith)
all_sum most (q ∷ queues) [] e = absurd (omega arith)
all_sum most (q ∷ queues) (h ∷ hs) e = omega (arith, all_sum most queues hs (omega arith))

-- where every list is empty, all fit
pub fit_none : {Q : Type 0} (most : Q → ℕ) (queues : List Q) (hs : List Bool) → length hs ≡ length queues → Fit most queues hs (replicate (length queues) [])
fit_none most [] [] e = tt
fit_none most [] (h ∷ hs) e = absurd (omega arith)
fit_none most (q ∷ queues) [] e = absurd (omega arith)
fit_none most (q ∷ queues) (h ∷ hs) e = (omega arith, tt, fit_none most queues hs (omega arith))

none_at : (c n class : ℕ) → list_at c (replicate n []) class ≡ []
none_at c zero class = refl
none_at c (suc n) class = by_test (eqb c class) (none_at (c + 1) n class)
  where
    by_test : (b : Bool) → list_at (c + 1) (replicate n []) class ≡ [] → cond b [] (list_at (c + 1) (replicate n []) class) ≡ []
    by_test true e = refl
    by_test false e = e

pub rows_none : {Q : Type 0} (stands : Q → List QueueEvent → Type 0) (c : ℕ) (queues : List Q) → All (λ q. stands q []) queues
    → RowsStand stands c queues (replicate (length queues) []) []
rows_none stands c [] a = tt
rows_none stands c (q ∷ queues) a =
    (refl, a 0 q (omega arith), rows_none stands (c + 1) queues (λ k d l. a (suc k) d (omega arith)))

pub shown_none : (first n : ℕ) (lists : List (List Entry)) → lists ≡ replicate n [] → (c : ℕ) → Shows c (list_at first lists c) []
shown_none first n lists e c =
    let none : list_at first lists c ≡ [] = ap (λ (ls : List (List Entry)). list_at first ls c) e ∙ none_at first n c in
    record { labels = ap tickets none; packets = ap seen none }

-- no class is twice among the queue classes
none_below : (c d : ℕ) (hs : List Bool) → c < d → occurs c (holding d hs) ≡ 0
none_below c d [] l = refl
none_below c d (true ∷ hs) l = omega (arith, once_other d c (λ e. omega arith), none_below c (d + 1) hs (omega arith))
none_below c d (false ∷ hs) l = none_below c (d + 1) hs (omega arith)

pub holding_distinct : (d : ℕ) (hs : List Bool) → AreDistinct (holding d hs)
holding_distinct d [] c = omega arith
holding_distinct d (true ∷ hs) c = elim (cases_eq d c) [
  | inl e ↦ omega (arith, once_same d c e, none_below c (d + 1) hs (omega arith))
  | inr m ↦ omega (arith, once_other d c m, holding_distinct (d + 1) hs c)
]
holding_distinct d (false ∷ hs) c = holding_distinct (d + 1) hs c

-- where every class is a queue class
pub all_limits : {Q : Type 0} (most : Q → ℕ) (queues : List Q) → limits_of most queues (replicate (length queues) true) ≡ map most queues
all_limits most [] = refl
all_limits most (q ∷ queues) = ap (λ (ns : List ℕ). most q ∷ ns) (all_limits most queues)

-- what keeps no number in mind is past none
pub none_is_least : (n : ℕ) → 0 ≤ n
none_is_least n = omega arith
