-- The classes that wait, and what stands first in each.
use Rattle.std.proofs.Common.{◌≡◌, ◌≢◌, ◌≤◌, ◌<◌, ◌/◌, ◌%◌, ◌∙◌, inl, inr, ℕ, Bool, true, false, List, [], ◌∷◌, ◌++◌, None, Some, get_or, drop, refl, ap, sym, subst, arith, eqb}
use Rattle.std.specs.declared.option.Option.{Option}
use Rattle.std.specs.Prelude.{◌&&◌, if◌then◌else◌, is_none, option_map, slice_get}
use Rattle.std.proofs.lemmas.Bool.{cases_eq, cases_lt, eq-eqb, ne_eqb}
use Rattle.std.proofs.lemmas.Nat.Bits.{bit_at-lt}
use Rattle.altq_model.specs.declared.Verdict.{Verdict}
use Rattle.altq_model.specs.History.{is_kept}
use Rattle.discipline.specs.Laws.{after_offer, after_sent}
use Rattle.leaf_queue.specs.declared.node.Entry.{Entry}
use Rattle.cbq_sharing.specs.Shared.{head_len}
use Rattle.class_sets.specs.Marked.{marked}
use Rattle.cbq_sharing.specs.Waiting.{AreSized, AreWaiting, waits}

pub few_marked : (words : List ℕ) (c : ℕ) → marked words c ≤ 1
few_marked words c = let few = bit_at-lt (get_or words (c / 64) 0) (c % 64) in omega (arith, few)

-- the length of the packet that stands first
pub head_of : (xs : List Entry) (o : Option Entry) → o ≡ slice_get xs 0 → head_len xs ≡ option_map (λ (x : Entry). x.len) o
head_of xs o e = ap (λ (p : Option Entry). option_map (λ (x : Entry). x.len) p) (sym e)

-- the head of a list that is sized
pub first_sized : (xs : List Entry) (x : Entry) → AreSized xs → slice_get xs 0 ≡ Some x → (1 ≤ x.len) × (x.len ≤ 262144)
first_sized [] x a e = absurd (cc)
first_sized (y ∷ ys) x a e = let P : Entry → Type 0 = λ z. (1 ≤ z.len) × (z.len ≤ 262144) in let same : y ≡ x = cc in subst P same (a.0, a.1)

no_waits : (xs : List Entry) → waits xs ≡ 0 → xs ≡ []
no_waits [] e = refl
no_waits (x ∷ xs) e = absurd (omega (arith, e))

-- nothing waits in a class that is not marked
pub not_marked : (words : List ℕ) (lists : ℕ → List Entry) (c : ℕ) → AreWaiting words lists → marked words c ≡ 0 → lists c ≡ []
not_marked words lists c w e = no_waits (lists c) (sym (w c) ∙ e)

pub no_head : (lists : ℕ → List Entry) (c : ℕ) → lists c ≡ [] → head_len (lists c) ≡ None
no_head lists c e = ap head_len e

-- one that is marked is one of the tree
pub marked_inside : (words : List ℕ) (lists : ℕ → List Entry) (c n : ℕ) → AreWaiting words lists → ((k : ℕ) → n ≤ k → lists k ≡ []) → marked words c ≡ 1 → c < n
marked_inside words lists c n w others e = elim (cases_lt c n) [
  | inl m ↦ m
  | inr m ↦
      let none : marked words c ≡ 0 = w c ∙ ap waits (others c m) in
      absurd (omega (arith, e, none))
]

-- an offer
kept_waits : (xs : List Entry) (x : Entry) → waits (xs ++ x ∷ []) ≡ 1
kept_waits [] x = refl
kept_waits (y ∷ ys) x = refl

offered_here : (v : Verdict) (x : Entry) (xs : List Entry) (b : Bool) (n : ℕ) → is_kept v ≡ b → n ≡ waits xs → (if b then 1 else n) ≡ waits (if b && true then xs ++ x ∷ [] else xs)
offered_here v x xs true n e w = sym (kept_waits xs x)
offered_here v x xs false n e w = w

not_mine : (b : Bool) → (b && false) ≡ false
not_mine true = refl
not_mine false = refl

pub offer_waiting : (v : Verdict) (class : ℕ) (x : Entry) (kept : Bool) (before after : List ℕ) (old new : ℕ → List Entry) → AreWaiting before old
    → ((c : ℕ) → new c ≡ after_offer v class x old c) → kept ≡ is_kept v
    → marked after class ≡ (if kept then 1 else marked before class) → ((c : ℕ) → c ≢ class → marked after c ≡ marked before c) → AreWaiting after new
offer_waiting v class x kept before after old new w lists k here others c = elim (cases_eq c class) [
  | inl e ↦
      let P : ℕ → Type 0 = λ n. marked after n ≡ waits (new n) in
      let mine : eqb class class ≡ true = eq-eqb class class refl in
      subst P (sym e)
      (here ∙ ap (λ (b : Bool). if b then 1 else marked before class) k ∙ offered_here v x (old class) (is_kept v) (marked before class) refl (w class)
      ∙ ap (λ (b : Bool). waits (if is_kept v && b then old class ++ x ∷ [] else old class)) (sym mine) ∙ ap waits (sym (lists class)))
  | inr d ↦
      let other : eqb class c ≡ false = ne_eqb class c (λ e. d (sym e)) in
      others c d ∙ w c ∙ ap (λ (b : Bool). waits (if b then old c ++ x ∷ [] else old c)) (sym (not_mine (is_kept v)))
      ∙ ap (λ (b : Bool). waits (if is_kept v && b then old c ++ x ∷ [] else old c)) (sym other) ∙ ap waits (sym (lists c))
]

-- a sending
taken_here : (xs : List Entry) (b : Bool) (n : ℕ) → n ≡ waits xs → b ≡ is_none (slice_get (drop 1 xs) 0) → (if b then 0 else n) ≡ waits (drop 1 xs)
taken_here [] true n w e = refl
taken_here [] false n w e = w
taken_here (x ∷ []) true n w e = refl
taken_here (x ∷ []) false n w e = absurd (cc)
taken_here (x ∷ y ∷ ys) true n w e = absurd (cc)
taken_here (x ∷ y ∷ ys) false n w e = w

pub sent_waiting : (class : ℕ) (emptied : Bool) (before after : List ℕ) (old new : ℕ → List Entry) → AreWaiting before old
    → ((c : ℕ) → new c ≡ after_sent class old c) → emptied ≡ is_none (slice_get (new class) 0)
    → marked after class ≡ (if emptied then 0 else marked before class) → ((c : ℕ) → c ≢ class → marked after c ≡ marked before c) → AreWaiting after new
sent_waiting class emptied before after old new w lists k here others c = elim (cases_eq c class) [
  | inl e ↦
      let P : ℕ → Type 0 = λ n. marked after n ≡ waits (new n) in
      let mine : eqb class class ≡ true = eq-eqb class class refl in
      let is : new class ≡ drop 1 (old class) = lists class ∙ ap (λ (b : Bool). if b then drop 1 (old class) else old class) mine in
      subst P (sym e)
      (here ∙ taken_here (old class) emptied (marked before class) (w class) (k ∙ ap (λ (xs : List Entry). is_none (slice_get xs 0)) is) ∙ ap waits (sym is))
  | inr d ↦
      let other : eqb class c ≡ false = ne_eqb class c (λ e. d (sym e)) in
      others c d ∙ w c ∙ ap (λ (b : Bool). waits (if b then drop 1 (old c) else old c)) (sym other) ∙ ap waits (sym (lists c))
]
