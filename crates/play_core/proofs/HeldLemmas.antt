-- How many entries the lists of a discipline hold.
use Rattle.std.proofs.Common.{◌≡◌, ◌≤◌, ◌<◌, ◌+◌, ◌∙◌, inl, inr, ℕ, Bool, true, false, cond, List, [], ◌∷◌, ◌++◌, length, length-append, refl, ap, sym, arith}
use Rattle.std.specs.Prelude.{◌==◌, ◌&&◌, drop}
use Rattle.std.proofs.lemmas.Bool.{eqb-true, eq-eqb, ne_eqb}
use Rattle.altq_model.specs.declared.Verdict.{Verdict}
use Rattle.altq_model.specs.History.{is_kept}
use Rattle.altq_model.specs.Lawful.{IsOneOf}
use Rattle.altq_model.specs.Laws.{occurs}
use Rattle.leaf_queue.specs.declared.node.Entry.{Entry}
use Rattle.discipline.specs.Laws.{AreDistinct, after_offer, after_sent, held_in, tickets}
use Rattle.play_core.specs.Going.{one_kept}

pub held_same : (old new : ℕ → List Entry) (cs : List ℕ) → ((c : ℕ) → new c ≡ old c) → held_in new cs ≡ held_in old cs
held_same old new [] e = refl
held_same old new (c ∷ cs) e = omega (arith, ap (λ (l : List Entry). length l) (e c), held_same old new cs e)

no_tickets : (xs : List Entry) → tickets xs ≡ [] → xs ≡ []
no_tickets [] e = refl
no_tickets (x ∷ xs) e = absurd (cc)

pub held_none : (lists : ℕ → List Entry) (cs : List ℕ) → ((c : ℕ) → tickets (lists c) ≡ []) → held_in lists cs ≡ 0
held_none lists [] e = refl
held_none lists (c ∷ cs) e = omega (arith, ap (λ (l : List Entry). length l) (no_tickets (lists c) (e c)), held_none lists cs e)

-- where a class is not among these, its list does not count
not_here : (class c : ℕ) (cs : List ℕ) → occurs class (c ∷ cs) ≤ 0 → (b : Bool) → (c == class) ≡ b → (c ≡ class) → ⊥
not_here class c cs l true t e = let q : occurs class (c ∷ cs) ≡ 1 + occurs class cs = rw t refl in omega (arith, l, q)
not_here class c cs l false t e = let q = eq-eqb c class e in let no : true ≡ false = sym q ∙ t in (cc)

others_count : (class : ℕ) (old new : ℕ → List Entry) (cs : List ℕ) → occurs class cs ≤ 0 → ((c : ℕ) → (class ≡ c → ⊥) → new c ≡ old c) → held_in new cs ≡ held_in old cs
others_count class old new [] l e = refl
others_count class old new (c ∷ cs) l e =
    let here = e c (λ q. not_here class c cs l (c == class) refl (sym q)) in
    let rest = others_count class old new cs (omega (arith, l)) e in
    omega (arith, ap (λ (x : List Entry). length x) here, rest)

here_once : (class c : ℕ) (cs : List ℕ) → occurs class (c ∷ cs) ≤ 1 → c ≡ class → occurs class cs ≤ 0
here_once class c cs l e = let t = eq-eqb c class e in let q : occurs class (c ∷ cs) ≡ 1 + occurs class cs = rw t refl in omega (arith, l, q)

there_one : (class c : ℕ) (cs : List ℕ) → (c ≡ class → ⊥) → IsOneOf class (c ∷ cs) → IsOneOf class cs
there_one class c cs d (inl e) = absurd (d e)
there_one class c cs d (inr i) = i

-- where one list alone changes, the count changes as its length does
count_case : (class : ℕ) (old new : ℕ → List Entry) (c : ℕ) (cs : List ℕ) (b : Bool) → (c == class) ≡ b → ((k : ℕ) → (class ≡ k → ⊥) → new k ≡ old k) → IsOneOf class (c ∷ cs)
    → occurs class (c ∷ cs) ≤ 1 → (IsOneOf class cs → occurs class cs ≤ 1 → held_in new cs + length (old class) ≡ held_in old cs + length (new class))
    → held_in new (c ∷ cs) + length (old class) ≡ held_in old (c ∷ cs) + length (new class)
count_case class old new c cs true t x i l f =
    let e : c ≡ class = eqb-true c class t in
    omega (arith, others_count class old new cs (here_once class c cs l e) x, ap (λ (k : ℕ). length (new k)) e, ap (λ (k : ℕ). length (old k)) e)
count_case class old new c cs false t x i l f =
    let d : c ≡ class → ⊥ = λ q. (let y = eq-eqb c class q in let no : true ≡ false = sym y ∙ t in (cc)) in
    let same = x c (λ q. d (sym q)) in
    omega (arith, f (there_one class c cs d i) (omega (arith, l)), ap (λ (k : List Entry). length k) same)

one_changes : (class : ℕ) (old new : ℕ → List Entry) (cs : List ℕ) → ((k : ℕ) → (class ≡ k → ⊥) → new k ≡ old k) → IsOneOf class cs → occurs class cs ≤ 1
    → held_in new cs + length (old class) ≡ held_in old cs + length (new class)
one_changes class old new [] x i l = absurd i
one_changes class old new (c ∷ cs) x i l = count_case class old new c cs (c == class) refl x i l (one_changes class old new cs x)

off_if : (k b : Bool) (xs ys : List Entry) → b ≡ false → cond (k && b) ys xs ≡ xs
off_if true true xs ys e = absurd (cc)
off_if true false xs ys e = refl
off_if false b xs ys e = refl

on_if : (k b : Bool) (x : Entry) (xs : List Entry) → b ≡ true → length (cond (k && b) (xs ++ x ∷ []) xs) ≡ length xs + cond k 1 0
on_if true true x xs e = omega (arith, length-append xs (x ∷ []))
on_if true false x xs e = absurd (cc)
on_if false b x xs e = omega arith

-- an offer that keeps adds one
pub held_offered : (class : ℕ) (v : Verdict) (x : Entry) (old new : ℕ → List Entry) (cs : List ℕ) → IsOneOf class cs → AreDistinct cs
    → ((c : ℕ) → new c ≡ after_offer v class x old c) → held_in new cs ≡ held_in old cs + one_kept v
held_offered class v x old new cs i d e =
    let here = on_if (is_kept v) (class == class) x (old class) (eq-eqb class class refl) in
    let all = one_changes class old new cs (λ c n. e c ∙ off_if (is_kept v) (class == c) (old c) (old c ++ x ∷ []) (ne_eqb class c n)) i (d class) in
    omega (arith, all, here, ap (λ (l : List Entry). length l) (e class))

rest_here : (b : Bool) (xs : List Entry) → b ≡ true → 0 < length xs → length (cond b (drop 1 xs) xs) + 1 ≡ length xs
rest_here true [] e l = absurd (omega arith)
rest_here true (x ∷ xs) e l = omega arith
rest_here false xs e l = absurd (cc)

rest_other : (b : Bool) (xs ys : List Entry) → b ≡ false → cond b ys xs ≡ xs
rest_other true xs ys e = absurd (cc)
rest_other false xs ys e = refl

-- a sending takes one
pub held_sent : (class : ℕ) (old new : ℕ → List Entry) (cs : List ℕ) → IsOneOf class cs → AreDistinct cs → 0 < length (old class)
    → ((c : ℕ) → new c ≡ after_sent class old c) → held_in new cs + 1 ≡ held_in old cs
held_sent class old new cs i d l e =
    let here = rest_here (class == class) (old class) (eq-eqb class class refl) l in
    let all = one_changes class old new cs (λ c n. e c ∙ rest_other (class == c) (old c) (drop 1 (old c)) (ne_eqb class c n)) i (d class) in
    omega (arith, all, here, ap (λ (k : List Entry). length k) (e class))
