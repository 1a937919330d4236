-- What stands at the place of a class.
use Rattle.std.proofs.Common.{◌≡◌, ◌≤◌, ◌<◌, ◌+◌, ◌∙◌, inl, inr, ℕ, zero, suc, List, [], ◌∷◌, length, get_or, refl, ap, arith}
use Rattle.altq_model.specs.Play.{IsOneOf}
use Rattle.cbq_model.specs.declared.CbqClass.{CbqClass}
use Rattle.cbq_model.specs.Tree.{class_of, each, each_from, no_class, numbers}

at_from : {X : Type 0} (f : ℕ → CbqClass → X) (b : ℕ) (cs : List CbqClass) (i : ℕ) (d : X) → i < length cs
    → get_or (each_from f b cs) i d ≡ f (b + i) (get_or cs i no_class)
at_from f b [] i d l = absurd (omega arith)
at_from f b (k ∷ ks) zero d l = let same : b ≡ b + 0 = omega arith in ap (λ (n : ℕ). f n k) same
at_from f b (k ∷ ks) (suc i) d l =
    let same : b + 1 + i ≡ b + suc i = omega arith in
    at_from f (b + 1) ks i d (omega arith) ∙ ap (λ (n : ℕ). f n (get_or ks i no_class)) same

pub at_place : {X : Type 0} (f : ℕ → CbqClass → X) (cs : List CbqClass) (c : ℕ) (d : X) → c < length cs
    → get_or (each f cs) c d ≡ f c (class_of cs c)
at_place f cs c d l = let same : 0 + c ≡ c = omega arith in at_from f 0 cs c d l ∙ ap (λ (n : ℕ). f n (class_of cs c)) same

below_from : (c b : ℕ) (cs : List CbqClass) → IsOneOf c (each_from (λ n k. n) b cs) → c < b + length cs
below_from c b [] m = absurd m
below_from c b (k ∷ ks) (inl e) = omega arith
below_from c b (k ∷ ks) (inr m) = omega (arith, below_from c (b + 1) ks m)

pub is_below : (c : ℕ) (cs : List CbqClass) → IsOneOf c (numbers cs) → c < length cs
is_below c cs m = omega (arith, below_from c 0 cs m)

past_end : {X : Type 0} (xs : List X) (c : ℕ) (d : X) → length xs ≤ c → get_or xs c d ≡ d
past_end [] c d l = refl
past_end (x ∷ xs) zero d l = absurd (omega arith)
past_end (x ∷ xs) (suc c) d l = past_end xs c d (omega arith)

each_length : {X : Type 0} (f : ℕ → CbqClass → X) (b : ℕ) (cs : List CbqClass) → length (each_from f b cs) ≡ length cs
each_length f b [] = refl
each_length f b (k ∷ ks) = let more = each_length f (b + 1) ks in omega (arith, more)

pub past_place : {X : Type 0} (f : ℕ → CbqClass → X) (cs : List CbqClass) (c : ℕ) (d : X) → length cs ≤ c → get_or (each f cs) c d ≡ d
past_place f cs c d l = past_end (each f cs) c d (omega (arith, each_length f 0 cs))
