-- The digits of a number and of the next one.
use Rattle.std.proofs.Common.{◌≡◌, ◌∙◌, ◌+◌, ◌-◌, ◌/◌, ◌%◌, ◌^◌, ◌<◌, ◌++◌, ◌∷◌, [], List, ℕ, length, ap, sym, refl, inl, inr, arith, eq-zero-or-pos}
use Rattle.std.specs.Prelude.{drop, slice_set, slice_index_or}
use Rattle.std.proofs.lemmas.List.{get_or-drop, get_or_push, drop-set-add, set-append_right}
use Rattle.std.proofs.lemmas.Fmt.{decimal_digit, decimal_step}
use Rattle.std.specs.Fmt.{decimal}

-- the last digit of a number with what stands before it; the next number has the same before it, unless that digit is 9
pub record Ending (n : ℕ) : Type 0 where
  pub front : List ℕ
  pub digits : decimal n ≡ front ++ ((48 + n % 10) ∷ [])
  pub next : n % 10 < 9 → n + 1 < 2 ^ 64 → decimal (n + 1) ≡ front ++ ((49 + n % 10) ∷ [])

pub ending : (n : ℕ) → n < 2 ^ 64 → Ending n
ending n small =
    elim (eq-zero-or-pos (n - 9)) [
      | inl z ↦ record {
        front = [];
        digits = decimal_digit n (omega arith) ∙ ap (λ (d : ℕ). d ∷ []) (omega arith);
        next = λ l m. decimal_digit (n + 1) (omega arith) ∙ ap (λ (d : ℕ). d ∷ []) (omega arith);
      }
      | inr g ↦ record {
        front = decimal (n / 10);
        digits = decimal_step n (omega arith) small;
        next = λ l m.
            let q : (n + 1) / 10 ≡ n / 10 = omega arith in
            let r : 48 + (n + 1) % 10 ≡ 49 + n % 10 = omega arith in
            decimal_step (n + 1) (omega arith) m ∙ rw (q, r);
      }
    ]

-- where a list ends so from a place on, its last item is this one, and can be changed
pub last_item : (k place : ℕ) (xs front : List ℕ) (x : ℕ) → drop k xs ≡ front ++ (x ∷ []) → k + length front ≡ place → slice_index_or xs place 0 ≡ x
last_item k place xs front x e at =
    ap (λ (i : ℕ). slice_index_or xs i 0) (sym at) ∙ sym (get_or-drop k xs (length front) 0) ∙ ap (λ (ys : List ℕ). slice_index_or ys (length front) 0) e
    ∙ get_or_push front x 0 (length front) refl

pub last_set : (k place : ℕ) (xs front : List ℕ) (x y : ℕ) → drop k xs ≡ front ++ (x ∷ []) → k + length front ≡ place
    → drop k (slice_set xs place y) ≡ front ++ (y ∷ [])
last_set k place xs front x y e at =
    let none : length front - length front ≡ 0 = omega arith in
    ap (λ (i : ℕ). drop k (slice_set xs i y)) (sym at) ∙ drop-set-add k xs (length front) y ∙ ap (λ (ys : List ℕ). slice_set ys (length front) y) e
    ∙ set-append_right front (x ∷ []) (length front) (length front) y refl (omega arith) ∙ ap (λ (i : ℕ). front ++ slice_set (x ∷ []) i y) none
