-- A list in which one place changed.
use Rattle.std.proofs.Common.{◌≡◌, ◌<◌, ◌≤◌, ◌⊎◌, inl, inr, ℕ, List, Some, length, sym, ap, arith, ◌∙◌, get_or}
use Rattle.std.specs.Prelude.{slice_get, slice_set}
use Rattle.std.proofs.lemmas.Bool.{cases_lt}
use Rattle.std.proofs.lemmas.List.{length-set, get_or-set_same, get_or-set_other}
use Rattle.std.proofs.lemmas.Option.{slice_get-get_or, slice_get_past}

pub get_here : {X : Type 0} (xs : List X) (i : ℕ) (x : X) → i < length xs → slice_get (slice_set xs i x) i ≡ Some x
get_here {X} xs i x h =
    slice_get-get_or (slice_set xs i x) i x (let same = length-set xs i x in omega arith) ∙ ap (λ (y : X). Some y) (get_or-set_same xs i x x h)

pub get_other : {X : Type 0} (xs : List X) (i c : ℕ) (x : X) → (c ≡ i → ⊥) → slice_get (slice_set xs i x) c ≡ slice_get xs c
get_other {X} xs i c x n = go (cases_lt c (length xs))
  where
    go : (c < length xs) ⊎ (length xs ≤ c) → slice_get (slice_set xs i x) c ≡ slice_get xs c
    go (inl h) =
        slice_get-get_or (slice_set xs i x) c x (let same = length-set xs i x in omega arith)
        ∙ ap (λ (y : X). Some y) (get_or-set_other xs i c x x n) ∙ sym (slice_get-get_or xs c x h)
    go (inr h) = slice_get_past (slice_set xs i x) c (let same = length-set xs i x in omega arith) ∙ sym (slice_get_past xs c h)

-- what is read at a place
pub get_read : {X : Type 0} (xs : List X) (i : ℕ) (x : X) → i < length xs → x ≡ get_or xs i x → slice_get xs i ≡ Some x
get_read {X} xs i x h e = slice_get-get_or xs i x h ∙ ap (λ (y : X). Some y) (sym e)
