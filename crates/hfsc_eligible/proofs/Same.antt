-- What a call leaves of the classes, by what is held.
use Rattle.std.proofs.Common.{◌≡◌, ◌≤◌, ◌<◌, ◌⊎◌, inl, inr, ℕ, List, None, Some, length, sym, ap, arith, ◌∙◌}
use Rattle.std.specs.Prelude.{Option, slice_get, slice_set}
use Rattle.std.specs.Option.{ForSome}
use Rattle.std.proofs.lemmas.Bool.{cases_lt}
use Rattle.std.proofs.lemmas.List.{length-set, get_or-set_same, get_or-set_other}
use Rattle.std.proofs.lemmas.Option.{slice_get-get_or, slice_get_past}
use Rattle.service_curve.specs.declared.Curve.{Curve}
use Rattle.hfsc_eligible.specs.declared.slot.Slot.{Slot}
use Rattle.hfsc_eligible.specs.declared.Eligible.{Eligible}
use Rattle.hfsc_eligible.specs.Slot.{head_of, last_opening}
use Rattle.hfsc_eligible.specs.Heads.{AreNew}
use Rattle.hfsc_eligible.specs.Eligible.{NoneHasOpened, IsSameBut, head_in, head_at, opening_in, opening_at}
use Rattle.hfsc_eligible.proofs.Lists.{no_slot}

here : (xs : List Slot) (i : ℕ) (x : Slot) → i < length xs → slice_get (slice_set xs i x) i ≡ Some x
here xs i x h = slice_get-get_or (slice_set xs i x) i x (let same = length-set xs i x in omega arith) ∙ ap (λ (y : Slot). Some y) (get_or-set_same xs i x x h)

other : (xs : List Slot) (i c : ℕ) (x : Slot) → (c ≡ i → ⊥) → slice_get (slice_set xs i x) c ≡ slice_get xs c
other xs i c x n = go (cases_lt c (length xs))
  where
    go : (c < length xs) ⊎ (length xs ≤ c) → slice_get (slice_set xs i x) c ≡ slice_get xs c
    go (inl h) =
        slice_get-get_or (slice_set xs i x) c x (let same = length-set xs i x in omega arith)
        ∙ ap (λ (y : Slot). Some y) (get_or-set_other xs i c x x n) ∙ sym (slice_get-get_or xs c x h)
    go (inr h) = slice_get_past (slice_set xs i x) c (let same = length-set xs i x in omega arith) ∙ sym (slice_get_past xs c h)

pub head_here : (slots : List Slot) (class : ℕ) (x : Slot) → class < length slots → head_in (slice_get (slice_set slots class x) class) ≡ head_of x
head_here slots class x h = ap head_in (here slots class x h)

pub opened_here : (slots : List Slot) (class at : ℕ) (x : Slot) → class < length slots → ForSome (last_opening x) (λ last. last.at ≡ at)
    → ForSome (opening_in (slice_get (slice_set slots class x) class)) (λ last. last.at ≡ at)
opened_here slots class at x h f = λ last g. f last (sym (ap opening_in (here slots class x h)) ∙ g)

pub same_but : (old new : Eligible) (class : ℕ) (x : Slot) → new.slots.items ≡ slice_set old.slots.items class x → IsSameBut class old new
same_but old new class x e = record {
  classes = ap (λ (xs : List Slot). length xs) e ∙ length-set old.slots.items class x;
  heads = λ c n. ap head_in (ap (λ (xs : List Slot). slice_get xs c) e ∙ other old.slots.items class c x n);
  openings = λ c n. ap opening_in (ap (λ (xs : List Slot). slice_get xs c) e ∙ other old.slots.items class c x n);
}

pub new_is : (e : Eligible) (curves : List (Option Curve)) → AreNew curves e.slots.items → NoneHasOpened e
new_is e curves x = record {
  empty = λ c. head c (cases_lt c (length e.slots.items));
  closed = λ c. opening c (cases_lt c (length e.slots.items));
}
  where
    head : (c : ℕ) → (c < length e.slots.items) ⊎ (length e.slots.items ≤ c) → head_at e c ≡ None
    head c (inl h) = let d = no_slot e.slots.items c h in ap head_in (slice_get-get_or e.slots.items c d h) ∙ (x.each c d h).head
    head c (inr h) = ap head_in (slice_get_past e.slots.items c h)

    opening : (c : ℕ) → (c < length e.slots.items) ⊎ (length e.slots.items ≤ c) → opening_at e c ≡ None
    opening c (inl h) = let d = no_slot e.slots.items c h in ap opening_in (slice_get-get_or e.slots.items c d h) ∙ x.closed c d h
    opening c (inr h) = ap opening_in (slice_get_past e.slots.items c h)
