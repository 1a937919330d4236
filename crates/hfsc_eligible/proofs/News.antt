-- Slots of classes without a packet, one after another.
use Rattle.std.proofs.Common.{◌≡◌, ◌≤◌, ◌<◌, ◌+◌, ◌⊎◌, inl, inr, ℕ, false, List, [], ◌∷◌, ◌++◌, None, Some, length, get_or, refl, sym, ap, subst, arith, ◌∙◌}
use Rattle.std.specs.Prelude.{Option}
use Rattle.std.proofs.lemmas.Bool.{cases_lt}
use Rattle.std.proofs.lemmas.List.{get_or_append_left, get_or-append-add, length-append}
use Rattle.std.proofs.lemmas.Option.{slice_get-get_or}
use Rattle.service_curve.specs.declared.Curve.{Curve}
use Rattle.runtime_curve.specs.declared.Running.{Running}
use Rattle.hfsc_model.specs.Leaf.{new_leaf}
use Rattle.hfsc_model.specs.RealTime.{curve_in, curve_of, unless_zero}
use Rattle.hfsc_eligible.specs.declared.slot.Slot.{Slot}
use Rattle.hfsc_eligible.specs.Real.{holds_head}
use Rattle.hfsc_eligible.specs.Slot.{SlotStands, last_opening, slot_has_head}
use Rattle.hfsc_eligible.specs.Heads.{AreNew}

-- what holds of each slot by its number, and of one more
appended : (P : ℕ → Slot → Type 0) (slots new : List Slot) (x : Slot) → new ≡ slots ++ x ∷ [] → ((c : ℕ) (d : Slot) → c < length slots → P c (get_or slots c d))
    → P (length slots) x → (c : ℕ) (d : Slot) → c < length new → P c (get_or new c d)
appended P slots new x e f g c d h = subst (λ (ys : List Slot). P c (get_or ys c d)) (sym e) (go (cases_lt c (length slots)))
  where
    len : length new ≡ length slots + 1
    len = ap (λ (ys : List Slot). length ys) e ∙ length-append slots (x ∷ [])

    go : (c < length slots) ⊎ (length slots ≤ c) → P c (get_or (slots ++ x ∷ []) c d)
    go (inl k) = subst (λ (y : Slot). P c y) (sym (get_or_append_left slots (x ∷ []) d c k)) (f c d k)
    go (inr k) =
        let same : length slots + 0 ≡ c = omega (arith, k, h, len) in
        let last : length slots ≡ c = omega (arith, k, h, len) in
        let at : get_or (slots ++ x ∷ []) c d ≡ x = ap (λ n. get_or (slots ++ x ∷ []) n d) (sym same) ∙ get_or-append-add slots (x ∷ []) 0 d in
        subst (λ (y : Slot). P c y) (sym at) (subst (λ n. P n x) last g)

pub more_new : (curves : List (Option Curve)) (slots new : List Slot) (x : Slot) (i : ℕ) (d : Option Curve) → new ≡ slots ++ x ∷ []
    → (length slots ≡ i) × AreNew curves slots → i < length curves → SlotStands x (unless_zero (get_or curves i d)) new_leaf → last_opening x ≡ None → AreNew curves new
more_new curves slots new x i d e old low stands closed = record {
  each = appended (λ c y. SlotStands y (curve_of curves c) new_leaf) slots new x e old.1.each
      (subst (λ n. SlotStands x (curve_of curves n) new_leaf) (sym old.0)
      (subst (λ (o : Option Curve). SlotStands x o new_leaf) (sym (ap curve_in (slice_get-get_or curves i d low))) stands));
  none = appended (λ c y. slot_has_head y ≡ false) slots new x e old.1.none (ap (λ (o : Option ℕ). holds_head x.real o) stands.head ∙ idle x.real);
  closed = appended (λ c y. last_opening y ≡ None) slots new x e old.1.closed closed;
}
  where
    idle : (r : Option Running) → holds_head r None ≡ false
    idle None = refl
    idle (Some r) = refl
