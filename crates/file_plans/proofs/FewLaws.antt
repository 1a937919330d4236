-- How much was taken of a configuration, as more calls follow.
use Rattle.std.proofs.Common.{◌≡◌, ◌≤◌, ◌+◌, ◌∙◌, ◌⊎◌, ℕ, List, None, Some, length, ap, sym, inl, inr}
use Rattle.std.specs.Prelude.{IsTrue}
use Rattle.std.specs.declared.option.Option.{Option}
use Rattle.play_base.specs.View.{View, Keeps}
use Rattle.file_plans.specs.End.{TookFew, Untouched, most_configuration}
use Rattle.file_plans.proofs.CameLaws.{same_part, there_or_not}

-- nothing, where no file of the part came to be
pub few_untouched : (a b : View) (part : ℕ) (name : List ℕ) → Untouched a b part → TookFew a b part name
few_untouched a b part name u t f fresh e all at = absurd (u f fresh e)

-- no more, where calls that follow keep what the file has left, and no other of its part comes to be
pub few_kept : (N : List ℕ → Type 0) (F : ℕ → Type 0) (a b c : View) (part : ℕ) (name : List ℕ) → TookFew a b part name → Keeps N F b c
    → Untouched b c part → ((f : ℕ) → IsTrue a.tells → a.part f ≡ None → b.part f ≡ Some part → F f) → TookFew a c part name
few_kept N F a b c part name x k u h t f fresh e all at = by (there_or_not (b.part f))
  where
    by : (b.part f ≡ None) ⊎ ((q : ℕ) × (b.part f ≡ Some q)) → (rest : List ℕ) × (c.left f ≡ Some rest) × (length all ≤ most_configuration + 1 + length rest)
    by (inl none) = absurd (u f none e)
    by (inr there) =
        let q : there.0 ≡ part = same_part there.0 part (sym (k.part f there.0 there.1) ∙ e) in
        let is : b.part f ≡ Some part = there.1 ∙ ap {B = Option ℕ} Some q in
        let few = x t f fresh is all at in
        (few.0, k.left f part is (h f t fresh is) ∙ few.1, few.2)
