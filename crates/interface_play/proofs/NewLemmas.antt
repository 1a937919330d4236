-- Outputs that came to be, and those that did not.
use Rattle.std.proofs.Common.{◌≡◌, ◌∙◌, ◌⊎◌, ◌++◌, ℕ, List, [], ◌∷◌, Some, None, ap, subst, sym, inl, inr}
use Rattle.std.specs.Prelude.{IsTrue}
use Rattle.file_plans.specs.Came.{AreOf, Came, IsAmong}
use Rattle.file_plans.specs.End.{Untouched}
use Rattle.file_plans.specs.Plan.{HasPart, IsOther, Place, number_of}
use Rattle.file_plans.proofs.CameLaws.{same_part, there_or_not}
use Rattle.play_base.specs.View.{View}
use Rattle.interface_play.specs.Steps.{IsBareAt}

-- a file that came to be has the part of a place
pub part_of : (a b : View) (es : List Place) (fs : List ℕ) (f part : ℕ) → AreOf a b es fs → IsAmong f fs → b.part f ≡ Some part → HasPart es part
part_of a b [] [] f part x h e = absurd h
part_of a b [] (g ∷ gs) f part x h e = absurd x
part_of a b (d ∷ es) [] f part x h e = absurd x
part_of a b (d ∷ es) (g ∷ gs) f part x (inl h) e = inl (same_part part (number_of d) (sym e ∙ ap b.part h ∙ x.0.part))
part_of a b (d ∷ es) (g ∷ gs) f part x (inr h) e = inr (part_of a b es gs f part x.1 h e)

-- a part of the first places is one of all
pub has_first : (part : ℕ) (front rest all : List Place) → all ≡ front ++ rest → HasPart front part → HasPart all part
has_first part front rest all e h = subst (λ (es : List Place). HasPart es part) (sym e) (by front h)
  where
    by : (es : List Place) → HasPart es part → HasPart (es ++ rest) part
    by [] k = absurd k
    by (x ∷ es) (inl k) = inl k
    by (x ∷ es) (inr k) = inr (by es k)

-- no file came to be of a part that no place has
pub untouched_by : (a b : View) (es : List Place) (fs : List ℕ) (part : ℕ) → Came es fs a b → (HasPart es part → ⊥) → Untouched a b part
untouched_by a b es fs part x other = λ f fresh e. other (part_of a b es fs f part x.are (x.only f part fresh e) e)

-- nor did one behind it
pub untouched_then : (a b c : View) (part : ℕ) → ((f p : ℕ) → b.part f ≡ Some p → c.part f ≡ Some p) → Untouched a b part → Untouched b c part
    → Untouched a c part
untouched_then a b c part keeps x y = λ f fresh e. by f fresh e (there_or_not (b.part f))
  where
    by : (f : ℕ) → a.part f ≡ None → c.part f ≡ Some part → (b.part f ≡ None) ⊎ ((q : ℕ) × (b.part f ≡ Some q)) → ⊥
    by f fresh e (inl none) = y f none e
    by f fresh e (inr q) =
        let same : q.0 ≡ part = same_part q.0 part (sym (keeps f q.0 q.1) ∙ e) in
        x f fresh (q.1 ∙ ap (λ (p : ℕ). Some p) same)

-- a place of another part and name is bare
pub bare_absent : (a b : View) (es : List Place) (fs : List ℕ) (e : Place) → Came es fs a b → (HasPart es (number_of e) → ⊥)
    → (IsTrue a.tells → IsOther a es e.name) → IsBareAt a b e
bare_absent a b es fs e x none other = λ t. inl (untouched_by a b es fs (number_of e) x none, x.keeps.bytes e.name (other t))
