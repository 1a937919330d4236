-- What becomes of the files of a plan: what a command promises.
use Rattle.std.specs.Prelude.{◌≡◌, ◌≢◌, ◌⊎◌, ◌≤◌, ◌+◌, ◌^◌, ℕ, Bool, true, false, List, [], ◌∷◌, length, None, Some, IsTrue}
use Rattle.play_base.specs.View.{View, Keeps}
use Rattle.file_plans.specs.declared.part.Part.{Part}
use Rattle.file_plans.specs.declared.part.Part.TheVariants as part
use Rattle.file_plans.specs.Plan.{AreApart, HasPart, HasPlace, IfWritten, IsOther, Place, comes_once, comes_twice, is_part, number_of}

-- no file of this part came to be
abbrev pub Untouched : View → View → (part : ℕ) → Type 0
Untouched old new part = (f : ℕ) → old.part f ≡ None → new.part f ≢ Some part

abbrev pub Unless : Bool → Type 0 → Type 0
Unless true P = Unit {0}
Unless false P = P

-- no file of these parts came to be, but for parts of the places before
abbrev pub AreUntouched : View → View → (before : List Place) → List Place → Type 0
AreUntouched old new before [] = Unit {0}
AreUntouched old new before (d ∷ ds) = Unless (is_part (number_of d) before) (Untouched old new (number_of d)) × AreUntouched old new before ds

-- where no file of a place's part came to be, none of a later place did
abbrev pub AreInOrder : View → View → (before : List Place) → List Place → Type 0
AreInOrder old new before [] = Unit {0}
AreInOrder old new before (e ∷ es) = (Untouched old new (number_of e) → AreUntouched old new before es) × AreInOrder old new (e ∷ before) es

-- a written place's name keeps its bytes where no file of its part came to be
abbrev pub KeepUncreated : View → View → List Place → Type 0
KeepUncreated old new [] = Unit {0}
KeepUncreated old new (e ∷ es) =
    IfWritten e.way (Untouched old new (number_of e) → new.bytes e.name ≡ old.bytes e.name) × KeepUncreated old new es

-- the most bytes of a configuration
abbrev pub most_configuration : ℕ
most_configuration = 2 ^ 20

-- of the bytes that stood under the name at most one more than that were taken from a file that came to be under this part
abbrev pub TookFew : View → View → (part : ℕ) → (name : List ℕ) → Type 0
TookFew old new part name = IsTrue old.tells → (f : ℕ) → old.part f ≡ None → new.part f ≡ Some part → (all : List ℕ) → old.bytes name ≡ Some all
    → (rest : List ℕ) × (new.left f ≡ Some rest) × (length all ≤ most_configuration + 1 + length rest)

abbrev pub IfConfiguration : Part → Type 0 → Type 0
IfConfiguration part.Configuration P = P
IfConfiguration other P = Unit {0}

-- that, of the configuration of a plan
abbrev pub AreFew : View → View → List Place → Type 0
AreFew old new [] = Unit {0}
AreFew old new (e ∷ es) = IfConfiguration e.part (TookFew old new (number_of e) e.name) × AreFew old new es

-- WHAT A PLAN LEAVES, whatever comes. Each new file is one of the plan's, under its name. None comes twice, but a part that the plan has
-- twice. One comes only where all before it in the plan did. An output that was not created keeps its bytes; so does every other name, and
-- every other file what it has left. Of the configuration few bytes are taken.
pub record FilesEnd (plan : List Place) (old new : View) : Type 0 where
  pub named : IsTrue old.tells → (f p : ℕ) → old.part f ≡ None → new.part f ≡ Some p → HasPlace plan p (new.name f)
  pub parts : (f p : ℕ) → old.part f ≡ None → new.part f ≡ Some p → HasPart plan p
  pub once : (f g p : ℕ) → IsTrue (comes_once p plan) → old.part f ≡ None → old.part g ≡ None → new.part f ≡ Some p → new.part g ≡ Some p → f ≡ g
  pub twice : (f g h p : ℕ) → IsTrue (comes_twice p plan) → old.part f ≡ None → old.part g ≡ None → old.part h ≡ None → new.part f ≡ Some p
      → new.part g ≡ Some p → new.part h ≡ Some p → (f ≡ g) ⊎ (f ≡ h) ⊎ (g ≡ h)
  pub order : AreInOrder old new [] plan
  pub uncreated : IsTrue old.tells → AreApart plan → KeepUncreated old new plan
  pub others : Keeps (IsOther old plan) (λ f. IsOther old plan (old.name f)) old new
  pub few : AreFew old new plan
