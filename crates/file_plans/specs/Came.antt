-- Which files came to be: what the steps of a command promise.
use Rattle.std.specs.Prelude.{◌≡◌, ◌⊎◌, ◌++◌, ℕ, List, [], ◌∷◌, None, Some, IsSome, IsTrue}
use Rattle.play_base.specs.View.{View, IsAbsent, Keeps, NoneAppears, Rose, SameCounts}
use Rattle.file_plans.specs.declared.plan.Way.{Way}
use Rattle.file_plans.specs.declared.plan.Way.TheVariants as way
use Rattle.file_plans.specs.Plan.{IfWritten, IsOther, Place, number_of}

-- the file came to be for this place
pub record IsOf (old new : View) (e : Place) (file : ℕ) : Type 0 where
  pub fresh : old.part file ≡ None
  pub part : new.part file ≡ Some (number_of e)
  pub name : IsTrue old.tells → new.name file ≡ e.name

-- for each place one file, in order
abbrev pub AreOf : View → View → List Place → List ℕ → Type 0
AreOf old new [] [] = Unit {0}
AreOf old new [] (f ∷ fs) = ⊥
AreOf old new (e ∷ es) [] = ⊥
AreOf old new (e ∷ es) (f ∷ fs) = IsOf old new e f × AreOf old new es fs

abbrev pub IsAmong : ℕ → List ℕ → Type 0
IsAmong f [] = ⊥
IsAmong f (g ∷ gs) = (f ≡ g) ⊎ IsAmong f gs

-- THESE FILES CAME TO BE, one for each of these places, and no other. Every name that is no written place's keeps its bytes, and every file
-- that was there of such a name what it has left
pub record Came (places : List Place) (files : List ℕ) (old new : View) : Type 0 where
  pub are : AreOf old new places files
  pub only : (f p : ℕ) → old.part f ≡ None → new.part f ≡ Some p → IsAmong f files
  pub keeps : Keeps (IsOther old places) (λ f. IsOther old places (old.name f)) old new

-- what may be done with these files once they are there: they are read, and the written places' names are written
pub record Works (places : List Place) (files : List ℕ) (old new : View) : Type 0 where
  pub keeps : Keeps (IsOther old places) (λ f. IsOther old places (old.name f) × (IsAmong f files → ⊥)) old new
  pub none : NoneAppears old new

-- the files of the first places of the plan came to be
pub record CameAlong (plan : List Place) (old new : View) : Type 0 where
  pub front : List Place
  pub rest : List Place
  pub split : plan ≡ front ++ rest
  pub files : List ℕ
  pub came : Came front files old new

-- a written place's name is there and empty
abbrev pub AreEmpty : View → List Place → Type 0
AreEmpty v [] = Unit {0}
AreEmpty v (e ∷ es) = IfWritten e.way (v.bytes e.name ≡ Some []) × AreEmpty v es

-- the new file has the bytes under its name left; or its name is there and empty
abbrev pub ReadyAs : Way → View → View → (name : List ℕ) → (file : ℕ) → Type 0
ReadyAs way.Read old new name file = IsTrue old.tells → IsSome (old.bytes name) × (new.left file ≡ old.bytes name)
ReadyAs way.Written old new name file = IsTrue old.tells → (new.bytes name ≡ Some []) × (new.left file ≡ Some [])

abbrev pub IsReady : View → View → Place → (file : ℕ) → Type 0
IsReady old new e file = ReadyAs e.way old new e.name file

-- why a place's file did not come to be though memory was left: its part's count of faults rose; or the name to be opened is told not to be
-- there, and no count rose
abbrev pub Refuses : Way → View → View → Place → Type 0
Refuses way.Read old new e = Rose (old.read_faults (number_of e)) (new.read_faults (number_of e)) ⊎ (IsAbsent new e.name × SameCounts old new)
Refuses way.Written old new e = Rose (old.write_faults (number_of e)) (new.write_faults (number_of e))

abbrev pub IsRefused : View → View → Place → Type 0
IsRefused old new e = Refuses e.way old new e
