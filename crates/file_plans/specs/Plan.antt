-- The files of a command in the order in which they come to be.
use Rattle.std.specs.Prelude.{◌≡◌, ◌≢◌, ◌⊎◌, ℕ, Bool, true, false, cond, nat_eq, List, [], ◌∷◌, IsTrue}
use Rattle.play_base.specs.View.{View}
use Rattle.file_plans.specs.declared.part.Part.{Part}
use Rattle.file_plans.specs.declared.plan.Entry.{Entry}
use Rattle.file_plans.specs.declared.plan.Way.{Way}
use Rattle.file_plans.specs.declared.plan.Way.TheVariants as way
use Rattle.file_plans.specs.Parts.{part_number}

-- one file of a plan: what it is, the name under which it comes to be, and whether it is opened or created
pub record Place : Type 0 where
  pub part : Part
  pub name : List ℕ
  pub way : Way

abbrev pub number_of : Place → ℕ
number_of e = part_number e.part

abbrev pub read_place : Part → (name : List ℕ) → Place
read_place p name = record { part = p; name = name; way = way.Read }

abbrev pub written_place : Part → (name : List ℕ) → Place
written_place p name = record { part = p; name = name; way = way.Written }

abbrev pub place_of : Entry → Place
place_of e = record { part = e.part; name = e.name.now; way = e.way }

abbrev pub places_of : List Entry → List Place
places_of [] = []
places_of (e ∷ es) = place_of e ∷ places_of es

abbrev pub IfWritten : Way → Type 0 → Type 0
IfWritten way.Read P = Unit {0}
IfWritten way.Written P = P

-- the name is that of no written place
abbrev pub IsUnwritten : List Place → (name : List ℕ) → Type 0
IsUnwritten [] m = Unit {0}
IsUnwritten (e ∷ es) m = IfWritten e.way (m ≢ e.name) × IsUnwritten es m

-- the same where the object tells names; where nothing is written it is so of every name
abbrev pub IsOther : View → List Place → (name : List ℕ) → Type 0
IsOther v [] m = Unit {0}
IsOther v (e ∷ es) m = IfWritten e.way (IsTrue v.tells × (m ≢ e.name)) × IsOther v es m

-- no two written places have one name
abbrev pub AreApart : List Place → Type 0
AreApart [] = Unit {0}
AreApart (e ∷ es) = IfWritten e.way (IsUnwritten es e.name) × AreApart es

-- the plan has the part, also under this name
abbrev pub HasPart : List Place → (part : ℕ) → Type 0
HasPart [] p = ⊥
HasPart (e ∷ es) p = (p ≡ number_of e) ⊎ HasPart es p

abbrev pub HasPlace : List Place → (part : ℕ) → (name : List ℕ) → Type 0
HasPlace [] p m = ⊥
HasPlace (e ∷ es) p m = ((p ≡ number_of e) × (m ≡ e.name)) ⊎ HasPlace es p m

abbrev pub is_part : (part : ℕ) → List Place → Bool
is_part p [] = false
is_part p (e ∷ es) = cond (nat_eq p (number_of e)) true (is_part p es)

-- the plan has the part at most once
abbrev pub comes_once : (part : ℕ) → List Place → Bool
comes_once p [] = true
comes_once p (e ∷ es) = cond (nat_eq p (number_of e)) (cond (is_part p es) false true) (comes_once p es)

-- at most twice, as a file that is created and then opened
abbrev pub comes_twice : (part : ℕ) → List Place → Bool
comes_twice p [] = true
comes_twice p (e ∷ es) = cond (nat_eq p (number_of e)) (comes_once p es) (comes_twice p es)
