-- Why a command is stopped by its inputs, and what was had of them before anything else came to be.
use Rattle.std.specs.Prelude.{◌≡◌, ◌⊎◌, ℕ, List, Option, None, Some, IsTrue}
use Rattle.play_base.specs.View.{View, IsAbsent, IsAtEnd}
use Rattle.arrivals_front.specs.Given.{IsBegunAt}
use Rattle.file_plans.specs.declared.part.Part.{Part}
use Rattle.file_plans.specs.declared.part.Part.TheVariants as part
use Rattle.file_plans.specs.Parts.{part_number}
use Rattle.run_outcomes.specs.Faults.{ReadFailed}
use Rattle.run_inputs.specs.declared.stop.Stop.{Stop}
use Rattle.run_inputs.specs.declared.stop.Stop.TheVariants as stop
use Rattle.run_inputs.specs.Says.{Accepted, AreStopped, Asked, Configured, TextSays}

-- the inputs say so where the files tell; or a read of them failed
abbrev pub CannotRead : View → View → (part : Part) → (name : List ℕ) → Type 0
CannotRead old new part name = ReadFailed old new (part_number part) ⊎ IsAbsent old name

abbrev pub IsConfigured : View → Asked → Type 0
IsConfigured v a = IsTrue v.tells → (c : Configured) × TextSays v a (Accepted c)

abbrev pub CannotReadArrivals : View → View → Asked → Type 0
CannotReadArrivals old new a = (name : List ℕ) × (a.arrivals ≡ Some name) × CannotRead old new part.Arrivals name × IsConfigured old a

abbrev pub Meets : View → View → Asked → Stop → Type 0
Meets old new a stop.NoConfiguration = CannotRead old new part.Configuration a.config
Meets old new a stop.NoArrivals = CannotReadArrivals old new a
Meets old new a s = IsTrue old.tells → AreStopped old a s

-- of each file that came to be under this part, all was taken
abbrev pub IsTaken : View → View → Part → Type 0
IsTaken old new part = (g : ℕ) → old.part g ≡ None → new.part g ≡ Some (part_number part) → IsAtEnd new g

-- the configuration was read to its end, and has the interfaces asked for
pub record HasRead (old new : View) (a : Asked) : Type 0 where
  pub configured : Configured
  pub says : TextSays old a (Accepted configured)
  pub taken : IsTaken old new part.Configuration

-- the arrivals were begun: of a pcapng file all was taken, of any other the first four bytes
pub record AreBegun (old new : View) (name : List ℕ) : Type 0 where
  pub given : List ℕ
  pub at : old.bytes name ≡ Some given
  pub begun : (g : ℕ) → old.part g ≡ None → new.part g ≡ Some (part_number part.Arrivals) → IsBegunAt new g given

abbrev pub HasBegun : View → View → Option (List ℕ) → Type 0
HasBegun old new None = Unit {0}
HasBegun old new (Some name) = AreBegun old new name
