-- What is had of the inputs, and what reading them leaves.
use Rattle.std.specs.Prelude.{◌≡◌, ◌≢◌, ◌≤◌, ℕ, true, List, [], ◌∷◌, length, Option, None, Some, IsTrue, option_copied, option_map, take}
use Rattle.arrivals_front.specs.Given.{Follows}
use Rattle.conf_tree.specs.declared.interface.Interface.{Interface}
use Rattle.conf_tree.specs.Reading.{IsConfiguration}
use Rattle.file_plans.specs.Came.{Came, CameAlong}
use Rattle.file_plans.specs.declared.part.Part.TheVariants as part
use Rattle.file_plans.specs.End.{TookFew}
use Rattle.file_plans.specs.Parts.{part_number}
use Rattle.file_plans.specs.Plan.{Place, read_place}
use Rattle.play_base.specs.View.{View, Everything, Keeps}
use Rattle.run_inputs.specs.declared.inputs.Arrivals.{Arrivals}
use Rattle.run_inputs.specs.declared.inputs.Asking.{Asking}
use Rattle.run_inputs.specs.declared.inputs.ReadConf.{ReadConf}
use Rattle.run_inputs.specs.declared.inputs.Unready.{Unready}
use Rattle.run_inputs.specs.declared.inputs.Unready.TheVariants as unready
use Rattle.run_inputs.specs.Meets.{AreBegun, HasRead, IsTaken, Meets}
use Rattle.run_inputs.specs.Says.{Accepted, Asked, Configured, interface_of, reach, text_of}

abbrev pub asked_of : Asking → (arrivals : Option (List ℕ)) → Asked
asked_of x arrivals = record { config = x.config.now; interface = x.interface.now; next = option_copied x.next; arrivals = arrivals }

-- the files of the inputs, in their order
abbrev pub arrivals_plan : Option (List ℕ) → List Place
arrivals_plan None = []
arrivals_plan (Some name) = read_place part.Arrivals name ∷ []

abbrev pub inputs_plan : Asked → List Place
inputs_plan a = read_place part.Configuration a.config ∷ arrivals_plan a.arrivals

-- WHAT READING THE INPUTS LEAVES, whatever comes of it: their files came to be in order, the arrivals only behind a configuration that was
-- read whole and accepted
pub record HaveCome (a : Asked) (old new : View) : Type 0 where
  pub along : CameAlong (inputs_plan a) old new
  pub keeps : Keeps Everything Everything old new
  pub few : TookFew old new (part_number part.Configuration) a.config
  pub first : IsTrue old.tells → (f p : ℕ) → old.part f ≡ None → new.part f ≡ Some p → p ≢ part_number part.Configuration → HasRead old new a
  pub said : new.said ≡ old.said

-- a text of a configuration has these interfaces, among them those asked for; it stands under the name where the files tell
pub record IsAccepted (old : View) (a : Asked) (interfaces : List Interface) (c : Configured) : Type 0 where
  pub text : List ℕ
  pub read : IsConfiguration text interfaces
  pub says : text_of a text ≡ Accepted c
  pub at : IsTrue old.tells → old.bytes a.config ≡ Some text
  pub same : c.interfaces ≡ interfaces
  pub found : interface_of a.interface interfaces ≡ Some c.found
  pub next : option_map (λ name. interface_of name interfaces) a.next ≡ option_map (λ (i : Interface). Some i) c.next

-- the configuration alone is had: it was read to its end
pub record IsHad (a : Asked) (old new : View) (r : ReadConf) : Type 0 where
  pub configured : Configured
  pub accepted : IsAccepted old a r.conf configured
  pub came : Came (read_place part.Configuration a.config ∷ []) (r.file ∷ []) old new
  pub taken : IsTaken old new part.Configuration

-- what stands behind the arrivals' file follows the bytes that were taken, and is what is given
pub record AreGivenBy (old new : View) (name : List ℕ) (x : Arrivals) : Type 0 where
  pub given : List ℕ
  pub at : old.bytes name ≡ Some given
  pub follows : Follows new x.file given x.given
  pub begun : AreBegun old new name

-- both are had
pub record AreHad (a : Asked) (name : List ℕ) (old new : View) (r : ReadConf) (x : Arrivals) : Type 0 where
  pub configured : Configured
  pub accepted : IsAccepted old a r.conf configured
  pub came : Came (read_place part.Configuration a.config ∷ read_place part.Arrivals name ∷ []) (r.file ∷ x.file ∷ []) old new
  pub taken : IsTaken old new part.Configuration
  pub given : IsTrue old.tells → AreGivenBy old new name x
  pub few : x.given.rest ≡ true → length x.given.front.items ≤ 4

-- why they are not: no more files came to be than tell it
abbrev pub IsUnready : Asked → View → View → Unready → Type 0
IsUnready a old new (unready.Stop s) = Meets old new a s × CameAlong (take (reach s) (inputs_plan a)) old new
IsUnready a old new unready.NoMemory = Unit {0}
