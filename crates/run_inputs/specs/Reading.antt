-- What the steps of reading the inputs promise.
use Rattle.std.specs.Prelude.{◌≡◌, ◌≤◌, ℕ, Bool, true, false, List, [], ◌∷◌, length, None, Some, Ok, IsTrue, option_map}
use Rattle.arrivals_front.specs.Given.{Follows, IsBegunAt}
use Rattle.arrivals_front.specs.declared.given.GivenFault.{GivenFault}
use Rattle.arrivals_front.specs.declared.given.GivenFault.TheVariants as fault
use Rattle.conf_tree.specs.declared.interface.Interface.{Interface}
use Rattle.file_plans.specs.Came.{Came, CameAlong}
use Rattle.file_plans.specs.declared.part.Part.TheVariants as part
use Rattle.file_plans.specs.End.{most_configuration}
use Rattle.file_plans.specs.Plan.{Place, number_of, read_place}
use Rattle.pcapng_files.specs.declared.fault.NgFault.TheVariants as ng
use Rattle.play_base.specs.View.{View, Everything, Keeps}
use Rattle.play_base.specs.declared.trouble.Trouble.{Trouble}
use Rattle.play_base.specs.declared.trouble.Trouble.TheVariants as trouble
use Rattle.run_inputs.specs.declared.inputs.Arrivals.{Arrivals}
use Rattle.run_inputs.specs.declared.inputs.Unready.{Unready}
use Rattle.run_inputs.specs.declared.inputs.Unready.TheVariants as unready
use Rattle.run_inputs.specs.declared.reading.Text.{Text}
use Rattle.run_inputs.specs.declared.stop.Stop.{Stop}
use Rattle.run_inputs.specs.declared.stop.Stop.TheVariants as stop
use Rattle.run_inputs.specs.Had.{IsAccepted}
use Rattle.run_inputs.specs.Meets.{CannotRead, IsTaken}
use Rattle.run_inputs.specs.Says.{Accepted, Asked, Configured, IsNoPcapng, RefusedAt, absent, interface_of, text_of, text_read}

-- at most the file of this place came to be, and no other was read
pub record IsReadAlone (e : Place) (old new : View) : Type 0 where
  pub along : CameAlong (e ∷ []) old new
  pub keeps : Keeps Everything Everything old new
  pub only : (f p : ℕ) → old.part f ≡ None → new.part f ≡ Some p → p ≡ number_of e
  pub said : new.said ≡ old.said

-- the whole text of the configuration's file, of no more bytes than a configuration may have
pub record IsWhole (old new : View) (a : Asked) (t : Text) : Type 0 where
  pub came : Came (read_place part.Configuration a.config ∷ []) (t.file ∷ []) old new
  pub taken : IsTaken old new part.Configuration
  pub short : length t.bytes.items ≤ most_configuration
  pub at : IsTrue old.tells → old.bytes a.config ≡ Some t.bytes.items

-- a configuration has the interfaces asked for, or lacks one
pub record Finds (a : Asked) (interfaces : List Interface) (c : Configured) : Type 0 where
  pub says : text_read a (Ok interfaces) ≡ Accepted c
  pub same : c.interfaces ≡ interfaces
  pub found : interface_of a.interface interfaces ≡ Some c.found
  pub next : option_map (λ name. interface_of name interfaces) a.next ≡ option_map (λ (i : Interface). Some i) c.next

abbrev pub HasAsked : Asked → List Interface → Bool → Type 0
HasAsked a interfaces true = (c : Configured) × Finds a interfaces c
HasAsked a interfaces false = text_read a (Ok interfaces) ≡ RefusedAt absent

-- the text is that of a configuration with the interfaces asked for, whatever file holds it
abbrev pub IsText : Asked → (text : List ℕ) → List Interface → Type 0
IsText a text interfaces = (c : Configured) × ((old : View) → (IsTrue old.tells → old.bytes a.config ≡ Some text) → IsAccepted old a interfaces c)

-- or is refused
abbrev pub IsNoText : Asked → (text : List ℕ) → Unready → Type 0
IsNoText a text (unready.Stop (stop.Refused place)) = text_of a text ≡ RefusedAt place
IsNoText a text (unready.Stop other) = ⊥
IsNoText a text unready.NoMemory = Unit {0}

-- the arrivals' file came to be, and was begun
pub record IsBegun (old new : View) (name : List ℕ) (x : Arrivals) : Type 0 where
  pub came : Came (read_place part.Arrivals name ∷ []) (x.file ∷ []) old new
  pub follows : IsTrue old.tells → (given : List ℕ) → old.bytes name ≡ Some given → Follows new x.file given x.given
  pub begun : IsTrue old.tells → (given : List ℕ) → old.bytes name ≡ Some given → IsBegunAt new x.file given
  pub there : IsTrue old.tells → (given : List ℕ) × (old.bytes name ≡ Some given)
  pub few : x.given.rest ≡ true → length x.given.front.items ≤ 4

-- what trouble with an opening or a read means, and a fault of arrivals that are begun
abbrev pub unread : Stop → Trouble → Unready
unread s trouble.Failed = unready.Stop s
unread s trouble.NoMemory = unready.NoMemory

abbrev pub unbegun : GivenFault → Unready
unbegun (fault.At block) = unready.Stop (stop.NoPcapng block)
unbegun fault.Limit = unready.Stop stop.LongPcapng
unbegun fault.Read = unready.Stop stop.NoArrivals
unbegun fault.NoMemory = unready.NoMemory

-- why it did not, or could not be
abbrev pub IsUnbegun : View → View → (name : List ℕ) → Unready → Type 0
IsUnbegun old new name (unready.Stop stop.NoArrivals) = CannotRead old new part.Arrivals name
IsUnbegun old new name (unready.Stop (stop.NoPcapng block)) = IsTrue old.tells → IsNoPcapng old name (ng.At block)
IsUnbegun old new name (unready.Stop stop.LongPcapng) = IsTrue old.tells → IsNoPcapng old name ng.Limit
IsUnbegun old new name (unready.Stop other) = ⊥
IsUnbegun old new name unready.NoMemory = Unit {0}
