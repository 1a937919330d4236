-- What the inputs of a command say: its configuration and, where it reads one, its capture of arrivals.
use Rattle.std.specs.Prelude.{◌≡◌, ℕ, true, List, length, find, bytes_eq, nat_lt, if◌then◌else◌, Option, None, Some, Result, Ok, Err, option_map}
use Rattle.arrivals_front.specs.Given.{ReadAs, is_pcapng}
use Rattle.conf_lines.specs.declared.fault.ConfKind.TheVariants.{NoInterface}
use Rattle.conf_lines.specs.declared.fault.ConfPlace.{ConfPlace}
use Rattle.conf_lines.specs.Texts.{statements_of}
use Rattle.conf_tree.specs.declared.interface.Interface.{Interface}
use Rattle.conf_tree.specs.Places.{fault_at}
use Rattle.conf_tree.specs.Reading.{reading}
use Rattle.file_plans.specs.End.{most_configuration}
use Rattle.pcapng_files.specs.Converted.{IsCause}
use Rattle.pcapng_files.specs.declared.fault.NgFault.{NgFault}
use Rattle.pcapng_files.specs.declared.fault.NgFault.TheVariants as ng
use Rattle.play_base.specs.View.{View}
use Rattle.run_inputs.specs.declared.stop.Stop.{Stop}
use Rattle.run_inputs.specs.declared.stop.Stop.TheVariants as stop

-- what a command asks of them: the interface and, of `chain`, the next one; and the name of arrivals that are there before the run
-- (none of `check`, `bound` and `make`)
pub record Asked : Type 0 where
  pub config : List ℕ
  pub interface : List ℕ
  pub next : Option (List ℕ)
  pub arrivals : Option (List ℕ)

-- a configuration that has the interfaces asked for
pub record Configured : Type 0 where
  pub interfaces : List Interface
  pub found : Interface
  pub next : Option Interface

-- what is given under the arrivals' name, and the classic capture that it is read as
pub record Given : Type 0 where
  pub bytes : List ℕ
  pub capture : List ℕ

-- inputs that stop no command
pub record Inputs : Type 0 where
  pub configured : Configured
  pub given : Option Given

-- what the inputs say: they stop every command, or none
pub data Said : Type 0 where
  Stops : Stop → Said
  Ready : Inputs → Said

-- an interface that is absent is NoInterface at line 0, word 0
abbrev pub absent : ConfPlace
absent = fault_at 0 0 NoInterface

abbrev pub interface_of : List ℕ → List Interface → Option Interface
interface_of name interfaces = find (λ i. bytes_eq name i.name) interfaces

-- what a text says
pub data Text : Type 0 where
  TooLong : Text
  RefusedAt : ConfPlace → Text
  Accepted : Configured → Text

abbrev pub with_next : List Interface → Interface → Option (Option Interface) → Text
with_next interfaces found None = Accepted (record { interfaces = interfaces; found = found; next = None })
with_next interfaces found (Some None) = RefusedAt absent
with_next interfaces found (Some (Some j)) = Accepted (record { interfaces = interfaces; found = found; next = Some j })

abbrev pub with_interface : Asked → List Interface → Option Interface → Text
with_interface a interfaces None = RefusedAt absent
with_interface a interfaces (Some i) = with_next interfaces i (option_map (λ name. interface_of name interfaces) a.next)

abbrev pub text_read : Asked → Result (List Interface) ConfPlace → Text
text_read a (Err place) = RefusedAt place
text_read a (Ok interfaces) = with_interface a interfaces (interface_of a.interface interfaces)

abbrev pub text_of : Asked → List ℕ → Text
text_of a bytes = if nat_lt most_configuration (length bytes) then TooLong else text_read a (reading (statements_of bytes))

-- the bytes under the configuration's name say this
pub record TextSays (v : View) (a : Asked) (t : Text) : Type 0 where
  pub bytes : List ℕ
  pub at : v.bytes a.config ≡ Some bytes
  pub says : text_of a bytes ≡ t

-- the configuration has the interfaces asked for, and P holds of the arrivals' name
pub record OfArrivals (v : View) (a : Asked) (P : List ℕ → Type 0) : Type 0 where
  pub configured : Configured
  pub says : TextSays v a (Accepted configured)
  pub name : List ℕ
  pub asked : a.arrivals ≡ Some name
  pub holds : P name

-- the bytes under a name begin as a pcapng file, and have this fault
pub record IsNoPcapng (v : View) (name : List ℕ) (f : NgFault) : Type 0 where
  pub bytes : List ℕ
  pub at : v.bytes name ≡ Some bytes
  pub begins : is_pcapng bytes ≡ true
  pub cause : IsCause f bytes

-- these bytes are given under the arrivals' name, and read as this capture: as they stand or, of a pcapng file, as that of its packets
abbrev pub AreGiven : View → Option (List ℕ) → Option Given → Type 0
AreGiven v None None = Unit {0}
AreGiven v None (Some g) = ⊥
AreGiven v (Some name) None = ⊥
AreGiven v (Some name) (Some g) = (v.bytes name ≡ Some g.bytes) × ReadAs g.bytes g.capture

pub record AreReady (v : View) (a : Asked) (i : Inputs) : Type 0 where
  pub configured : TextSays v a (Accepted i.configured)
  pub given : AreGiven v a.arrivals i.given

-- why inputs stop a command
abbrev pub AreStopped : View → Asked → Stop → Type 0
AreStopped v a stop.NoConfiguration = v.bytes a.config ≡ None
AreStopped v a stop.LongConfiguration = TextSays v a TooLong
AreStopped v a (stop.Refused place) = TextSays v a (RefusedAt place)
AreStopped v a stop.NoArrivals = OfArrivals v a (λ name. v.bytes name ≡ None)
AreStopped v a (stop.NoPcapng block) = OfArrivals v a (λ name. IsNoPcapng v name (ng.At block))
AreStopped v a stop.LongPcapng = OfArrivals v a (λ name. IsNoPcapng v name ng.Limit)

-- THE RELATION. It holds of one s, and of no other (`inputs_say_one_thing`)
abbrev pub Says : View → Asked → Said → Type 0
Says v a (Stops s) = AreStopped v a s
Says v a (Ready i) = AreReady v a i

-- how many places of the plan may have come to be where the inputs stop so
abbrev pub reach : Stop → ℕ
reach stop.NoConfiguration = 1
reach stop.LongConfiguration = 1
reach (stop.Refused place) = 1
reach stop.NoArrivals = 2
reach (stop.NoPcapng block) = 2
reach stop.LongPcapng = 2
