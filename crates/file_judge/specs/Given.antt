-- Given files, and the play of an interface that they are held to.
use Rattle.std.specs.Prelude.{◌&&◌, ℕ, Bool, true, false, not, is_some, List, map, Option}
use Rattle.std.specs.List.{list_any}
use Rattle.altq_model.specs.Arrivals.{arrivals_of, bare_arrivals}
use Rattle.altq_model.specs.Departures.{Dressing}
use Rattle.altq_model.specs.History.{Arrival}
use Rattle.capture_model.specs.Capture.{Record}
use Rattle.conf_tree.specs.declared.class.Class.{Class}
use Rattle.conf_tree.specs.declared.interface.Interface.{Interface}
use Rattle.conf_tree.specs.declared.interface.Kind.{Kind}
use Rattle.conf_tree.specs.declared.interface.Kind.TheVariants.{Hfsc, Cbq}
use Rattle.fate_check.specs.declared.reading.Row.{Row}
use Rattle.fate_departures.specs.Frames.{Packets}
use Rattle.fate_judge.specs.Judged.{Case}
use Rattle.fate_timely.specs.Timely.{longest_sent}
use Rattle.frame_classes.specs.Frames.{dress_in, place_in}
use Rattle.given_play.specs.Rights.{allowed_of, marks_of}
use Rattle.hfsc_model.specs.RealTime.{unless_zero}
use Rattle.play_base.specs.Units.{ceil_div, units}
use Rattle.service_curve.specs.declared.Curve.{Curve}

-- an interface, the records of its arrivals, and the bytes of departures and of fates
pub record Given : Type 0 where
  pub interface : Interface
  pub records : List Record
  pub departures : List ℕ
  pub fates : List ℕ

-- the packets as they arrive at its classes
abbrev pub arrived_in : Given → List Arrival
arrived_in g = bare_arrivals (arrivals_of (place_in g.interface) g.records)

-- what rows are held to
abbrev pub case_of : Given → List Row → Case
case_of g rows = record { rate = g.interface.rate; classes = allowed_of g.interface; arrived = arrived_in g; rows = rows }

-- the packets and their captured bytes, and how these leave
abbrev pub captured_of : Record → List ℕ
captured_of r = r.captured

abbrev pub packets_in : Given → Packets
packets_in g = record { arrived = arrived_in g; frames = map captured_of g.records; marks = marks_of g.interface }

abbrev pub dress_of : Given → Dressing
dress_of g = dress_in g.interface

-- HFSC where no class has an upper limit: its link never idles while a packet waits
abbrev pub has_limit : Class → Bool
has_limit c = is_some c.upper

abbrev pub is_hfsc : Kind → Bool
is_hfsc Hfsc = true
is_hfsc Cbq = false

abbrev pub is_unlimited : Interface → Bool
is_unlimited i = is_hfsc i.kind && not (list_any has_limit i.classes)

-- the real-time curve of each class that has one; a curve that is 0 everywhere counts as none
abbrev pub curve_in : Class → Option Curve
curve_in c = unless_zero c.real

abbrev pub curves_in : Interface → List (Option Curve)
curves_in i = map curve_in i.classes

-- the time of the longest packet that rows send, rounded up
abbrev pub longest_time : (rate : ℕ) → List Row → ℕ
longest_time rate rows = ceil_div (units (longest_sent rows)) rate
