-- A play as it went, and what is seen of it of its source.
use Rattle.std.proofs.Common.{◌≡◌, ◌<◌, ◌⊎◌, ℕ, Bool, true, false, cond, List, [], Some, Ok, Err, sym, subst}
use Rattle.std.specs.Prelude.{IsTrue}
use Rattle.std.specs.declared.result.Result.{Result}
use Rattle.altq_model.specs.History.{LabelledEvent}
use Rattle.altq_model.specs.Lawful.{greatest}
use Rattle.capture_model.specs.Capture.{Record, Step, End, Fault, Limit, Reads, IsCapture, IsLast}
use Rattle.conf_tree.specs.declared.interface.Interface.{Interface}
use Rattle.interface_marks.specs.Conditioners.{is_conditioned, marked_in}
use Rattle.pcapng_files.specs.Fronts.{with_front}
use Rattle.play_base.specs.Holds.{HoldsAt}
use Rattle.play_base.specs.View.{View, ReadFault, WriteFault}
use Rattle.play_core.specs.declared.totals.Totals.{Totals}
use Rattle.play_core.specs.Finished.{IsStopped}
use Rattle.play_loop.specs.declared.fault.Limit.TheVariants as limit
use Rattle.play_loop.specs.declared.fault.Opened.{Opened}
use Rattle.play_loop.specs.declared.fault.Output.TheVariants as output
use Rattle.play_loop.specs.declared.fault.PlayFault.{PlayFault}
use Rattle.play_loop.specs.declared.fault.PlayFault.TheVariants as play
use Rattle.play_loop.specs.declared.kept.KeptFate.{KeptFate}
use Rattle.play_loop.specs.Played.{HasBegunStats, HasOffered, HasStopped, HaveHeads, HoldTexts, RowsWait, start_of}
use Rattle.play_loop.specs.Setup.{Setup, arrivals_in}
use Rattle.play_loop.specs.Told.{HasDecided, HasTold}
use Rattle.interface_play.specs.declared.play.Play.{Play}
use Rattle.interface_play.specs.Failing.{AreTaken, StreamsWithin, TookWithin, most_past}
use Rattle.interface_play.specs.Fronts.{most_held}
use Rattle.interface_play.specs.Setup.{Untold, setup_of}
use Rattle.interface_play.specs.Source.{OfSource, Source}

-- the files before it, with the outputs created, and after it; and the files that it plays
pub record Run : Type 0 where
  pub old : View
  pub created : View
  pub after : View
  pub play : Play
  pub opened : Opened

abbrev pub setup_in : Run → Setup
setup_in r = setup_of r.play.interface.now r.play.seed

-- this capture comes to its interface
abbrev pub IsGiven : Run → (capture : List ℕ) → Type 0
IsGiven r capture = with_front true r.play.given.now.rest r.play.given.now.front.items (r.old.left r.play.file) ≡ Some capture

abbrev pub source_in : Run → (capture : List ℕ) → Source
source_in r capture = record { interface = r.play.interface.now; capture = capture; in_memory = cond r.play.given.now.rest false true }

pub of_source : (r : Run) (P : Source → Type 0) → (IsTrue r.old.tells → (capture : List ℕ) → IsGiven r capture → P (source_in r capture)) → OfSource r.old r.play P
of_source r P x = λ t s h.
    let I : Interface → Type 0 = λ i. P (record { interface = i; capture = s.capture; in_memory = s.in_memory }) in
    let B : Bool → Type 0 = λ b. P (record { interface = r.play.interface.now; capture = s.capture; in_memory = b }) in
    subst I (sym h.interface) (subst B (sym h.in_memory) (x t s.capture h.capture))

-- P holds of what is played, where the files tell
abbrev pub Sees : Run → (List ℕ → Type 0) → Type 0
Sees r P = IsTrue r.old.tells → (capture : List ℕ) → IsGiven r capture → P (marked_in r.play.interface.now capture)

-- what came of these bytes
abbrev pub ToldOf : Setup → (List LabelledEvent → Type 0) → (List KeptFate → Type 0) → View → Opened → Totals → (bytes : List ℕ) → Type 0
ToldOf x stood kept c o totals bytes = (records : List Record) × IsCapture bytes records × HasTold x stood kept c o records totals

abbrev pub FrontsOf : Setup → View → Opened → (bytes : List ℕ) → Type 0
FrontsOf x c o bytes = (records : List Record) (last : Step) → Reads bytes records last → IsLast last → HasStopped x c o records

abbrev pub OffersOf : Setup → View → Opened → Step → (bytes : List ℕ) → Type 0
OffersOf x c o last bytes = (records : List Record) × Reads bytes records last × HasOffered x Untold c o records

abbrev pub StatsOf : Setup → View → Opened → (bytes : List ℕ) → Type 0
StatsOf x c o bytes = (records : List Record) × IsCapture bytes records × HasBegunStats x c o records

abbrev pub ShortIn : Run → (bytes : List ℕ) → Type 0
ShortIn r bytes = (records : List Record) × AreTaken (is_conditioned r.play.interface.now) r.after r.opened.arrivals bytes records
    × HasOffered (setup_in r) Untold r.after r.opened records

pub record LateIn (r : Run) (bytes : List ℕ) : Type 0 where
  pub records : List Record
  pub last : Step
  pub history : List LabelledEvent
  pub totals : Totals
  pub reads : Reads bytes records last
  pub is_last : IsLast last
  pub play : IsStopped (setup_in r).policy (setup_in r).rate (setup_in r).seed (arrivals_in (setup_in r) records) history totals
  pub texts : HoldTexts r.after r.opened (setup_in r) (arrivals_in (setup_in r) records) history
  pub before : (last ≡ End) ⊎ (start_of play.cut.next.what < greatest 0 records)
  pub streams : r.play.given.now.rest ≡ true
      → StreamsWithin (most_past r.play.interface.now) r.after r.opened.arrivals bytes records (start_of play.cut.next.what)

-- when each fault of a play comes
abbrev pub Explained : Run → PlayFault → Type 0
Explained r (play.Capture damage) = Sees r (OffersOf (setup_in r) r.after r.opened (Fault damage))
Explained r play.Read = ReadFault r.created r.after r.opened.arrivals × (r.play.given.now.rest ≡ true → Sees r (ShortIn r))
Explained r (play.Write output.Departures) = WriteFault r.created r.after r.opened.departures
Explained r (play.Write output.Fates) = WriteFault r.created r.after r.opened.fates
Explained r (play.Write output.Statistics) = WriteFault r.created r.after r.opened.stats
Explained r (play.Limit limit.Capture) = Sees r (OffersOf (setup_in r) r.after r.opened Limit)
Explained r (play.Limit limit.Clock) = Sees r (LateIn r)
Explained r play.NoMemory = Unit {0}

-- what the statistics hold
abbrev pub StatsBegun : Run → Type 0
StatsBegun r = HoldsAt r.after r.opened.stats [] ⊎ Sees r (StatsOf (setup_in r) r.after r.opened)

abbrev pub StatsLeft : Run → PlayFault → Type 0
StatsLeft r (play.Capture damage) = HoldsAt r.after r.opened.stats []
StatsLeft r play.Read = HoldsAt r.after r.opened.stats []
StatsLeft r (play.Write output.Departures) = HoldsAt r.after r.opened.stats []
StatsLeft r (play.Write output.Fates) = HoldsAt r.after r.opened.stats []
StatsLeft r (play.Write output.Statistics) = Sees r (StatsOf (setup_in r) r.after r.opened)
StatsLeft r (play.Limit limit) = HoldsAt r.after r.opened.stats []
StatsLeft r play.NoMemory = StatsBegun r

-- the heads stand, or of the fates nothing before those of the departures, and of a capture that is read as it is played few bytes were taken
abbrev pub TookFirst : Run → Type 0
TookFirst r = r.play.given.now.rest ≡ true → (capture : List ℕ) → IsGiven r capture
    → TookWithin (most_held r.play.interface.now) r.after r.opened.arrivals 4 capture

abbrev pub HeadsIn : Run → Type 0
HeadsIn r = IsTrue r.old.tells → HaveHeads r.after r.opened.departures r.opened.fates
    ⊎ (RowsWait r.after r.opened.departures r.opened.fates × TookFirst r)

-- what came of the play
abbrev pub CameIn : Run → (List LabelledEvent → Type 0) → (List KeptFate → Type 0) → Result Totals PlayFault → Type 0
CameIn r stood kept (Ok totals) = Sees r (ToldOf (setup_in r) stood kept r.after r.opened totals) × HasDecided (setup_in r) kept totals
CameIn r stood kept (Err fault) = Explained r fault × Sees r (FrontsOf (setup_in r) r.after r.opened) × StatsLeft r fault × HeadsIn r
