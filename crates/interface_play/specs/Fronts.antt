-- What the outputs of a play hold, however it ends.
use Rattle.std.specs.Prelude.{◌≡◌, ◌⊎◌, ℕ, List, [], ◌++◌, None, Some, false, if◌then◌else◌}
use Rattle.altq_model.specs.Arrivals.{bare_arrivals}
use Rattle.altq_model.specs.History.{LabelledEvent}
use Rattle.altq_model.specs.Play.{IsPlay}
use Rattle.capture_model.specs.Capture.{Record, Step, Reads, IsLast}
use Rattle.capture_model.specs.Header.{capture_header}
use Rattle.conf_tree.specs.declared.interface.Interface.{Interface}
use Rattle.file_plans.specs.End.{Untouched}
use Rattle.file_plans.specs.Plan.{Place, number_of}
use Rattle.interface_marks.specs.Conditioners.{is_conditioned}
use Rattle.play_base.specs.View.{View}
use Rattle.play_core.specs.Ended.{IsBegun}
use Rattle.play_loop.specs.Setup.{Setup, arrivals_in, departures_of, fates_of, statistics_of}
use Rattle.play_text.specs.Texts.{fates_header}
use Rattle.interface_play.specs.Failing.{TookWithin}
use Rattle.interface_play.specs.Played.{HoldTexts}
use Rattle.interface_play.specs.Setup.{setup_of}
use Rattle.interface_play.specs.Source.{Places, Source, played_of}

-- the place was not created and its name holds what it held before the run, or it holds a front of this text
abbrev pub IsFrontAt : View → View → Place → (text : List ℕ) → Type 0
IsFrontAt old new e text =
    (Untouched old new (number_of e) × (new.bytes e.name ≡ old.bytes e.name))
    ⊎ ((front : List ℕ) × (rest : List ℕ) × (new.bytes e.name ≡ Some front) × (front ++ rest ≡ text))

-- the statistics hold nothing, or departures and fates hold exactly the texts of the whole play of these records, and the statistics a
-- front of its own
abbrev pub HasStatsFront : View → View → Places → Setup → List Record → Type 0
HasStatsFront old new w x records =
    IsFrontAt old new w.stats []
    ⊎ ((g : List LabelledEvent) × IsPlay x.policy x.rate x.seed (bare_arrivals (arrivals_in x records)) g × HoldTexts new w x records g
    × IsFrontAt old new w.stats (statistics_of x (arrivals_in x records) g))

-- departures and fates hold fronts of the texts of the first events of the play of these records
pub record HasFronts (old new : View) (w : Places) (x : Setup) (records : List Record) : Type 0 where
  pub history : List LabelledEvent
  pub begun : IsBegun x.policy x.rate x.seed (bare_arrivals (arrivals_in x records)) history
  pub departures : IsFrontAt old new w.departures (departures_of x (arrivals_in x records) history)
  pub fates : IsFrontAt old new w.fates (fates_of x (arrivals_in x records) history)
  pub stats : HasStatsFront old new w x records

-- the place's name holds these bytes, and maybe more
abbrev pub BeginsWith : View → Place → (front : List ℕ) → Type 0
BeginsWith v e front = (more : List ℕ) × (v.bytes e.name ≡ Some (front ++ more))

-- departures and fates begin with their heads
abbrev pub HaveHeads : View → Places → Type 0
HaveHeads v w = BeginsWith v w.departures capture_header × BeginsWith v w.fates fates_header

-- the fates' place was not created or holds nothing, or the departures' place holds its whole head
abbrev pub RowsWait : View → View → Places → Type 0
RowsWait old new w = IsFrontAt old new w.fates [] ⊎ BeginsWith new w.departures capture_header

-- how many bytes of a classic capture a marker holds at most: those of the longest record with its header; none without conditioners
abbrev pub most_held : Interface → ℕ
most_held i = if is_conditioned i then 262160 else 0

-- of the capture no more was taken than its first four bytes, which tell its format, and what a marker holds
pub record TookFirst (old new : View) (w : Places) (s : Source) : Type 0 where
  pub file : ℕ
  pub fresh : old.part file ≡ None
  pub part : new.part file ≡ Some (number_of w.arrivals)
  pub took : TookWithin (most_held s.interface) new file 4 s.capture

-- THE HEADS COME FIRST: unless both places hold theirs, the fates' holds nothing unless the departures' holds all of its own and, once the
-- departures are created, of a capture that is read as it is played only the first bytes were taken
abbrev pub HeadsFirst : View → View → Places → Source → Type 0
HeadsFirst old new w s =
    HaveHeads new w
    ⊎ (RowsWait old new w × (s.in_memory ≡ false → Untouched old new (number_of w.departures) ⊎ TookFirst old new w s))

-- WHAT A PLAY OF A SOURCE LEAVES, however it ends: its heads, and fronts of the texts of the play of its complete records
pub record Fronts (old new : View) (w : Places) (seed : ℕ) (s : Source) : Type 0 where
  pub heads : HeadsFirst old new w s
  pub texts : (records : List Record) (last : Step) → Reads (played_of s) records last → IsLast last
      → HasFronts old new w (setup_of s.interface seed) records
