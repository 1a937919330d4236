-- A play of one interface: what it leaves.
use Rattle.std.specs.Prelude.{◌≡◌, ℕ, List, Some}
use Rattle.altq_model.specs.Arrivals.{bare_arrivals}
use Rattle.altq_model.specs.Departures.{departed}
use Rattle.altq_model.specs.History.{LabelledEvent, journal}
use Rattle.capture_model.specs.Capture.{Record, IsCapture}
use Rattle.frame_classes.specs.Frames.{dress_in}
use Rattle.interface_policy.specs.Promises.{KeepsPromises}
use Rattle.play_base.specs.View.{View}
use Rattle.play_core.specs.declared.totals.Totals.{Totals}
use Rattle.play_core.specs.Finished.{IsFinished}
use Rattle.play_loop.specs.declared.kept.KeptFate.{KeptFate}
use Rattle.play_loop.specs.KeptFates.{kept_fates}
use Rattle.play_loop.specs.Played.{IsStanding}
use Rattle.play_loop.specs.Setup.{Setup, arrivals_in, departures_of, fates_of, statistics_of}
use Rattle.interface_play.specs.Setup.{setup_of}
use Rattle.interface_play.specs.Source.{Places, Source, played_of}

-- departures and fates hold exactly the texts of this history
pub record HoldTexts (v : View) (w : Places) (x : Setup) (records : List Record) (g : List LabelledEvent) : Type 0 where
  pub departures : v.bytes w.departures.name ≡ Some (departures_of x (arrivals_in x records) g)
  pub fates : v.bytes w.fates.name ≡ Some (fates_of x (arrivals_in x records) g)

-- THE PLAY OF A SOURCE. The capture is one of these records, and this is the history of their play; departures, fates and statistics hold
-- its texts, departures are a capture of what was sent, in the order of decision, and the history keeps what the interface promises
pub record WasPlayed (v : View) (w : Places) (seed : ℕ) (s : Source) : Type 0 where
  pub records : List Record
  pub history : List LabelledEvent
  pub totals : Totals
  pub capture : IsCapture (played_of s) records
  pub play : IsFinished (setup_of s.interface seed).policy s.interface.rate seed (arrivals_in (setup_of s.interface seed) records) history totals
  pub texts : HoldTexts v w (setup_of s.interface seed) records history
  pub stats : v.bytes w.stats.name ≡ Some (statistics_of (setup_of s.interface seed) (arrivals_in (setup_of s.interface seed) records) history)
  pub reads : IsCapture (departures_of (setup_of s.interface seed) (arrivals_in (setup_of s.interface seed) records) history)
      (departed (dress_in s.interface) (arrivals_in (setup_of s.interface seed) records) history)
  pub promises : KeepsPromises s.interface (bare_arrivals (arrivals_in (setup_of s.interface seed) records)) history

-- that, with these counts; a discipline represents the history, and a keeper was told its journal, each decision with its packet's arrival
pub record IsDone (stood : List LabelledEvent → Type 0) (kept : List KeptFate → Type 0) (v : View) (w : Places) (seed : ℕ) (t : Totals)
    (s : Source) : Type 0 where
  pub played : WasPlayed v w seed s
  pub totals : played.totals ≡ t
  pub stands : IsStanding stood played.history
  pub told : kept (kept_fates (arrivals_in (setup_of s.interface seed) played.records) (journal played.history))
