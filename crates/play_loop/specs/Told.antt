-- A whole play of which each decision was told: `kept` holds of what was.
use Rattle.std.specs.Prelude.{List}
use Rattle.altq_model.specs.Arrivals.{Captured}
use Rattle.altq_model.specs.History.{LabelledEvent, journal}
use Rattle.capture_model.specs.Capture.{Record, IsCapture}
use Rattle.play_base.specs.View.{View}
use Rattle.play_core.specs.declared.totals.Totals.{Totals}
use Rattle.play_core.specs.Finished.{IsFinished}
use Rattle.play_loop.specs.declared.fault.Opened.{Opened}
use Rattle.play_loop.specs.declared.kept.KeptFate.{KeptFate}
use Rattle.play_loop.specs.KeptFates.{kept_fates}
use Rattle.play_loop.specs.Played.{HasPlayed, OfArrivals}
use Rattle.play_loop.specs.Setup.{Setup, arrivals_in}

-- the play of these records, whose journal was told
pub record HasTold (x : Setup) (stood : List LabelledEvent → Type 0) (kept : List KeptFate
    → Type 0) (v : View) (o : Opened) (records : List Record) (t : Totals) : Type 0 where
  pub played : HasPlayed x stood v o records t
  pub told : kept (kept_fates (arrivals_in x records) (journal played.history))

-- what the arrivals hold is a capture, and this is its play
abbrev pub Tells : Setup → (List LabelledEvent → Type 0) → (List KeptFate → Type 0) → View → View → Opened → Totals → Type 0
Tells x stood kept old new o t = OfArrivals old o (λ bytes. (records : List Record) × IsCapture bytes records × HasTold x stood kept new o records t)

-- whatever the files tell: a whole play of some arrivals, whose journal was told
pub record HasDecided (x : Setup) (kept : List KeptFate → Type 0) (t : Totals) : Type 0 where
  pub arrived : List Captured
  pub history : List LabelledEvent
  pub play : IsFinished x.policy x.rate x.seed arrived history t
  pub told : kept (kept_fates arrived (journal history))
