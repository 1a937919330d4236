-- A source tells what each of its files has left, where the files behind it do: a lemma that the impl of `Files` cites, and so of specs/.
use Rattle.std.proofs.Common.{ℕ, List}
use Rattle.altq_model.specs.declared.Placed.{Placed}
use Rattle.marked_files.specs.Markings.{given}
use Rattle.marked_files.specs.Telling.{marked_tells}
use Rattle.pcapng_files.specs.declared.front.Front.{Front}
use Rattle.pcapng_files.specs.Fronts.{front_view}
use Rattle.pcapng_files.specs.Telling.{front_tells}
use Rattle.play_base.specs.View.{View, TellsLeft}
use Rattle.arrivals_source.specs.Ways.{source_view}
use Rattle.arrivals_source.specs.declared.way.Way.{Way}
use Rattle.arrivals_source.specs.declared.way.Way.TheVariants.{AsGiven, Converted, Marked, MarkedConverted}

pub source_tells : {C : Type 0} (placed : C → List ℕ → Placed) (v : View) (g file : ℕ) (front : Front) (way : Way C) → TellsLeft v
    → TellsLeft (source_view placed v g file front way)
source_tells placed v g file front AsGiven told = told
source_tells placed v g file front Converted told = front_tells v g file front.rest front.bytes.now told
source_tells placed v g file front (Marked m) told = marked_tells v g file 0 (given placed m) told
source_tells placed v g file front (MarkedConverted m) told =
    marked_tells (front_view v g file front.rest front.bytes.now) g file 0 (given placed m) (front_tells v g file front.rest front.bytes.now told)
