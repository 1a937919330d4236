-- Nothing is counted yet in the outputs.
use Rattle.std.proofs.Common.{List, [], subst, sym}
use Rattle.altq_model.specs.declared.Counts.{Counts}
use Rattle.class_counts.specs.Counting.{HasCounted}
use Rattle.play_loop.proofs.playing.play_capture.Goals as goal

pub play_opened-requires-clause-none : goal.play_opened-requires-clause-none
play_opened-requires-clause-none g c =
    let C : List Counts → Type 0 = λ k. HasCounted c.args.names.now [] [] k in
    subst C (sym c.new-outputs.ensures.counts) c.requires.none
