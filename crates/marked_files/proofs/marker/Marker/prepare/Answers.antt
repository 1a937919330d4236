use Rattle.play_base.proofs.ViewLaws.{same_refl, same_trans, still_there}
use Rattle.marked_files.proofs.Advancing.{keeps_refl}
use Rattle.marked_files.proofs.Turns.{keeps_taken, taken_more}
use Rattle.marked_files.proofs.marker.Marker.prepare.Goals as goal

pub loop-self-init : goal.loop-self-init
loop-self-init g c = record {
  there = c.requires.there;
  taken = keeps_taken g.C.Classify.placed _ c.args.file _ _ (keeps_refl g.C.Classify.placed _);
  counts = same_refl _;
}

pub loop-self-preserved : goal.loop-self-preserved
loop-self-preserved g c =
    let before = c.loop-self.invariant in
    record {
      there = still_there _ _ _ _ _ c.take.ensures.taken.took.keeps before.there;
      taken = taken_more g.C.Classify.placed _ _ _ c.args.file _ _ _ before.taken c.take.ensures.taken;
      counts = same_trans _ _ _ before.counts c.in-Ok-true.ensures.counts;
    }

pub returns-in-Ok-false-clause-taken : goal.returns-in-Ok-false-clause-taken
returns-in-Ok-false-clause-taken g c =
    taken_more g.C.Classify.placed _ _ _ c.args.file _ _ _ c.loop-self.invariant.taken c.take.ensures.taken

pub returns-in-Err-clause-taken : goal.returns-in-Err-clause-taken
returns-in-Err-clause-taken g c =
    taken_more g.C.Classify.placed _ _ _ c.args.file _ _ _ c.loop-self.invariant.taken c.take.ensures.taken
