use Rattle.std.proofs.Common.{take, arith}
use Rattle.std.proofs.lemmas.Grind.{common_steps}
use Rattle.play_base.proofs.ViewLaws.{same_trans, still_there}
use Rattle.arrivals_front.proofs.TakingLemmas.{gained_more, up_to, up_to_more, up_to_unchanged}
use Rattle.arrivals_front.proofs.taking.take_to.Goals as goal

pub loop-piece-preserved : goal.loop-piece-preserved
loop-piece-preserved g c = record {
  few = grind (arith, common_steps);
  there = still_there _ _ _ _ _ c.in-Ok.ensures.took.keeps c.loop-piece.invariant.there;
  gained = gained_more _ _ _ _ _ c.loop-piece.taken.items _ (take c.in-Ok.count c.read.new.into) (grind (arith, common_steps))
      c.loop-piece.invariant.gained c.in-Ok.ensures.took;
  no_fault = same_trans _ _ _ c.loop-piece.invariant.no_fault c.in-Ok.ensures.counts;
}

pub returns-in-Err-clause-took : goal.returns-in-Err-clause-took
returns-in-Err-clause-took g c =
    up_to_unchanged _ _ _ _ _ c.args.taken.now.items c.loop-piece.taken.items c.loop-piece.invariant.there c.loop-piece.invariant.few
    c.loop-piece.invariant.gained c.in-Err.ensures.refused

pub returns-then-count-eq0-clause-took : goal.returns-then-count-eq0-clause-took
returns-then-count-eq0-clause-took g c =
    up_to_more _ _ _ _ _ c.in-Ok.count c.args.taken.now.items c.loop-piece.taken.items c.read.new.into
    (omega (arith, c.if-count-eq0.true, c.loop-piece.invariant.few)) c.loop-piece.invariant.gained c.in-Ok.ensures.took

pub returns-then-is_err-clause-took : goal.returns-then-is_err-clause-took
returns-then-is_err-clause-took g c =
    up_to_more _ _ _ _ _ c.in-Ok.count c.args.taken.now.items c.loop-piece.taken.items c.read.new.into
    (grind (arith, common_steps)) c.loop-piece.invariant.gained c.in-Ok.ensures.took

pub returns-clause-took : goal.returns-clause-took
returns-clause-took g c = up_to _ _ _ _ c.args.taken.now.items c.loop-piece.taken.items c.loop-piece.invariant.few c.loop-piece.invariant.gained
