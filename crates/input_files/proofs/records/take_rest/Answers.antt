use Rattle.std.proofs.Common.{◌++◌, arith, inl, inr, length-append, length-take, take}
use Rattle.std.proofs.lemmas.Grind.{common_steps}
use Rattle.play_base.proofs.ViewLaws.{still_there, took_more}
use Rattle.input_files.proofs.records.take_rest.Goals as goal

pub returns-then-count-eq0-clause-out : goal.returns-then-count-eq0-clause-out
returns-then-count-eq0-clause-out g c = inl (c.in-Ok.ensures.end c.if-count-eq0.true (grind (arith, common_steps)))

pub returns-clause-out : goal.returns-clause-out
returns-clause-out g c =
    let x = c.loop-taken.invariant.some in
    let long = c.loop-taken-test.false in
    let is = x.2 in
    inr (x.0, x.1, omega (arith, long, is))

pub loop-taken-preserved : goal.loop-taken-preserved
loop-taken-preserved g c =
    let x = c.loop-taken.invariant.some in
    let next = take c.in-Ok.count c.read.new.into in
    record {
      there = still_there _ _ _ _ _ c.in-Ok.ensures.took.keeps c.loop-taken.invariant.there;
      some = (
        x.0 ++ next,
        took_more _ _ _ c.args.file x.0 next x.1 c.in-Ok.ensures.took,
        omega (arith, x.2, c.in-Ok.ensures.count, length-append x.0 next, length-take c.in-Ok.count c.read.new.into),
      );
      few = grind (arith, common_steps);
    }
