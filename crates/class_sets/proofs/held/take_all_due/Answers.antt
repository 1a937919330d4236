use Rattle.std.proofs.Common.{◌<◌, ◌/◌, arith}
use Rattle.class_sets.proofs.held.take_all_due.Goals as goal

pub returns-clause-late : goal.returns-clause-late
returns-clause-late c = λ k e.
    let few : k < 256 = c.requires.few k (c.loop-group.invariant.fewer k e) in
    let group : k / 16 < c.loop-group.group = omega (arith, few, c.loop-group-test.false) in
    c.loop-group.invariant.late k group e
