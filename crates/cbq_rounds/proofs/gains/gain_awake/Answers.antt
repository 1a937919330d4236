use Rattle.std.proofs.Common.{ℕ, List}
use Rattle.leaf_queue.specs.declared.node.Entry.{Entry}
use Rattle.class_rows.specs.Rows.{list_in}
use Rattle.cbq_sharing.proofs.HeldLemmas.{are_awake, held_fewer}
use Rattle.cbq_rounds.proofs.gains.gain_awake.Goals as goal

pub gain_all-requires-clause-awake : goal.gain_all-requires-clause-awake
gain_all-requires-clause-awake g c =
    let lists : ℕ → List Entry = list_in c.args.rows.now in
    are_awake c.args.shares.now lists c.args.clock.now c.args.sending.now.start c.args.waiting.now c.awake-awake.result c.wake.new.held c.requires.waiting
    (held_fewer c.args.shares.now lists c.args.held.now c.wake.new.held c.requires.held c.wake.ensures.fewer c.wake.ensures.moments)
    c.requires.rate c.wake.ensures.late c.awake-awake.ensures
