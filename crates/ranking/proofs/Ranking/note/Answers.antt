use Rattle.std.proofs.Common.{arith}
use Rattle.ranking.specs.Keys.{all_keys}
use Rattle.ranking.proofs.Kept.{noted_below, noted_ranked, set_length}
use Rattle.ranking.proofs.Ranking.note.Goals as goal

pub invariant_of-self : goal.invariant_of-self
invariant_of-self c =
    let keys = all_keys c.args.self.now.keys in
    let after = all_keys c.set.new.self in
    let order = c.args.self.now.order.items in
    record {
      ranked = noted_ranked keys after order c.args.class c.args.key c.set.ensures.keys c.requires.absent c.args.self.now.ranked;
      below = noted_below keys after order c.args.class c.args.key c.set.ensures.keys c.args.self.now.below;
      room =
          let room = c.args.self.now.room in
          let same = set_length keys after c.args.class c.args.key c.set.ensures.keys in
          omega arith;
    }
