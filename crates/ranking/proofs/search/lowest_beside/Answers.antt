use Rattle.std.proofs.Common.{rules}
use Rattle.ranking.specs.Keys.{all_keys}
use Rattle.ranking.proofs.Moved.{found_any, found_beside}
use Rattle.ranking.proofs.search.lowest_beside.Goals as goal

pub returns-then-goes_first : goal.returns-then-goes_first
returns-then-goes_first c =
    found_beside (all_keys c.args.keys.now) c.args.order.now c.args.class c.args.from c.requires.from (search rules) c.requires.ranked (search rules)

pub returns-else-goes_first : goal.returns-else-goes_first
returns-else-goes_first c = found_any (all_keys c.args.keys.now) c.args.order.now c.args.class c.args.from c.requires.from
