use Rattle.std.proofs.Common.{arith, rules}
use Rattle.ranking.specs.Keys.{all_keys}
use Rattle.ranking.proofs.Ranks.{ranked_true}
use Rattle.ranking.proofs.Searched.{found_all, found_half, tested}
use Rattle.ranking.proofs.search.place_of.Goals as goal

pub loop-low-preserved : goal.loop-low-preserved
loop-low-preserved c =
    found_half (all_keys c.args.keys.now) c.args.order.now c.args.class c.loop-low.low _ c.loop-low.high c.chosen-low.result c.chosen-high.result c.goes_first-goes.result
    (ranked_true (all_keys c.args.keys.now) c.args.order.now c.requires.ranked) c.loop-low.invariant (omega arith) (omega arith)
    (tested (all_keys c.args.keys.now) c.args.order.now c.args.class _ _ c.get.result c.args.key c.goes_first-goes.result (search rules) c.get.ensures c.requires.key c.goes_first-goes.ensures)
    c.chosen-low.ensures c.chosen-high.ensures

pub loop-low-init : goal.loop-low-init
loop-low-init c = found_all (all_keys c.args.keys.now) c.args.order.now c.args.class
