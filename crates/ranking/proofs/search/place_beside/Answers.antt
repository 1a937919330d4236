use Rattle.std.proofs.Common.{arith}
use Rattle.ranking.specs.Keys.{all_keys}
use Rattle.std.specs.List.{remove}
use Rattle.ranking.proofs.Ranks.{ranked_true}
use Rattle.ranking.proofs.Searched.{found_half, tested}
use Rattle.ranking.specs.Search.{IsFound}
use Rattle.ranking.proofs.search.place_beside.Goals as goal

pub loop-least-preserved : goal.loop-least-preserved
loop-least-preserved c = record { found = found; above = omega arith; below = λ h. omega (arith, h) }
  where
    found : IsFound (all_keys c.args.keys.now) (remove c.args.order.now c.args.from) c.args.class c.chosen-least.result c.chosen-most.result
    found =
        let keys = all_keys c.args.keys.now in
        let others = remove c.args.order.now c.args.from in
        found_half keys others c.args.class c.loop-least.least c.loop-least.middle c.loop-least.most c.chosen-least.result c.chosen-most.result c.goes_first-goes.result
        (ranked_true keys others c.requires.ranked) c.loop-least.invariant.found c.loop-least.invariant.above (c.loop-least.invariant.below c.loop-least-test.true)
        (tested keys others c.args.class c.loop-least.middle c.other_at-other.result c.get.result c.args.key c.goes_first-goes.result
        c.other_at-other.ensures c.get.ensures c.requires.key c.goes_first-goes.ensures)
        c.chosen-least.ensures c.chosen-most.ensures
