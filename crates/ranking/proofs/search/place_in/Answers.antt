use Rattle.std.proofs.Common.{◌<◌, arith, length}
use Rattle.ranking.specs.Keys.{all_keys}
use Rattle.ranking.proofs.Searched.{found_there}
use Rattle.ranking.proofs.search.place_in.Goals as goal

pub returns-then-order-place : goal.returns-then-order-place
returns-then-order-place c =
    let here : c.loop-place.place < length c.args.order.now = omega (arith, c.loop-place-test.true, c.min-place-end.ensures) in
    found_there (all_keys c.args.keys.now) c.args.order.now c.args.class c.loop-place.place c.requires here c.if-order-place.true
