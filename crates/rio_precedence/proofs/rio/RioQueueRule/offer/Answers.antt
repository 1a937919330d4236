use Rattle.std.proofs.Common.{◌≡◌, rules}
use Rattle.std.specs.Prelude.{length}
use Rattle.rio_precedence.proofs.Standing.{stands_after}
use Rattle.rio_precedence.proofs.rio.RioQueueRule.offer.Goals as goal

pub returns-clause-history : goal.returns-clause-history
returns-clause-history c = λ q s d.
    let r = c.args.self.now in
    let three : length r.count ≡ 3 = search rules in
    stands_after r c.arrive.new.self q c.args.now c.args.waiting c.args.prec c.args.words.now _ s c.requires.prec three
    c.arrive.ensures.step c.arrive.ensures.limit c.arrive.ensures.average (c.arrive.ensures.count d) c.arrive.ensures.idle
