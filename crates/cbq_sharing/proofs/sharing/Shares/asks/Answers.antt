use Rattle.std.proofs.Common.{arith}
use Rattle.cbq_sharing.specs.Shared.{Shared}
use Rattle.cbq_sharing.proofs.LentLemmas.{free_may, lender_allows, own_allows}
use Rattle.cbq_sharing.proofs.sharing.Shares.asks.Goals as goal

pub returns-then-is_free-clause-may : goal.returns-then-is_free-clause-may
returns-then-is_free-clause-may c =
    let d : Shared = c.args.self.now in
    free_may d.tree d.estimates c.args.clock.now c.args.now c.args.len c.args.class c.is_free.result c.is_free.ensures c.if-is_free.true

pub returns-then-allows_end-clause-may : goal.returns-then-allows_end-clause-may
returns-then-allows_end-clause-may c =
    let d : Shared = c.args.self.now in
    own_allows d.tree d.estimates c.args.clock.now c.args.now c.args.len c.args.class c.keep_of.new.self c.allows_end.result (omega (arith, c.requires.some_bytes))
    (c.keep_of.ensures.lent d.tree d.estimates c.requires.lent) c.keep_of.ensures.len c.allows_end.ensures c.if-allows_end.true

pub returns-then-allows_end-clause-lent : goal.returns-then-allows_end-clause-lent
returns-then-allows_end-clause-lent c = c.keep_of.ensures.lent c.args.self.now.tree c.args.self.now.estimates c.requires.lent

pub returns-clause-may : goal.returns-clause-may
returns-clause-may c =
    let d : Shared = c.args.self.now in
    let last = c.keep_of.ensures.lent d.tree d.estimates c.requires.lent in
    lender_allows d.tree d.estimates c.args.clock.now c.args.now c.args.len c.args.class c.keep_of.new.self c.ask.new.last c.allows_end.result
    (omega (arith, c.requires.some_bytes)) last c.keep_of.ensures.len c.allows_end.ensures c.if-allows_end.false
    (c.ask.ensures.lent c.args.clock.now c.args.now last) c.ask.ensures.len c.ask.ensures.lender

pub returns-clause-lent : goal.returns-clause-lent
returns-clause-lent c =
    c.ask.ensures.lent c.args.clock.now c.args.now (c.keep_of.ensures.lent c.args.self.now.tree c.args.self.now.estimates c.requires.lent)
