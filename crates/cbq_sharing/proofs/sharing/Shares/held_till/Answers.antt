use Rattle.std.proofs.Common.{◌∙◌, arith, sym}
use Rattle.cbq_sharing.proofs.HeldLemmas.{held_from, none_there}
use Rattle.cbq_sharing.proofs.sharing.Shares.held_till.Goals as goal

pub returns-then-start-now : goal.returns-then-start-now
returns-then-start-now c =
    held_from c.args.self.now c.args.clock.now c.args.now c.args.len c.args.class c.own_start-start.result c.requires.free c.requires.rate
    (sym c.lender.ensures.lender ∙ none_there c.lender.result c.is_some.result c.is_some.ensures c.if-is_some.false) c.own_start-start.ensures (omega arith)
