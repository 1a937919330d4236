use Rattle.std.proofs.Common.{rules}
use Rattle.hfsc_eligible.proofs.Lists.{shared_stands}
use Rattle.hfsc_eligible.proofs.Eligible.sent.Goals as goal

pub returns-then-eq-clause-stands : goal.returns-then-eq-clause-stands
returns-then-eq-clause-stands c = λ curves h start stands left small.
    shared_stands c.args.self.now curves h c.args.class c.args.len start c.args.counted c.args.head stands c.requires.class c.requires.waits c.if-not-counted.true
    (search rules) left
