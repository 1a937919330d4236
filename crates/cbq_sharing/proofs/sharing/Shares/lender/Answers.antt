use Rattle.std.proofs.Common.{◌≡◌, ap, arith, length}
use Rattle.cbq_sharing.specs.Shared.{Shared}
use Rattle.cbq_sharing.proofs.Places.{parent_below}
use Rattle.cbq_sharing.proofs.sharing.Shares.lender.Goals as goal

pub returns-then-k-clause-earlier : goal.returns-then-k-clause-earlier
returns-then-k-clause-earlier c = λ p e.
    let same : length c.self.inside.classes.items ≡ length c.args.self.now.tree = ap (λ (d : Shared). length d.tree) c.self.view_is in
    let low = parent_below c.self.inside.classes.items c.args.class p c.index-k.result.now c.self.invariant.tree (omega (arith, same, c.requires.class)) c.index-k.ensures e in
    omega (arith, same, low)
