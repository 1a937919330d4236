use Rattle.std.proofs.Common.{◌≡◌, ◌<◌, ap, arith, length, rules}
use Rattle.cbq_sharing.specs.Shared.{Shared}
use Rattle.cbq_sharing.proofs.Places.{parent_below}
use Rattle.cbq_sharing.proofs.sharing.Shares.+tell_up.Goals as goal

pub tell_up-requires : goal.tell_up-requires
tell_up-requires t c =
    let same : length c.self.inside.classes.items ≡ length c.args.self.now.tree = ap (λ (d : Shared). length d.tree) c.self.view_is in
    let place : c.in-Some.class < length c.self.inside.classes.items = omega (arith, same, c.requires.class c.in-Some.class c.in-Some.is) in (
      omega (arith, c.decreases, c.if-levels-eq0.false),
      (
        λ p e. parent_below c.self.inside.classes.items c.in-Some.class p c.index.result.now c.self.invariant.tree place c.index.ensures e,
        search rules,
      ),
    )
