use Rattle.std.proofs.Common.{◌∙◌, ap}
use Rattle.cbq_sharing.specs.Shared.{Shared, allows_end}
use Rattle.cbq_sharing.proofs.LentLemmas.{free_is_now, own_is_now}
use Rattle.cbq_sharing.proofs.sharing.Shares.allows.Goals as goal

pub returns-then-is_free : goal.returns-then-is_free
returns-then-is_free c =
    let d : Shared = c.args.self.now in
    free_is_now d.tree d.estimates c.args.clock.now c.args.now c.args.len c.args.class c.requires.free c.is_free.result c.is_free.ensures c.if-is_free.true

pub returns-else-is_free : goal.returns-else-is_free
returns-else-is_free c =
    let d : Shared = c.args.self.now in
    c.allows_end.ensures
    ∙ ap (λ n. allows_end d.tree d.estimates n c.args.len c.args.class) c.end_of.ensures.end
    ∙ own_is_now d.tree d.estimates c.args.clock.now c.args.now c.args.len c.args.class c.requires.free
