use Rattle.std.proofs.Common.{ap, ◌∙◌}
use Rattle.hfsc_share.specs.Shares.{pick_now}
use Rattle.hfsc_share.proofs.Picks.{pick_is}
use Rattle.hfsc_share.proofs.Shares.pick.Goals as goal

pub returns-clause-pick : goal.returns-clause-pick
returns-clause-pick c = λ cs h stands later.
    c.picked.ensures ∙ ap (λ n. pick_now c.args.self.now n) c.from.ensures ∙ pick_is c.args.self.now cs h c.args.now stands later
