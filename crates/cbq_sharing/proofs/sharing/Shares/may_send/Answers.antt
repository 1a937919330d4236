use Rattle.std.proofs.Common.{◌∙◌, sym}
use Rattle.altq_model.specs.Link.{end_of}
use Rattle.cbq_sharing.specs.Shared.{Shared}
use Rattle.cbq_sharing.proofs.RootLemmas.{rooted_may}
use Rattle.cbq_sharing.proofs.sharing.Shares.may_send.Goals as goal

pub returns-then-is_rooted-clause-may : goal.returns-then-is_rooted-clause-may
returns-then-is_rooted-clause-may c =
    let d : Shared = c.args.self.now in
    c.if-is_rooted.true
    ∙ rooted_may d.tree d.estimates (end_of c.args.clock.now.rate c.args.clock.now.link c.args.now c.args.len) c.args.len c.args.class
    (sym c.is_rooted.ensures ∙ c.if-is_rooted.true)
