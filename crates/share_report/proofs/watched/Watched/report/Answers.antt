use Rattle.std.proofs.Common.{◌∙◌, arith}
use Rattle.altq_model.specs.History.{unlabelled}
use Rattle.hfsc_policy.specs.Events.{hfsc_history}
use Rattle.share_gaps.specs.Watching.{classes_of}
use Rattle.share_report.proofs.AllRows.{few_rows, joined, no_more_gaps}
use Rattle.share_report.proofs.watched.Watched.report.Goals as goal

pub loop-row-preserved : goal.loop-row-preserved
loop-row-preserved g c = λ h stood.
    c.in_ok-push.ensures.items ∙ joined (classes_of c.args.self.now.watch) (hfsc_history (unlabelled h)) c.loop-row.row c.in-Some.gap c.loop-row.gaps.items
    (c.loop-row.invariant h stood) (c.in-Some.ensures.exact h stood)

pub returns : goal.returns
returns g c = λ h stood.
    let cs = classes_of c.args.self.now.watch in
    let few = few_rows cs c.requires in
    let ended = c.loop-row-test.false in
    c.loop-row.invariant h stood ∙ no_more_gaps cs (hfsc_history (unlabelled h)) c.loop-row.row (omega (arith, few, ended))
