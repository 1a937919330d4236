use Rattle.altq_model.specs.History.{unlabelled}
use Rattle.share_gaps.specs.Watching.{classes_of}
use Rattle.share_report.proofs.Bounds.{within_bounds}
use Rattle.share_report.proofs.watched.Watched.keeps_bounds.Goals as goal

pub returns : goal.returns
returns g c = λ h stood slopes row.
    within_bounds (classes_of c.args.self.now.watch) (g.D.Discipline.view c.args.self.now.inner).policy (unlabelled h) stood.watches.tree slopes stood.shares
    (g.met.D.Discipline.orderly c.args.self.now.inner h stood.stands) row
