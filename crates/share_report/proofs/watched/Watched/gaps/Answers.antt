use Rattle.std.proofs.Common.{◌∙◌, ap}
use Rattle.std.specs.Prelude.{option_map}
use Rattle.altq_model.specs.History.{unlabelled}
use Rattle.hfsc_policy.specs.Events.{hfsc_history}
use Rattle.share_gaps.specs.Watching.{classes_of, gap_after}
use Rattle.share_report.proofs.Gaps.{fair_row, gap_tells}
use Rattle.share_report.proofs.Bounds.{orderly_seen}
use Rattle.share_report.proofs.watched.Watched.gaps.Goals as goal

pub returns-clause-gap : goal.returns-clause-gap
returns-clause-gap g c = λ h s stood at.
    let cs = classes_of c.args.self.now.watch in
    let seen = hfsc_history (unlabelled h) in
    record {
      gap = gap_after cs seen s;
      is = c.gap.ensures.gap seen stood.watches ∙ ap (option_map (gap_after cs seen)) at;
      tells = gap_tells cs seen s;
    }

pub returns-clause-fair : goal.returns-clause-fair
returns-clause-fair g c = λ h stood slopes.
    let cs = classes_of c.args.self.now.watch in
    let seen = hfsc_history (unlabelled h) in
    fair_row cs seen c.args.row c.gap.result stood.watches.tree slopes
    (orderly_seen cs (g.D.Discipline.view c.args.self.now.inner).policy (unlabelled h) stood.watches.tree stood.shares (g.met.D.Discipline.orderly c.args.self.now.inner h stood.stands)) (c.gap.ensures.gap seen stood.watches)
