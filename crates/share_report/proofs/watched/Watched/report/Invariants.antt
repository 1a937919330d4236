use Rattle.std.proofs.Common.{◌≡◌, List, take}
use Rattle.altq_model.specs.History.{LabelledEvent, unlabelled}
use Rattle.hfsc_policy.specs.Events.{hfsc_history}
use Rattle.share_gaps.specs.Watching.{classes_of}
use Rattle.share_report.specs.Report.{gaps_after}
use Rattle.share_report.specs.Watched.{BothStand}
use Rattle.share_report.proofs.watched.Watched.report.Given as goal

abbrev pub invariant-loop-row : goal.invariant-loop-row
invariant-loop-row g l = (h : List LabelledEvent) → BothStand (g.D.Discipline.view l.self.inner).represents (g.D.Discipline.view l.self.inner).policy l.self.watch l.self.kept h
    → l.gaps.items ≡ take l.row (gaps_after (classes_of l.self.watch) (hfsc_history (unlabelled h)))
