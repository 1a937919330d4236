use Rattle.std.proofs.Common.{refl}
use Rattle.share_gaps.specs.Watching.{classes_of}
use Rattle.share_report.proofs.Steps.{still_hfsc}
use Rattle.share_report.proofs.watched.WatchedDiscipline.next.Goals as goal

pub returns-clause-unchanged : goal.returns-clause-unchanged
returns-clause-unchanged g c =
    let n = c.next.ensures.unchanged in
    record {
      kind = record { policy = n.kind.policy; limits = n.kind.limits; link_rate = n.kind.link_rate; fixed = refl };
      lists = n.lists;
      represents = λ h s. record {
        stands = n.represents h s.stands;
        shares = still_hfsc _ _ (classes_of c.args.self.now.watch) (classes_of c.args.self.now.watch) n.kind.policy refl s.shares;
        watches = s.watches;
        kept_is = s.kept_is;
        counted = s.counted;
      };
      due = n.due;
      moment = n.moment;
      ended = n.ended;
    }
