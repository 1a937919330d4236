use Rattle.std.proofs.Common.{◌≡◌, ◌∙◌, ap, arith, sym, true}
use Rattle.altq_model.specs.History.{is_kept}
use Rattle.share_report.proofs.Steps.{after_offer}
use Rattle.share_report.proofs.watched.WatchedDiscipline.offer.Goals as goal

pub returns-clause-history : goal.returns-clause-history
returns-clause-history g c = λ h s offer drawn.
    let x = c.offer-verdict.ensures.history h s.stands offer drawn in
    let k : is_kept c.offer-verdict.result ≡ true = sym c.is_kept.ensures ∙ c.if-not-is_kept.false in (
      x.0,
      after_offer (g.D.Discipline.view c.args.self.now.inner).represents (g.D.Discipline.view c.offer-verdict.new.self).represents (g.D.Discipline.view c.args.self.now.inner).policy (g.D.Discipline.view c.offer-verdict.new.self).policy c.args.self.now.watch c.kept.new.self
          c.offer-verdict.ensures.kind.policy c.kept.ensures.classes c.args.self.now.kept _ h s (sym (ap is_kept x.0.verdict) ∙ k) offer (omega (arith, c.requires.few)) c.kept.ensures.stands x.1,
    )
