use Rattle.plain_disciplines.proofs.PacedLemmas.{plain}
use Rattle.plain_disciplines.proofs.paced.Paced.build.Goals as goal

pub returns-clause-empty : goal.returns-clause-empty
returns-clause-empty g c = record {
  gap = c.requires.gap;
  recorded = c.in_ok-rows.ensures.recorded;
  orderly = tt;
  plain = plain g.Q.QueueRule.stands g.Q.QueueRule.says (record { gap = c.args.gap; rows = c.in_ok-rows.rows }) c.requires.gap;
}
