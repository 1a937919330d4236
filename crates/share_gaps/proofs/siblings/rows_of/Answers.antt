use Rattle.share_gaps.proofs.Ranges.{rows_more}
use Rattle.share_gaps.proofs.siblings.rows_of.Goals as goal

pub loop-first-preserved : goal.loop-first-preserved
loop-first-preserved c = let more = rows_more c.args.classes.now c.loop-first.first in cc (more, c.loop-first.invariant, c.in_ok-add_rows.ensures)
