use Rattle.std.proofs.Common.{◌≡◌, ◌∙◌, sym, true, false}
use Rattle.share_gaps.specs.Rows.{are_siblings, pair}
use Rattle.share_gaps.proofs.Ranges.{row_joins, row_stays}
use Rattle.share_gaps.proofs.siblings.add_rows.Goals as goal
use Rattle.share_gaps.proofs.siblings.add_rows.Goals.{then-are_siblings+in_ok-push, else-are_siblings}

pub loop-second-preserved : goal.loop-second-preserved
loop-second-preserved c =
    let cs = c.args.classes.now in
    let k = c.loop-second.second in
    let old = c.args.rows.now.items in
    elim c.if-are_siblings.branch [
      | then-are_siblings+in_ok-push w ↦
          (let passes : are_siblings cs (pair c.args.first k) ≡ true = sym c.are_siblings.ensures ∙ w.if-are_siblings.true in
          let more = row_joins cs c.args.first k old passes in cc (more, c.loop-second.invariant, w.in_ok-push.ensures.items, w.rows-is))
      | else-are_siblings w ↦
          (let fails : are_siblings cs (pair c.args.first k) ≡ false = sym c.are_siblings.ensures ∙ w.if-are_siblings.false in
          let more = row_stays cs c.args.first k old fails in cc (more, c.loop-second.invariant, w.rows-is))
    ]
