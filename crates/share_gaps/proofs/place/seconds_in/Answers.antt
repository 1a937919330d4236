use Rattle.std.proofs.Common.{◌≡◌, ◌∙◌, sym, ℕ, true, false}
use Rattle.std.specs.Prelude.{slice_get}
use Rattle.share_gaps.specs.Rows.{second_in}
use Rattle.share_gaps.proofs.Ranges.{more_fails, more_passes}
use Rattle.share_gaps.proofs.place.seconds_in.Goals as goal
use Rattle.share_gaps.proofs.place.seconds_in.Goals.{then-second_in+in_ok-push, else-second_in}

pub loop-row-preserved : goal.loop-row-preserved
loop-row-preserved c =
    let k = c.loop-row.row in
    let test = λ (i : ℕ). second_in c.args.path.now (slice_get c.args.siblings.now i) in
    elim c.if-second_in.branch [
      | then-second_in+in_ok-push w ↦ (let passes : second_in c.args.path.now (slice_get c.args.siblings.now k) ≡ true = sym c.second_in.ensures ∙ w.if-second_in.true in let more = more_passes test k passes in cc (more, c.loop-row.invariant, w.in_ok-push.ensures.items, w.rows-is))
      | else-second_in w ↦ (let fails : second_in c.args.path.now (slice_get c.args.siblings.now k) ≡ false = sym c.second_in.ensures ∙ w.if-second_in.false in let more = more_fails test k fails in cc (more, c.loop-row.invariant, w.rows-is))
    ]
