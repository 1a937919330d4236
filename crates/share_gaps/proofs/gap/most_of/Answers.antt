use Rattle.std.proofs.Common.{◌≡◌, ◌∙◌, sym, arith}
use Rattle.hfsc_model.specs.Tree.{class_of, is_child}
use Rattle.share_gaps.proofs.Bounds.{number_is, step_more, step_stays}
use Rattle.share_gaps.proofs.gap.most_of.Goals as goal
use Rattle.share_gaps.proofs.gap.most_of.Goals.{then-eq, else-eq}

pub loop-class-preserved : goal.loop-class-preserved
loop-class-preserved c =
    let cs = c.args.classes.now in
    let k = c.loop-class.class-index in
    let is_it : is_child cs c.args.parent k ≡ c.eq.result = number_is (class_of cs k).parent c.args.parent ∙ sym c.eq.ensures in
    elim c.if-eq.branch [
      | then-eq w ↦
          (let more = step_more cs c.args.parent c.args.amount k (is_it ∙ w.if-eq.true) in
          let was = c.loop-class.invariant.is in
          let small = c.loop-class.invariant.small in
          let step = w.step_of.ensures.is in
          let step_small = w.step_of.ensures.small in
          let most = w.greater-most.ensures in
          let now = w.most-is in
          record { is = omega (arith, more, was, step, most, now); small = omega (arith, small, step_small, most, now) })
      | else-eq w ↦
          (let same = step_stays cs c.args.parent c.args.amount k (is_it ∙ w.if-eq.false) in
          let was = c.loop-class.invariant.is in
          let small = c.loop-class.invariant.small in
          let now = w.most-is in
          record { is = omega (arith, same, was, now); small = omega (arith, small, now) })
    ]
