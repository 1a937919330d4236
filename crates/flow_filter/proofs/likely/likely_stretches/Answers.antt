use Rattle.std.proofs.Common.{◌%◌}
use Rattle.flow_filter.proofs.Stretches.{its_stretch, keep_stretch, same_stretches}
use Rattle.flow_filter.proofs.likely.likely_stretches.Goals as goal
use Rattle.flow_filter.proofs.likely.likely_stretches.Goals.{in-Some, in_default}

pub loop-one-init : goal.loop-one-init
loop-one-init c =
    let filed = c.args.filed.now in
    λ order. rw (c.in_ok-likely.ensures.items_if_clones_equal (λ y same. same))
    (same_stretches filed 1024 c.search.result (its_stretch filed 0 c.search.result c.search.ensures.port (c.search.ensures.places order)))

pub loop-one-preserved : goal.loop-one-preserved
loop-one-preserved c =
    let filed = c.args.filed.now in
    elim c.match-get_mut.branch [
      | in-Some w ↦ rw w.likely-is (λ order. keep_stretch filed c.loop-one.likely.items (c.from.result % 1024) w.search-in-Some.result
          (its_stretch filed _ w.search-in-Some.result w.search-in-Some.ensures.port (w.search-in-Some.ensures.places order)) (c.loop-one.invariant order))
      | in_default w ↦ rw w.likely-is c.loop-one.invariant
    ]

pub returns : goal.returns
returns c = c.loop-one.invariant
