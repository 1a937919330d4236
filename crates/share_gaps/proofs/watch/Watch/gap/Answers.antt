use Rattle.std.proofs.Common.{arith}
use Rattle.hfsc_groups.proofs.Places.{get_read}
use Rattle.share_gaps.proofs.New.{gap_is}
use Rattle.share_gaps.proofs.watch.Watch.gap.Goals as goal

pub returns-clause-gap : goal.returns-clause-gap
returns-clause-gap c = λ h stand.
    let w = c.args.self.now in
    let at = get_read w.siblings.items c.args.row c.index-pair.result.now (omega (arith, c.if-row-len.false, c.len.ensures)) c.index-pair.ensures in
    gap_is w c.args.row c.index.result.now h c.index-pair.result.now c.index-2.result.now c.index-3.result.now c.gap_of-gap.result c.bound-bound.result stand at
    c.index.ensures c.index-2.ensures c.index-3.ensures c.gap_of-gap.ensures c.bound-bound.ensures
