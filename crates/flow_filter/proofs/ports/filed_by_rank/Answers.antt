use Rattle.std.proofs.Common.{sym}
use Rattle.flow_filter.proofs.Filings.{filed_none, filed_more, filed_skip}
use Rattle.flow_filter.proofs.ports.filed_by_rank.Goals as goal
use Rattle.flow_filter.proofs.ports.filed_by_rank.Goals.{in-Some+in_ok-push, in_default-port_at}

pub loop-rank-init : goal.loop-rank-init
loop-rank-init c = rw c.new-entries.ensures.items (filed_none c.args.filters.now c.args.places.now c.args.group)

pub loop-rank-preserved : goal.loop-rank-preserved
loop-rank-preserved c =
    let so_far = c.loop-rank.invariant in
    elim c.match-port_at.branch [
      | in-Some+in_ok-push w ↦ rw (w.entries-is, w.in_ok-push.ensures.items) (filed_more c.args.filters.now c.args.places.now c.args.group
          c.loop-rank.rank w.in-Some.port c.loop-rank.entries.items so_far (sym w.in-Some.ensures))
      | in_default-port_at w ↦ rw w.entries-is (filed_skip c.args.filters.now c.args.places.now c.args.group c.loop-rank.rank
          c.loop-rank.entries.items so_far (sym w.in_default-port_at.ensures))
    ]
