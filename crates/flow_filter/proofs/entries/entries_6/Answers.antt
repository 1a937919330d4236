use Rattle.std.proofs.Common.{Option, ◌∙◌, ap}
use Rattle.conf_tree.specs.declared.filter.Filter.{Filter}
use Rattle.packet_heads.specs.Flow as flow
use Rattle.flow_filter.specs.declared.ports.Filed.{Filed}
use Rattle.flow_filter.specs.declared.ports.Version.TheVariants as version
use Rattle.flow_filter.specs.Entries.{matches_if, takes_6}
use Rattle.flow_filter.proofs.EntrySearch.{stand_more}
use Rattle.flow_filter.proofs.entries.entries_6.Goals as goal

pub loop-one-preserved : goal.loop-one-preserved
loop-one-preserved c =
    let one : Filed = record { port = 0; rank = 0 } in
    rw c.in_ok-push.ensures.items
    (stand_more version.V6 c.args.filters.now c.args.places.now c.args.filed.now takes_6 c.loop-one.entries.items c.entry_6.result c.loop-one.one-index one
    (record {
      long = c.loop-one.invariant.0;
      within = c.loop-one-test.true;
      before = c.loop-one.invariant.1;
      here = λ heads o is. c.entry_6.ensures heads o is ∙ ap (λ (f : Option Filter). matches_if f (flow.V6 heads)) c.filter_at.ensures;
    }))
