use Rattle.std.proofs.Common.{◌≡◌, ◌∙◌, Some, ap, sym, slice_index_or}
use Rattle.std.specs.Prelude.{slice_get}
use Rattle.altq_model.specs.declared.Counts.{Counts}
use Rattle.play_text.proofs.StatsLemmas.{added, next_sum, next_under, read_at}
use Rattle.play_text.proofs.stats.sums.Goals as goal

pub loop-i-preserved : goal.loop-i-preserved
loop-i-preserved c =
    let d : Counts = record { arrived = 0; arrived_bytes = 0; raised = 0; sent = 0; sent_bytes = 0; full = 0; early = 0; forced = 0 } in
    let x : Counts = slice_index_or c.args.counts.now c.loop-i.i d in
    let e : slice_get c.args.counts.now c.loop-i.i ≡ Some x = read_at c.args.counts.now c.loop-i.i d c.loop-i-test.true in
    let i = c.loop-i.invariant in
    record {
      sum = ap (λ (s : Counts). added s x) i.sum ∙ sym (next_sum c.args.counts.now c.loop-i.i x e);
      under = next_under c.loop-i.i c.loop-i.sum x i.under (c.requires.bound c.loop-i.i d c.loop-i-test.true);
    }
