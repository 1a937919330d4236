use Rattle.std.proofs.Common.{◌<◌, ◌++◌, ◌∙◌, ℕ, List, take, length, refl, ap, sym, arith, append_assoc, slice_index_or}
use Rattle.altq_model.specs.declared.Counts.{Counts}
use Rattle.play_text.specs.Statistics.{count_row, count_rows, stats_header}
use Rattle.play_text.proofs.StatsLemmas.{next_rows, read_at}
use Rattle.play_text.proofs.stats.stats_text.Goals as goal

pub loop-i-preserved : goal.loop-i-preserved
loop-i-preserved c =
    let d : Counts = record { arrived = 0; arrived_bytes = 0; raised = 0; sent = 0; sent_bytes = 0; full = 0; early = 0; forced = 0 } in
    let x : Counts = slice_index_or c.args.counts.now c.loop-i.i d in
    let inside : c.loop-i.i < length c.args.counts.now = omega (arith, c.loop-i-test.true, c.len-i-end.ensures.count, c.requires.each) in
    let more = next_rows c.args.names.now c.args.counts.now c.loop-i.i c.name_at.result.now x c.name_at.ensures (read_at c.args.counts.now c.loop-i.i d inside) in
    let before : List ℕ = count_rows (take c.loop-i.i c.args.names.now) (take c.loop-i.i c.args.counts.now) in
    record {
      ready = c.if-not-write_counts.ensures.ready refl;
      text = c.if-not-write_counts.ensures.text refl ∙ ap (λ (t : List ℕ). t ++ count_row c.name_at.result.now x) c.loop-i.invariant.text
          ∙ append_assoc stats_header before (count_row c.name_at.result.now x) ∙ ap (λ (t : List ℕ). stats_header ++ t) (sym more);
    }
