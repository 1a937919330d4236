use Rattle.std.proofs.Common.{◌++◌, ◌∙◌, ℕ, List, ap, arith, take, drop, append_assoc}
use Rattle.std.proofs.lemmas.Grind.{common_steps}
use Rattle.play_base.proofs.ViewLaws.{same_trans, took_more, still_there}
use Rattle.pcap_files.proofs.PieceLemmas.{take_more_bytes}
use Rattle.pcap_files.proofs.ahead.take_pieces.Goals as goal

pub loop-to-preserved : goal.loop-to-preserved
loop-to-preserved g c =
    let before = c.loop-to.invariant.took in
    let next = take c.in-Ok.count (drop c.loop-to.to c.read_piece.new.buffer.items) in
    record {
      counts = same_trans _ _ _ c.loop-to.invariant.counts c.in-Ok.ensures.counts;
      there = still_there _ _ _ _ _ c.in-Ok.ensures.took.keeps c.loop-to.invariant.there;
      within = c.in-Ok.ensures.count.1;
      bounded = grind (arith, common_steps, c.in-Ok.ensures.count.0);
      took = (
        before.0 ++ next,
        took_more _ _ _ _ before.0 next before.1 c.in-Ok.ensures.took,
        take_more_bytes c.loop-to.to c.in-Ok.count c.read_piece.new.buffer.items
            ∙ ap (λ (r : List ℕ). r ++ next) (c.in-Ok.ensures.stays ∙ before.2)
            ∙ append_assoc _ before.0 next,
      );
    }
