use Rattle.std.proofs.Common.{◌≡◌, ◌∙◌, ℕ, suc, ap, arith}
use Rattle.capture_model.specs.Capture.{Record}
use Rattle.generated.specs.Generating.{record_of}
use Rattle.generated.specs.Packets.{moment}
use Rattle.generated.proofs.PacketLemmas.{continues_by, moment_early}
use Rattle.generated.proofs.writing.add_records.Goals as goal

pub add_record-requires : goal.add_record-requires
add_record-requires c =
    let seed : ℕ = c.loop-added.generator.seed in
    let made : ℕ = c.loop-added.generator.made in
    let at : c.next-packet.result.at ≡ moment seed (suc made) = ap (λ (r : Record). r.stamp) c.next-packet.ensures.packet in
    let early = moment_early seed (suc made) in
    omega (arith, at, early, c.loop-added.invariant.made, c.loop-added-test.true, c.requires.few)

pub loop-added-preserved : goal.loop-added-preserved
loop-added-preserved c =
    let h = c.loop-added.invariant in
    record {
      within = omega (arith, c.loop-added-test.true);
      seed = c.next-packet.ensures.seed ∙ h.seed;
      made = omega (arith, c.next-packet.ensures.made, h.made);
      behind = continues_by c.args.generator.now.seed c.args.generator.now.made c.loop-added.added c.loop-added.generator.seed c.loop-added.generator.made
          c.loop-added.piece.items c.add_record.new.piece.items (record_of c.next-packet.result) c.in_ok-add_record.ensures.behind c.next-packet.ensures.packet h.seed
          h.made h.behind;
      long = omega (arith, c.in_ok-add_record.ensures.long, h.long);
    }
