use Rattle.std.proofs.Common.{◌≡◌, ◌≤◌, ◌+◌, ◌∙◌, List, ℕ, ap, arith, subst}
use Rattle.play_base.specs.View.{Wrote}
use Rattle.play_base.proofs.ViewLaws.{same_trans, still_there}
use Rattle.generated.specs.Generating.{Making}
use Rattle.generated.specs.Packets.{generated_capture}
use Rattle.generated.proofs.PacketLemmas.{none_stopped, piece_stopped, piece_wrote, stopped_same, wrote_same}
use Rattle.generated.proofs.writing.write_capture.Goals as goal

pub returns-in-Err-clause-front : goal.returns-in-Err-clause-front
returns-in-Err-clause-front g c = none_stopped _ _ _ c.args.seed c.args.count c.head_bytes.result c.head_bytes.ensures c.in-Err.ensures.front

pub loop-made-init : goal.loop-made-init
loop-made-init g c =
    let P : List ℕ → Type 0 = λ t. Wrote (g.F.Files.view c.args.files.now) (g.F.Files.view c.write_all.new.files) c.args.file t in
    record {
      within = omega arith;
      seed = ap (λ (m : Making). m.seed) c.new-generator.ensures;
      made = ap (λ (m : Making). m.made) c.new-generator.ensures;
      there = still_there _ _ _ _ _ c.in-Ok.ensures.wrote.keeps c.requires.there;
      wrote = subst P c.head_bytes.ensures c.in-Ok.ensures.wrote;
      counts = c.in-Ok.ensures.counts;
    }

pub returns-in-Err-write_records-clause-front : goal.returns-in-Err-write_records-clause-front
returns-in-Err-write_records-clause-front g c =
    let h = c.loop-made.invariant in
    piece_stopped _ _ _ c.args.file c.args.seed c.loop-made.made (c.loop-made.made + c.min-more.result) c.args.count c.requires.there h.wrote
    (stopped_same _ _ _ _ _ _ _ _ h.seed h.made c.in-Err-write_records.ensures.front)
    (omega (arith, h.within, c.min-more.ensures))

pub loop-made-preserved : goal.loop-made-preserved
loop-made-preserved g c =
    let h = c.loop-made.invariant in
    let x = wrote_same _ _ _ _ _ _ _ _ h.seed h.made c.in-Ok-write_records.ensures.wrote in
    record {
      within = omega (arith, h.within, c.min-more.ensures);
      seed = c.in-Ok-write_records.ensures.seed ∙ h.seed;
      made = c.in-Ok-write_records.ensures.made ∙ ap (λ (k : ℕ). k + c.min-more.result) h.made;
      there = still_there _ _ _ _ _ x.wrote.keeps h.there;
      wrote = piece_wrote _ _ _ c.args.file c.args.seed c.loop-made.made (c.loop-made.made + c.min-more.result) c.requires.there h.wrote x;
      counts = same_trans _ _ _ h.counts c.in-Ok-write_records.ensures.counts;
    }

pub returns-clause-wrote : goal.returns-clause-wrote
returns-clause-wrote g c =
    let e : c.loop-made.made ≡ c.args.count = omega (arith, c.loop-made.invariant.within, c.loop-made-test.false) in
    let P : ℕ → Type 0 = λ k. Wrote (g.F.Files.view c.args.files.now) (g.F.Files.view c.loop-made.files) c.args.file (generated_capture c.args.seed k) in
    subst P e c.loop-made.invariant.wrote
