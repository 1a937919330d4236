use Rattle.std.proofs.Common.{◌++◌, ◌+◌, ◌∙◌, ap, ℕ, List, take, drop, arith}
use Rattle.std.proofs.lemmas.Grind.{common_steps}
use Rattle.marked_files.specs.Held.{PendingBytes}
use Rattle.marked_files.specs.Metering.{frame_by, meter_of}
use Rattle.marked_files.proofs.FrameLaws.{Buffer, IsMarked, marked_pending, marked_ready, replaced}
use Rattle.marked_files.proofs.Meters.{length-frame_by}
use Rattle.marked_files.proofs.window.Window.mark_record.Goals as goal

pub returns : goal.returns
returns c =
    let i = c.self.inside in
    let f : List ℕ → List ℕ = frame_by (meter_of c.args.meters.now.items c.args.class) (record { moment = c.args.moment; len = c.args.len }) in
    let n = c.args.captured in
    let b : Buffer = record { items = i.buffer.items; from = i.from; middle = i.middle; to = i.to } in
    let m : IsMarked f b n c.mark_at.new.bytes i.buffer.len = record {
      begins = record { before = grind (arith, common_steps); within = grind (arith, common_steps); fits = grind (arith, common_steps) };
      keeps = length-frame_by _ _;
      is = c.mark_at.ensures.bytes ∙ ap (λ (l : List ℕ). replaced l (f (take n (drop (i.middle + 16) l))) (i.middle + 16) n) c.as_mut_slice.ensures.value;
      long = grind (arith, common_steps);
    } in
    record {
      ready = marked_ready f b n _ _ m ∙ ap (λ (h : PendingBytes). h.ready ++ (take 16 h.pending ++ f (take n (drop 16 h.pending)))) c.self.view_is;
      pending = marked_pending f b n _ _ m ∙ ap (λ (h : PendingBytes). drop (16 + n) h.pending) c.self.view_is;
      meters = c.mark_at.ensures.meters;
      sound = c.mark_at.ensures.sound;
    }
