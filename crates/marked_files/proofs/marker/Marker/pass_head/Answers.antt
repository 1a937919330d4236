use Rattle.std.proofs.Common.{◌∙◌, ap, length, true, false, refl, sym, arith}
use Rattle.capture_model.specs.Capture.{header}
use Rattle.marked_files.specs.Markings.{Marking}
use Rattle.marked_files.specs.declared.stage.Stage.TheVariants.{Records}
use Rattle.marked_files.proofs.Advancing.{at_rest, past_head, said_by}
use Rattle.marked_files.proofs.StandingLemmas.{HasTurned, head_stops, head_turns}
use Rattle.marked_files.proofs.marker.Marker.pass_head.Goals as goal

pub returns-in-Ok : goal.returns-in-Ok
returns-in-Ok g c =
    let i = c.self.inside in
    let held = c.pending-pending.ensures in
    let old : Marking _ = record { classes = i.classes; stage = i.stage; course = record { count = i.count; at = i.place; latest = i.latest; meters = i.meters.items }; held = i.window } in
    let new : Marking _ = record old { stage = Records c.in-Ok.head; held = c.pass.new.self } in
    let t = said_by (HasTurned g.C.Classify.placed true) old _ new (λ m. past_head m c.in-Ok.head) c.self.view_is
    (record { stage = refl; course = refl; ready = c.pass.ensures.ready; pending = c.pass.ensures.pending; classes = refl })
    (head_turns g.C.Classify.placed old c.in-Ok.head (record {
      start = ap (λ (m : Marking _). m.stage) c.self.view_is ∙ c.requires.start;
      long = omega (arith, ap length held);
      formed = ap header (sym held) ∙ c.in-Ok.ensures.ok;
    })) in
    record { next = t.next; stands = t.stands; halts = t.halts }

pub returns-in-Err : goal.returns-in-Err
returns-in-Err g c =
    let i = c.self.inside in
    let held = c.pending-pending.ensures in
    let old : Marking _ = record { classes = i.classes; stage = i.stage; course = record { count = i.count; at = i.place; latest = i.latest; meters = i.meters.items }; held = i.window } in
    let t = said_by (HasTurned g.C.Classify.placed false) old _ (at_rest old) at_rest c.self.view_is
    (record { stage = refl; course = refl; ready = refl; pending = refl; classes = refl })
    (head_stops g.C.Classify.placed old c.in-Err.field-0 (record {
      start = ap (λ (m : Marking _). m.stage) c.self.view_is ∙ c.requires.start;
      long = omega (arith, ap length held);
      unformed = ap header (sym held) ∙ c.in-Err.ensures.err;
    })) in
    record { next = t.next; stands = t.stands; halts = t.halts }
