use Rattle.std.proofs.Common.{◌∙◌, ap}
use Rattle.marked_files.specs.Markings.{Marking}
use Rattle.marked_files.proofs.StandingLemmas.{standing_back, standing_trans}
use Rattle.marked_files.proofs.marker.Marker.pass_whole.Goals as goal

pub loop-stage-preserved : goal.loop-stage-preserved
loop-stage-preserved g c =
    let before = c.loop-stage.invariant in
    record {
      stands = standing_trans g.C.Classify.placed _ _ _ before.stands (c.pass_next.ensures.stands c.loop-stage-test.true);
      many = c.pass_next.ensures.next.keeps.many ∙ before.many;
      stage = ap (λ (m : Marking _). m.stage) c.self-in-loop-stage.view_is;
    }

pub returns-clause-stands : goal.returns-clause-stands
returns-clause-stands g c =
    let before = c.loop-stage.invariant in
    let h = c.pass_next.ensures.halts c.loop-stage-test.false in
    standing_trans g.C.Classify.placed _ _ _ before.stands
    (standing_back g.C.Classify.placed _ _ before.stage (record {
      course = ap (λ (m : Marking _). m.course) c.self-2.view_is ∙ h.same.course;
      held = ap (λ (m : Marking _). m.held) c.self-2.view_is ∙ h.same.held;
      classes = ap (λ (m : Marking _). m.classes) c.self-2.view_is ∙ h.same.classes;
    }))
