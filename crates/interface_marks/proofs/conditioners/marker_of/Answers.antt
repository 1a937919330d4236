-- A marker of an interface's conditioners.
use Rattle.std.proofs.Common.{◌∙◌, List, subst, sym}
use Rattle.std.specs.Prelude.{Option}
use Rattle.std.proofs.lemmas.Result.{IfOk-weaker}
use Rattle.interface_marks.proofs.Marking.{begins_of, marks_of}
use Rattle.interface_marks.proofs.Meters.{assured}
use Rattle.marked_files.specs.Metering.{AreAssured}
use Rattle.traffic_meter.specs.declared.rule.MeterRule.{MeterRule}
use Rattle.interface_marks.proofs.conditioners.marker_of.Goals as goal

pub build-requires-2-clause-assured : goal.build-requires-2-clause-assured
build-requires-2-clause-assured c =
    let P : List (Option MeterRule) → Type 0 = λ rules. AreAssured rules in
    subst P (sym (c.as_slice.ensures.value ∙ c.in_ok-rules.ensures))
    (assured c.args.interface.now.classes (λ k d at. (c.requires.fits.tree.class k d at).meter))

pub returns-clause-marks : goal.returns-clause-marks
returns-clause-marks c =
    IfOk-weaker _ _ _
    (λ m n. marks_of c.args.interface.now _ _ c.args.first.now m c.in_ok-classifier.ensures.placed (c.as_slice.ensures.value ∙ c.in_ok-rules.ensures) n)
    c.build-2.ensures.unused

pub returns-clause-begins : goal.returns-clause-begins
returns-clause-begins c =
    IfOk-weaker _ _ _
    (λ m n. begins_of c.args.interface.now _ _ c.args.first.now m c.in_ok-classifier.ensures.placed (c.as_slice.ensures.value ∙ c.in_ok-rules.ensures) n)
    c.build-2.ensures.unused
