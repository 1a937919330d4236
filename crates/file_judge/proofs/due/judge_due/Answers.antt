use Rattle.std.proofs.Common.{◌≡◌, ◌∙◌, ℕ, Some, map, refl, ap, subst}
use Rattle.fate_judge.specs.Walk.{FirstFails}
use Rattle.fate_timely.specs.declared.given.Overdue.{Overdue}
use Rattle.fate_timely.specs.Overdue.{IfAt}
use Rattle.fate_timely.specs.Timely.{EndsInTime}
use Rattle.file_judge.specs.Given.{curve_in}
use Rattle.file_judge.proofs.DueLemmas.{due_fails, due_passed, same_real_time}
use Rattle.file_judge.proofs.due.judge_due.Goals as goal

pub lateness-requires-clause-real_time : goal.lateness-requires-clause-real_time
lateness-requires-clause-real_time c =
    same_real_time c.deref.result.now c.args.interface.now (c.deref.ensures.value ∙ c.in_ok-curves.ensures ∙ ap (map curve_in) c.as_slice.ensures) c.requires.interface

pub returns-in-Ok-clause-passed : goal.returns-in-Ok-clause-passed
returns-in-Ok-clause-passed c =
    due_passed c.args.interface.now c.args.rows.now c.deref.result.now c.in_ok-most.most
    (c.deref.ensures.value ∙ c.in_ok-curves.ensures ∙ ap (map curve_in) c.as_slice.ensures) c.in_ok-most.ensures.most c.in-Ok.ensures.timely

pub returns-in-Err-At-clause-refuted : goal.returns-in-Err-At-clause-refuted
returns-in-Err-At-clause-refuted c =
    let W : Overdue → Type 0 = λ o. IfAt (λ row. (m : ℕ) × (c.in_ok-most.most ≡ Some m) × FirstFails (EndsInTime c.deref.result.now m) c.args.rows.now row) o in (
      refl,
      due_fails c.args.interface.now c.args.rows.now c.deref.result.now c.in_ok-most.most c.in-Err-At.row
          (c.deref.ensures.value ∙ c.in_ok-curves.ensures ∙ ap (map curve_in) c.as_slice.ensures) c.in_ok-most.ensures.most
          (subst W c.in-Err-At.field-0-is c.in-Err-At.ensures.overdue),
    )
