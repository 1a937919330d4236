use Rattle.std.proofs.Common.{◌≡◌, ◌∙◌, List, None, Some, sym, subst, length, refl}
use Rattle.std.proofs.lemmas.Option.{slice_get_read}
use Rattle.std.specs.Prelude.{slice_get}
use Rattle.conf_tree.specs.declared.class.Class.{Class}
use Rattle.service_curve.specs.declared.Curve.{Curve}
use Rattle.bound_command.proofs.lines.bound_lines.Goals as goal
use Rattle.bound_command.proofs.lines.bound_lines.Goals.{then-fits, else-fits}

none_some : (s : Curve) → None ≡ Some s → ⊥
none_some s h = cc

pub bound_of-bound-requires-clause-curve : goal.bound_of-bound-requires-clause-curve
bound_of-bound-requires-clause-curve c =
    let classes = c.as_slice-classes.result.now in
    let n = c.loop-number.number in
    let class = c.index-classes-number.result in
    let P : List Class → Type 0 = λ xs. slice_get xs n ≡ Some class in
    let at = subst P c.as_slice-classes.ensures (slice_get_read classes (length classes) n class refl c.loop-number-test.true c.index-classes-number.is) in
    elim c.if-fits.branch [
      | then-fits w ↦ λ s e. c.requires.curves n class s at (sym w.real-is ∙ e)
      | else-fits w ↦ λ s e. absurd (none_some s (sym w.real-is ∙ e))
    ]
