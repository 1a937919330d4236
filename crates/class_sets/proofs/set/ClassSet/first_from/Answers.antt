use Rattle.std.proofs.Common.{◌∙◌, ap, arith, sym}
use Rattle.class_sets.specs.Marked.{marked}
use Rattle.class_sets.proofs.Marks.{marked_past}
use Rattle.class_sets.proofs.set.ClassSet.first_from.Goals as goal

pub returns-then-first-ge4-clause-none : goal.returns-then-first-ge4-clause-none
returns-then-first-ge4-clause-none c = λ k l.
    ap (λ w. marked w k) (sym c.self.view_is) ∙ marked_past c.self.inside.words k c.self.invariant (omega (arith, l, c.if-first-ge4.true))
