use Rattle.std.proofs.Common.{◌∙◌, Bool, ap, sym}
use Rattle.std.specs.Prelude.{if◌then◌else◌}
use Rattle.class_sets.specs.Marked.{marked}
use Rattle.class_sets.proofs.Marks.{take_other, take_same}
use Rattle.class_sets.proofs.set.ClassSet.take.Goals as goal

pub returns-then-emptied-clause-here : goal.returns-then-emptied-clause-here
returns-then-emptied-clause-here c =
    take_same c.self.inside.words c.args.class c.self.invariant c.requires
    ∙ ap (λ (b : Bool). if b then 0 else marked c.args.self.now c.args.class) (sym c.if-emptied.true)

pub returns-then-emptied-clause-others : goal.returns-then-emptied-clause-others
returns-then-emptied-clause-others c = λ k other. take_other c.self.inside.words c.args.class k c.self.invariant c.requires other ∙ ap (λ w. marked w k) c.self.view_is
