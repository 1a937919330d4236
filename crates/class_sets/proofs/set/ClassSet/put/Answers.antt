use Rattle.std.proofs.Common.{◌∙◌, Bool, ap, sym}
use Rattle.std.specs.Prelude.{if◌then◌else◌}
use Rattle.class_sets.specs.Marked.{marked}
use Rattle.class_sets.proofs.Marks.{put_other, put_same}
use Rattle.class_sets.proofs.set.ClassSet.put.Goals as goal

pub returns-then-kept-clause-here : goal.returns-then-kept-clause-here
returns-then-kept-clause-here c =
    put_same c.self.inside.words c.args.class c.self.invariant c.requires
    ∙ ap (λ (b : Bool). if b then 1 else marked c.args.self.now c.args.class) (sym c.if-kept.true)

pub returns-then-kept-clause-others : goal.returns-then-kept-clause-others
returns-then-kept-clause-others c = λ k other. put_other c.self.inside.words c.args.class k c.self.invariant c.requires other ∙ ap (λ w. marked w k) c.self.view_is
