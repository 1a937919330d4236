use Rattle.std.proofs.Common.{◌∙◌, ℕ, List, ap, min}
use Rattle.class_sets.specs.Marked.{marked}
use Rattle.class_sets.proofs.Marks.{marked_in_both}
use Rattle.class_sets.proofs.set.ClassSet.within.Goals as goal

pub returns : goal.returns
returns c = λ k.
    marked_in_both c.self.inside.words c.other.inside.words k c.self.invariant c.other.invariant
    ∙ ap (λ (w : List ℕ). min (marked w k) (marked c.other.inside.words k)) c.self.view_is
    ∙ ap (λ (w : List ℕ). min (marked c.args.self.now k) (marked w k)) c.other.view_is
