use Rattle.std.proofs.Common.{◌-◌, ◌∙◌, ℕ, List, ap}
use Rattle.class_sets.specs.Marked.{marked}
use Rattle.class_sets.proofs.Marks.{marked_in_one}
use Rattle.class_sets.proofs.set.ClassSet.without.Goals as goal

pub returns : goal.returns
returns c = λ k.
    marked_in_one c.self.inside.words c.other.inside.words k c.self.invariant c.other.invariant
    ∙ ap (λ (w : List ℕ). marked w k - marked c.other.inside.words k) c.self.view_is
    ∙ ap (λ (w : List ℕ). marked c.args.self.now k - marked w k) c.other.view_is
