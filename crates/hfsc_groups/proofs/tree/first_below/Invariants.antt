use Rattle.std.proofs.Common.{◌≡◌, ◌≤◌, ℕ, true}
use Rattle.hfsc_model.specs.Tree.{is_child}
use Rattle.hfsc_groups.proofs.tree.first_below.Given as goal

abbrev pub invariant-loop-index : goal.invariant-loop-index
invariant-loop-index l = (c : ℕ) → is_child l.classes l.class c ≡ true → l.index ≤ c
