use Rattle.std.proofs.Common.{◌≡◌, ◌≤◌, ◌<◌, ◌*◌, ℕ}
use Rattle.class_sets.specs.Marked.{marked}
use Rattle.class_sets.proofs.set.ClassSet.first_from.Given as goal

abbrev pub invariant-loop-at : goal.invariant-loop-at
invariant-loop-at l = (c : ℕ) → l.from ≤ c → c < 64 * l.at → marked l.self c ≡ 0
