use Rattle.std.proofs.Common.{◌≡◌, ◌≤◌, ◌<◌, ℕ}
use Rattle.std.specs.Prelude.{◌==◌, if◌then◌else◌}
use Rattle.cbq_model.specs.Tree.{class_of}
use Rattle.class_sets.specs.Marked.{marked}
use Rattle.cbq_sharing.proofs.rings.ring_of.Given as goal

abbrev pub invariant-loop-place : goal.invariant-loop-place
invariant-loop-place l =
    ((c : ℕ) → c < l.place → marked l.ring c ≡ (if (class_of l.classes c).priority == l.priority then 1 else 0))
    × ((c : ℕ) → l.place ≤ c → marked l.ring c ≡ 0)
