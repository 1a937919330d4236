use Rattle.std.proofs.Common.{◌≡◌, ◌≤◌, ◌<◌, ℕ, []}
use Rattle.class_rows.specs.Rows.{list_in}
use Rattle.plain_disciplines.proofs.strict.pick_from.Given as goal

abbrev pub invariant-loop-class : goal.invariant-loop-class
invariant-loop-class g l = (j : ℕ) → l.rows.first ≤ j → j < l.class → list_in l.rows j ≡ []
