use Rattle.std.proofs.Common.{◌≤◌, ◌+◌, ◌-◌, length, List, ℕ}
use Rattle.play_base.specs.View.{Took}
use Rattle.std.specs.Prelude.{IsSome, ◌≡◌}
use Rattle.input_files.proofs.records.take_rest.Given as goal

abbrev pub invariant-loop-taken : goal.invariant-loop-taken
invariant-loop-taken g l = record {
  there : IsSome ((g.F.Files.view l.files).part l.file);
  some : (bytes : List ℕ) × Took (g.F.Files.view l.fn.files) (g.F.Files.view l.files) l.file bytes × (length bytes ≡ l.taken);
  few : l.taken ≤ 1073741824 + 65536;
}

abbrev pub decreases-loop-taken : goal.decreases-loop-taken
decreases-loop-taken g l = 1073741825 - l.taken
