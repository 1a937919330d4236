use Rattle.std.proofs.Common.{◌≡◌, ◌≤◌, ◌<◌, ◌+◌, ◌-◌, ◌^◌, ℕ, List, length}
use Rattle.std.specs.Prelude.{IsSome}
use Rattle.given_fates.specs.Fates.{IsReadTo}
use Rattle.play_base.specs.View.{SameCounts, Took}
use Rattle.given_fates.proofs.reading.read_fates.Given as goal

-- all that was taken: the rows so far, and what is left
abbrev pub invariant-loop-found : goal.invariant-loop-found
invariant-loop-found g l = record {
  there : IsSome ((g.F.Files.view l.files).part l.file);
  read : (all : List ℕ) × Took (g.F.Files.view l.fn.files) (g.F.Files.view l.files) l.file all × IsReadTo l.names l.found.items l.taken all × (l.passed + length l.taken ≡ length all);
  room : length l.taken < l.most;
  most : l.passed + l.most ≤ 2 ^ 30 + 1;
  no_fault : SameCounts (g.F.Files.view l.fn.files) (g.F.Files.view l.files);
}

abbrev pub decreases-loop-found : goal.decreases-loop-found
decreases-loop-found g l = 2 ^ 30 + 1 - (l.passed + length l.taken)
