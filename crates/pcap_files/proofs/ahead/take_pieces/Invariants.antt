use Rattle.std.proofs.Common.{◌≡◌, ◌≤◌, ◌+◌, ◌-◌, ◌++◌, List, ℕ, max, take, vec_len, IsSome}
use Rattle.play_base.specs.View.{SameCounts, Took}
use Rattle.pcap_files.proofs.ahead.take_pieces.Given as goal

abbrev pub invariant-loop-to : goal.invariant-loop-to
invariant-loop-to g l = record {
  there : IsSome ((g.F.Files.view l.files).part l.file);
  within : l.to ≤ vec_len l.buffer;
  bounded : l.to ≤ max l.fn.to (l.need + 65535);
  took : (bytes : List ℕ) × Took (g.F.Files.view l.fn.files) (g.F.Files.view l.files) l.file bytes × (take l.to l.buffer.items ≡ take l.fn.to l.fn.buffer.items ++ bytes);
  counts : SameCounts (g.F.Files.view l.fn.files) (g.F.Files.view l.files);
}

abbrev pub decreases-loop-to : goal.decreases-loop-to
decreases-loop-to g l = l.need - l.to
