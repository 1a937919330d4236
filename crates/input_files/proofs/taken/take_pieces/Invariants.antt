use Rattle.std.proofs.Common.{◌≡◌, ◌≤◌, ◌-◌, length, vec_len}
use Rattle.std.specs.Prelude.{IsSome}
use Rattle.pcap_files.specs.Ahead.{TookInto}
use Rattle.play_base.specs.View.{SameCounts}
use Rattle.input_files.proofs.taken.take_pieces.Given as goal

abbrev pub invariant-loop-bytes : goal.invariant-loop-bytes
invariant-loop-bytes g l = record {
  few : vec_len l.bytes ≤ l.most;
  room : length l.piece ≡ 65536;
  there : IsSome ((g.F.Files.view l.files).part l.file);
  took : TookInto (g.F.Files.view l.fn.files) (g.F.Files.view l.files) l.file l.fn.bytes.items l.bytes.items;
  no_fault : SameCounts (g.F.Files.view l.fn.files) (g.F.Files.view l.files);
}

abbrev pub decreases-loop-bytes : goal.decreases-loop-bytes
decreases-loop-bytes g l = l.most - vec_len l.bytes
