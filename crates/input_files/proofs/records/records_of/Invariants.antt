use Rattle.std.proofs.Common.{◌≡◌, ◌≤◌, ◌-◌, ℕ, List, None, Some, length, map}
use Rattle.std.specs.Prelude.{IsSome}
use Rattle.capture_model.specs.Capture.{Record}
use Rattle.pcap_files.specs.Ahead.{TookSome}
use Rattle.pcap_files.specs.Reading.{Represents, answered}
use Rattle.play_base.specs.View.{SameCounts}
use Rattle.input_files.specs.Records.{shown_of}
use Rattle.input_files.proofs.records.records_of.Given as goal

abbrev pub invariant-records : goal.invariant-records
invariant-records g l = record {
  there : IsSome ((g.F.Files.view l.files).part l.file);
  file : l.reader.file ≡ l.file;
  sound : l.reader.fault ≡ None;
  took : TookSome (g.F.Files.view l.fn.files) (g.F.Files.view l.files) l.file;
  no_fault : SameCounts (g.F.Files.view l.fn.files) (g.F.Files.view l.files);
  counted : length l.records ≤ answered l.reader;
  few : length l.records ≤ 4000000;
  read : (bytes : List ℕ) → (g.F.Files.view l.fn.files).left l.file ≡ Some bytes
      → (records : List Record) × Represents (g.F.Files.view l.files) l.reader bytes records × (l.records ≡ map shown_of records);
}

abbrev pub decreases-records : goal.decreases-records
decreases-records g l = 4000000 - answered l.reader
