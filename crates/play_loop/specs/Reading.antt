-- The arrivals that were read of a capture.
use Rattle.std.specs.Prelude.{◌≡◌, ◌≤◌, ◌<◌, ◌^◌, ℕ, max, List, [], length, nat_lt, None, IsSome, IsTrue}
use Rattle.altq_model.specs.declared.Placed.{Placed}
use Rattle.altq_model.specs.Arrivals.{Captured, arrivals_of}
use Rattle.altq_model.specs.Lawful.{greatest}
use Rattle.capture_model.specs.Capture.{Record}
use Rattle.pcap_files.specs.declared.reader.Reader.{Reader}
use Rattle.pcap_files.specs.Reading.{Represents, RecordTold}
use Rattle.play_base.specs.Holds.{Apart}
use Rattle.play_base.specs.View.{View}
use Rattle.play_loop.specs.declared.arriving.Arriving.{Arriving}
use Rattle.play_loop.specs.declared.outputs.Outputs.{Outputs}

-- the arrival of a packet that was read, where frames are placed so
abbrev pub arrival_of : (List ℕ → Placed) → Arriving → Captured
arrival_of place p = record {
  at = p.packet.at;
  len = p.packet.len;
  class = (place p.packet.bytes.now).class;
  prec = (place p.packet.bytes.now).prec;
  bytes = p.packet.bytes.now;
  raised = p.raised;
}

-- the numbers of an arrival that was read
pub record ArrivalFits (p : Arriving) : Type 0 where
  pub early : p.packet.at < 2 ^ 62
  pub some : 1 ≤ p.packet.len
  pub short : p.packet.len ≤ 262144
  pub fits : length p.packet.bytes.now ≤ p.packet.len

-- what an answer of the reader shows of a record makes its arrival
pub record IsRead (answer : RecordTold) (top : ℕ) (a : Arriving) : Type 0 where
  pub at : a.packet.at ≡ max top answer.stamp
  pub len : a.packet.len ≡ answer.len
  pub bytes : a.packet.bytes.now ≡ answer.bytes
  pub raised : a.raised ≡ nat_lt answer.stamp top

-- a reader that answered nothing yet stands for these bytes, where the files tell them
abbrev pub StartsOn : View → Reader → List ℕ → Type 0
StartsOn v r bytes = IsTrue v.tells × Represents v r bytes []

-- its file is neither output
pub record CanRead (v : View) (r : Reader) (o : Outputs) : Type 0 where
  pub there : IsSome (v.part r.file)
  pub sound : r.fault ≡ None
  pub from_departures : Apart v r.file o.departures
  pub from_fates : Apart v r.file o.fates

-- `arrived` are the arrivals of the records that a reader returned, and `latest` is the moment of the last
pub record HasRead (place : List ℕ → Placed) (v : View) (r : Reader) (bytes : List ℕ) (arrived : List Captured) (latest : ℕ) : Type 0 where
  pub records : List Record
  pub stands : Represents v r bytes records
  pub arrivals : arrived ≡ arrivals_of place records
  pub latest_is : greatest 0 records ≡ latest
