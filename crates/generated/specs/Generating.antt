-- The packets of a seed while they are generated.
use Rattle.std.specs.Prelude.{◌≡◌, ◌≤◌, ◌*◌, ◌++◌, ℕ, List}
use Rattle.altq_model.specs.History.{DrawnWords}
use Rattle.capture_model.specs.Capture.{Record}
use Rattle.play_base.specs.View.{View, Wrote}
use Rattle.generated.specs.Packets.{generated_capture, moment}
use Rattle.generated.specs.declared.generator.GeneratedPacket.{GeneratedPacket}

-- the seed of the packets, and how many of them are made
pub record Making : Type 0 where
  pub seed : ℕ
  pub made : ℕ

-- the record of a packet
abbrev pub record_of : GeneratedPacket → Record
record_of p = record { stamp = p.at; captured = p.frame; original = p.len }

-- the words that are drawn and the last arrival, of the packets that are made
pub record IsMaking (m : Making) (words : DrawnWords) (last : ℕ) : Type 0 where
  pub seed : words.seed ≡ m.seed
  pub drawn : words.drawn ≡ 2 * m.made
  pub arrival : last ≡ moment m.seed m.made
  pub early : last ≤ 200000 * m.made

-- these bytes stand in the capture of more packets behind that of the first
abbrev pub Continues : (seed made : ℕ) → List ℕ → (more : ℕ) → Type 0
Continues seed made bytes more = generated_capture seed made ++ bytes ≡ generated_capture seed more

-- a front of this text was written
pub record WroteFrontOf (old new : View) (file : ℕ) (text : List ℕ) : Type 0 where
  pub front : List ℕ
  pub rest : List ℕ
  pub wrote : Wrote old new file front
  pub split : front ++ rest ≡ text

-- bytes were written that stand in the capture of `more` packets behind that of the first `made`
pub record WroteMore (old new : View) (file seed made more : ℕ) : Type 0 where
  pub bytes : List ℕ
  pub wrote : Wrote old new file bytes
  pub behind : Continues seed made bytes more

-- a front of them was written
pub record StoppedIn (old new : View) (file seed made more : ℕ) : Type 0 where
  pub front : List ℕ
  pub rest : List ℕ
  pub wrote : Wrote old new file front
  pub behind : Continues seed made (front ++ rest) more
