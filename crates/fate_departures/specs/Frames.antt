-- The captured bytes of the packets that arrived.
use Rattle.std.specs.Prelude.{◌==◌, ◌&&◌, ◌-◌, ℕ, Bool, false, List, [], map, slice_get}
use Rattle.std.specs.Option.{option_map_or}
use Rattle.altq_model.specs.History.{Arrival}
use Rattle.fate_judge.specs.Given.{bare_arrivals}
use Rattle.fate_departures.specs.declared.frames.Frames.{Frames}
use Rattle.input_files.specs.Records.{Shown}

-- packets in order of number, and which classes have a queue that marks
pub record Packets : Type 0 where
  pub arrived : List Arrival
  pub frames : List (List ℕ)
  pub marks : List Bool

-- the captured bytes of a record
abbrev pub bytes_of : Shown → List ℕ
bytes_of s = s.bytes

abbrev pub frames_in : Frames → Packets
frames_in f = record { arrived = bare_arrivals f.arrived.now; frames = map bytes_of f.records.now; marks = f.marks.now }

-- the captured bytes of the packet of a number
abbrev pub frame_of : Packets → (n : ℕ) → List ℕ
frame_of p n = option_map_or (λ (frame : List ℕ). frame) (slice_get p.frames (n - 1)) []

abbrev pub precedence_of : List Arrival → (n : ℕ) → ℕ
precedence_of arrived n = option_map_or (λ (a : Arrival). a.prec) (slice_get arrived (n - 1)) 0

-- a packet may have been marked in a class: the class's queue marks, and the packet has precedence 1, which says there that its
-- transport is capable of explicit congestion notification (RFC 3168)
abbrev pub is_markable : Packets → (n class : ℕ) → Bool
is_markable p n class = option_map_or (λ (marks : Bool). marks) (slice_get p.marks class) false && (precedence_of p.arrived n == 1)
