-- The departures of a play as a capture of the classic format (libpcap, pcap-savefile(5)): a record for each sending, in the
-- order of decision, stamped with its end. A drop leaves no record.
use Rattle.std.specs.Prelude.{◌≡◌, ℕ, Bool, List, [], ◌∷◌, ◌++◌, length}
use Rattle.capture_model.specs.Capture.{Record}
use Rattle.capture_model.specs.Written.{written}
use Rattle.altq_model.specs.Arrivals.{Captured, arrival}
use Rattle.altq_model.specs.History.{Event, Offered, Sent, LabelledEvent, was_marked}

-- the bytes with which a class's packet leaves, by those with which it came and by whether it is marked
abbrev pub Dressing : Type 0
Dressing = (class : ℕ) → (marked : Bool) → List ℕ → List ℕ

-- as many bytes leave as came, so that a departure's captured length is its arrival's
abbrev pub KeepsLength : Dressing → Type 0
KeepsLength dress = (class : ℕ) (marked : Bool) (bytes : List ℕ) → length (dress class marked bytes) ≡ length bytes

-- the record of a packet that was sent
abbrev pub departure : Dressing → Captured → (marked : Bool) → (end : ℕ) → Record
departure dress a marked end = record { stamp = end; captured = dress a.class marked a.bytes; original = a.len }

-- what an event adds, after a history
abbrev pub departed_by : Dressing → List Captured → (n : ℕ) → Event → List LabelledEvent → List Record
departed_by dress arrived n (Offered a w v) g = []
departed_by dress arrived n (Sent s) g = departure dress (arrival arrived n) (was_marked n g) s.end ∷ []

-- the records of a history's sendings
abbrev pub departed : Dressing → List Captured → List LabelledEvent → List Record
departed dress arrived [] = []
departed dress arrived (e ∷ g) = departed dress arrived g ++ departed_by dress arrived e.label e.what g

-- the departures of a history
abbrev pub departures : Dressing → List Captured → List LabelledEvent → List ℕ
departures dress arrived g = written (departed dress arrived g)
