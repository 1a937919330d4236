-- What is asked of a play's journal besides its laws: which fates can occur, and which packets may be marked.
use Rattle.std.specs.Prelude.{◌≡◌, ◌<◌, ℕ, true, List, [], ◌∷◌, map}
use Rattle.altq_model.specs.Arrivals.{Captured, arrival}
use Rattle.altq_model.specs.History.{Arrival, Decision, Event, Offered, Sent, LabelledEvent, was_marked}
use Rattle.journal_laws.specs.Journal.{class_of}
use Rattle.fate_judge.specs.declared.given.Allowed.{Allowed}
use Rattle.fate_judge.specs.Reading.{can_occur_in}
use Rattle.fate_departures.specs.Frames.{Packets, is_markable}

-- the fate of each decision can occur in the class of its packet
abbrev pub CanOccur : List Allowed → List Arrival → List Decision → Type 0
CanOccur classes arrived [] = Unit {0}
CanOccur classes arrived (d ∷ js) = (can_occur_in classes (class_of arrived d.0) d.1 ≡ true) × CanOccur classes arrived js

-- each packet that is sent marked is one that may be
abbrev pub MayHaveMarked : Packets → List Captured → (n : ℕ) → Event → List LabelledEvent → Type 0
MayHaveMarked p arrived n (Offered a w v) g = Unit {0}
MayHaveMarked p arrived n (Sent s) g = was_marked n g ≡ true → is_markable p n (arrival arrived n).class ≡ true

abbrev pub MarksAreAllowed : Packets → List Captured → List LabelledEvent → Type 0
MarksAreAllowed p arrived [] = Unit {0}
MarksAreAllowed p arrived (e ∷ g) = MayHaveMarked p arrived e.label e.what g × MarksAreAllowed p arrived g

-- the captured bytes of packets are those of the arrivals
abbrev pub bytes_of : Captured → List ℕ
bytes_of a = a.bytes

abbrev pub HasFrames : Packets → List Captured → Type 0
HasFrames p arrived = p.frames ≡ map bytes_of arrived

-- no packet is empty
abbrev pub AreSome : List Arrival → Type 0
AreSome [] = Unit {0}
AreSome (a ∷ rest) = (0 < a.len) × AreSome rest
