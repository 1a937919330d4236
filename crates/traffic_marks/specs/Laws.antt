-- What holds of every capture that is marked.
use Rattle.std.specs.Prelude.{◌≡◌, ◌≤◌, ℕ, ◌+◌, ◌-◌, ◌==◌, ◌&&◌, nat_lt, if◌then◌else◌, Bool, false, is_some, List, [], ◌∷◌, length, take, slice_index, All}
use Rattle.std.specs.List.{list_any}
use Rattle.capture_model.specs.Capture.{Record, outcome}
use Rattle.packet_heads.specs.Flow.{flow, packet_place}
use Rattle.packet_heads.specs.Retagged.{tos_places}
use Rattle.traffic_marks.specs.Marked.{Conditioning, assured_class, frames, marked, rule_of}

-- the records with other captured bytes
abbrev pub recaptured : List Record → List (List ℕ) → List Record
recaptured [] frames = []
recaptured (r ∷ rs) [] = r ∷ rs
recaptured (r ∷ rs) (frame ∷ frames) = record r { captured = frame } ∷ recaptured rs frames

-- the marked capture is as long as the capture
abbrev pub KeepsLength : Conditioning → List ℕ → Type 0
KeepsLength c bytes = length (marked c bytes) ≡ length bytes

-- It reads as the capture does but for the frames: as many records with the same stamps and lengths, and after them the same end,
-- fault or limit.
abbrev pub KeepsReading : Conditioning → List ℕ → Type 0
KeepsReading c bytes =
    outcome (marked c bytes) ≡ record {
      records = recaptured (outcome bytes).records (frames c (outcome bytes).records);
      last = (outcome bytes).last;
    }

-- a byte of a frame that a mark may change: that of the type of service or traffic class, and the checksum's of IPv4
abbrev pub is_mark : (frame : List ℕ) → (k : ℕ) → Bool
is_mark frame k = list_any (λ place. place == k) (tos_places (flow frame) (packet_place frame))

-- the class of a frame has a conditioner
abbrev pub is_conditioned : Conditioning → (frame : List ℕ) → Bool
is_conditioned c frame = is_some (rule_of c.conditioners (c.place frame).class)

-- A mark may change the byte at `k` from a record's place on: it stands in the frame of a conditioned class, of that record or of
-- one behind it. A header of 16 bytes stands before each frame.
abbrev pub may_change : Conditioning → List Record → (k : ℕ) → Bool
may_change c [] k = false
may_change c (r ∷ rs) k =
    if nat_lt k 16 then false
    else if nat_lt k (16 + length r.captured) then is_conditioned c r.captured && is_mark r.captured (k - 16)
    else may_change c rs (k - (16 + length r.captured))

-- the classes of assured forwarding are at most 4
abbrev pub AreAssured : Conditioning → Type 0
AreAssured c = All (λ conditioner. assured_class conditioner.rule ≤ 4) c.conditioners

-- Each other byte stays: the head, and behind it all that no mark may change, so also the headers of records, frames that are
-- neither IPv4 nor IPv6, frames of other classes, and what stands behind the complete records.
pub record KeepsOthers (c : Conditioning) (bytes : List ℕ) : Type 0 where
  pub head : take 24 (marked c bytes) ≡ take 24 bytes
  pub others : (k : ℕ) → may_change c (outcome bytes).records k ≡ false
      → slice_index (marked c bytes) (24 + k) ≡ slice_index bytes (24 + k)
