-- A capture whose frames carry the marks of conditioners (RFC 2475): each class with a conditioner has a meter, and the code
-- point of each of its frames becomes that of the colour, before the frame is queued.
use Rattle.std.specs.Prelude.{ℕ, ◌+◌, ◌==◌, if◌then◌else◌, Option, Some, None, List, [], ◌∷◌, ◌++◌, length, take, drop}
use Rattle.capture_model.specs.Capture.{Record, outcome}
use Rattle.altq_model.specs.declared.Placed.{Placed}
use Rattle.altq_model.specs.Arrivals.{Captured, arrivals_of}
use Rattle.packet_heads.specs.Flow.{flow}
use Rattle.packet_heads.specs.Departing.{tos_of}
use Rattle.packet_heads.specs.Retagged.{retagged}
use Rattle.traffic_meter.specs.declared.rule.Colour.{Colour}
use Rattle.traffic_meter.specs.declared.rule.MeterRule.{MeterRule}
use Rattle.traffic_meter.specs.declared.rule.MeterRule.TheVariants.{Single, Two}
use Rattle.traffic_meter.specs.History.{Metered, colour_after}
use Rattle.traffic_meter.specs.Mark.{marked_tos}

-- a class, and the rule of its meter
pub record Conditioner : Type 0 where
  pub class : ℕ
  pub rule : MeterRule

-- how the frames of an interface find their classes, and the conditioners of its classes
pub record Conditioning : Type 0 where
  pub place : List ℕ → Placed
  pub conditioners : List Conditioner

-- the rule of a class, if the class has a conditioner
abbrev pub rule_of : List Conditioner → (class : ℕ) → Option MeterRule
rule_of [] class = None
rule_of (c ∷ cs) class = if c.class == class then Some c.rule else rule_of cs class

-- the class of assured forwarding (RFC 2597)
abbrev pub assured_class : MeterRule → ℕ
assured_class (Single cir cbs ebs af) = af
assured_class (Two pir pbs cir cbs af) = af

-- a packet as a meter sees it: when it arrives, and its whole length, whatever its frame holds
abbrev pub metered : Captured → Metered
metered a = record { moment = a.at; len = a.len }

-- the packets of a class, the newest first
abbrev pub history : (class : ℕ) → List Captured → List Metered
history class [] = []
history class (a ∷ earlier) = if a.class == class then metered a ∷ history class earlier else history class earlier

-- a frame with the code point of a colour; one that is neither IPv4 nor IPv6 has none, and stays
abbrev pub coloured_frame : MeterRule → Colour → List ℕ → List ℕ
coloured_frame rule colour frame = retagged frame (marked_tos (assured_class rule) colour (tos_of (flow frame)))

-- the frame of a packet that comes after earlier ones, the newest of them first
abbrev pub marked_frame : Option MeterRule → (earlier : List Captured) → Captured → List ℕ
marked_frame None earlier a = a.bytes
marked_frame (Some rule) earlier a =
    coloured_frame rule (colour_after rule (history a.class earlier) (metered a)) a.bytes

abbrev pub marked_frames : List Conditioner → (earlier arrived : List Captured) → List (List ℕ)
marked_frames cs earlier [] = []
marked_frames cs earlier (a ∷ rest) = marked_frame (rule_of cs a.class) earlier a ∷ marked_frames cs (a ∷ earlier) rest

-- the frames of a capture's records, as marked
abbrev pub frames : Conditioning → List Record → List (List ℕ)
frames c records = marked_frames c.conditioners [] (arrivals_of c.place records)

-- bytes that begin with records, each a header of 16 bytes and its frame, with frames of the same lengths in their places
abbrev pub with_frames : List (List ℕ) → (bytes : List ℕ) → List ℕ
with_frames [] bytes = bytes
with_frames (frame ∷ frames) bytes = take 16 bytes ++ (frame ++ with_frames frames (drop (16 + length frame) bytes))

-- the capture with the marked frames in its complete records; its head of 24 bytes stays, and what stands after those records
abbrev pub marked : Conditioning → (bytes : List ℕ) → List ℕ
marked c bytes = take 24 bytes ++ with_frames (frames c (outcome bytes).records) (drop 24 bytes)
