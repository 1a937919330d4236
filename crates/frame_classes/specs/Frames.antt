-- Where an interface puts a frame, and the bytes with which it departs.
use Rattle.std.specs.Prelude.{ℕ, ◌%◌, ◌==◌, Bool, false, not, if◌then◌else◌, List, map}
use Rattle.altq_model.specs.declared.Placed.{Placed}
use Rattle.altq_model.specs.Departures.{Dressing}
use Rattle.conf_tree.specs.declared.interface.Interface.{Interface}
use Rattle.flow_filter.specs.Rules.{Rules, rules_of}
use Rattle.flow_filter.specs.Winner.{class_of}
use Rattle.packet_heads.specs.Departing.{departing}
use Rattle.packet_heads.specs.Flow.{Flow, V4, V6, Other, flow}
use Rattle.packet_heads.specs.Points.{code_point, precedence, precedence_of}
use Rattle.frame_classes.specs.declared.handling.Handling.{Handling}
use Rattle.frame_classes.specs.Handlings.{handling_of, handling_at}

-- what is kept of an interface: its filters and its default class, and what each class asks
pub record Classes : Type 0 where
  pub rules : Rules
  pub handlings : List Handling

abbrev pub classes_of : Interface → Classes
classes_of i = record { rules = rules_of i; handlings = map handling_of i.classes }

-- a flow whose transport is capable of explicit congestion notification: the two bits of it are not 00 (RFC 3168)
abbrev pub is_capable : Flow → Bool
is_capable (V4 heads) = not (heads.tos % 4 == 0)
is_capable (V6 heads) = not (heads.tos % 4 == 0)
is_capable Other = false

-- in a class that marks the precedence says that, 1 or 0; in each other one it is that of the code point
abbrev pub precedence_in : (marks : Bool) → Flow → ℕ
precedence_in marks f = if marks then (if is_capable f then 1 else 0) else precedence f

-- the same by the type of service or traffic class alone, 0 where the flow is Other
abbrev pub precedence_by : (marks : Bool) → (tos : ℕ) → ℕ
precedence_by marks tos = if marks then (if not (tos % 4 == 0) then 1 else 0) else precedence_of (code_point tos)

-- a flow in its class
abbrev pub placed_flow : Classes → Flow → Placed
placed_flow c f = record { class = class_of c.rules f; prec = precedence_in (handling_at c.handlings (class_of c.rules f)).marks f }

abbrev pub placed_by : Classes → (frame : List ℕ) → Placed
placed_by c frame = placed_flow c (flow frame)

abbrev pub dressed_by : Classes → Dressing
dressed_by c class marked frame = departing (handling_at c.handlings class).clears marked frame

-- the same of an interface
abbrev pub place_in : Interface → (frame : List ℕ) → Placed
place_in i = placed_by (classes_of i)

abbrev pub dress_in : Interface → Dressing
dress_in i = dressed_by (classes_of i)
