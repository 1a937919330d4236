-- Where the flows of a configuration belong, and what the loop asks of a classifier, for each interface of every configuration.
use Rattle.std.specs.Prelude.{◌≡◌, ◌≤◌, ℕ, Bool, true, List, length, Some, slice_get}
use Rattle.conf_tree.specs.declared.interface.Interface.{Interface}
use Rattle.conf_tree.specs.Family.{is_queue_class}
use Rattle.conf_tree.specs.Reading.{IsConfiguration}
use Rattle.flow_filter.specs.Rules.{rules_of}
use Rattle.flow_filter.specs.Winner.{class_of}
use Rattle.packet_heads.specs.Flow.{Flow}
use Rattle.frame_classes.specs.Frames.{place_in, dress_in}

-- the class of a flow is a class that holds packets
abbrev pub ClassIsAQueue : Interface → Flow → Type 0
ClassIsAQueue i flow = is_queue_class i.kind i.classes (class_of (rules_of i) flow) ≡ true

abbrev pub FlowsHaveQueues : Type 0
FlowsHaveQueues =
    (text : List ℕ) (interfaces : List Interface) → IsConfiguration text interfaces
    → (k : ℕ) (i : Interface) → slice_get interfaces k ≡ Some i → (flow : Flow) → ClassIsAQueue i flow

-- the class of each frame is one that holds packets
abbrev pub FramesHaveQueues : Type 0
FramesHaveQueues =
    (text : List ℕ) (interfaces : List Interface) → IsConfiguration text interfaces
    → (k : ℕ) (i : Interface) → slice_get interfaces k ≡ Some i
    → (frame : List ℕ) → is_queue_class i.kind i.classes (place_in i frame).class ≡ true

-- its precedence is 0, 1 or 2
abbrev pub PrecedencesAreThree : Type 0
PrecedencesAreThree = (i : Interface) (frame : List ℕ) → (place_in i frame).prec ≤ 2

-- it departs as long as it came
abbrev pub FramesKeepTheirLength : Type 0
FramesKeepTheirLength =
    (i : Interface) (class : ℕ) (marked : Bool) (frame : List ℕ) → length (dress_in i class marked frame) ≡ length frame
