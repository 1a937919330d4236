-- The laws that a run cites, of configurations, of frames and of interfaces.
use Rattle.std.proofs.Common.{◌≡◌, ℕ, max, length, List, [], ◌∷◌, true, arith}
use Rattle.altq_model.specs.declared.Placed.{Placed}
use Rattle.altq_model.specs.Arrivals.{arrivals_from, arrivals_of, bare_arrivals}
use Rattle.altq_model.specs.History.{LabelledEvent}
use Rattle.altq_model.specs.Lawful.{IsLawful, IsOneOf}
use Rattle.altq_model.specs.Play.{AreDue}
use Rattle.capture_model.specs.Capture.{Record, Step, Reads}
use Rattle.conf_laws.specs.Fit.{IsInterface}
use Rattle.conf_laws.specs.Laws.{ConfigurationsFit}
use Rattle.conf_tree.specs.declared.interface.Interface.{Interface}
use Rattle.conf_tree.specs.Family.{is_queue_class}
use Rattle.frame_classes.specs.Frames.{place_in}
use Rattle.frame_classes.specs.Laws.{FramesHaveQueues}
use Rattle.hfsc_policy.specs.Heads.{AreSized, IsSized}
use Rattle.interface_policy.specs.Laws.{PlaysKeepPromises, PoliciesAreLawful, QueueClassesAreHeld, QueueClassesAreNamed}
use Rattle.interface_policy.specs.Policy.{policy_of, queue_names}
use Rattle.interface_policy.specs.Promises.{KeepsPromises}
use Rattle.play_laws.proofs.ArrivalLemmas.{arrivals_held, arrivals_rise}
use Rattle.play_laws.proofs.SizeLemmas.{reads_sized}
use Rattle.play_laws.specs.Sizes.{HasSizes, HaveSizes}
use Rattle.play_text.specs.Names.{HasClass}
use Rattle.interface_play.specs.Setup.{IsConfigured}
use Rattle.interface_play.specs.Laws.{HaveLaws}

pub have_laws : ConfigurationsFit → FramesHaveQueues → PoliciesAreLawful → QueueClassesAreHeld → QueueClassesAreNamed → PlaysKeepPromises → HaveLaws
have_laws fit queues lawful held named promises =
    record { fit = fit; queues = queues; lawful = lawful; held = held; named = named; promises = promises }

-- its numbers are in their ranges, and its policy is lawful
pub is_interface : HaveLaws → (i : Interface) → IsConfigured i → IsInterface i
is_interface laws i x = (laws.fit x.text x.interfaces x.read).interface x.place i x.at

pub is_lawful : HaveLaws → (i : Interface) → IsConfigured i → IsLawful (policy_of i)
is_lawful laws i x = laws.lawful i (is_interface laws i x)

-- the class of each frame holds packets, is the policy's and has a name
is_queue : HaveLaws → (i : Interface) → IsConfigured i → (frame : List ℕ) → is_queue_class i.kind i.classes (place_in i frame).class ≡ true
is_queue laws i x frame = laws.queues x.text x.interfaces x.read x.place i x.at frame

pub is_held : HaveLaws → (i : Interface) → IsConfigured i → (frame : List ℕ) → IsOneOf (place_in i frame).class (policy_of i).classes
is_held laws i x frame = laws.held i (place_in i frame).class (is_queue laws i x frame)

pub is_named : HaveLaws → (i : Interface) → IsConfigured i → (frame : List ℕ) → HasClass (queue_names i) (place_in i frame).class
is_named laws i x frame = laws.named i (place_in i frame).class (is_queue laws i x frame)

-- the packets of a capture are neither empty nor longer than the longest
sized_one : (r : Record) → HasSizes r → IsSized (max r.original (length r.captured))
sized_one r h =
    let some = h.some in
    let captured = h.captured in
    let original = h.original in
    record { least = omega (arith, some); most = omega (arith, captured, original) }

sized_from : (place : List ℕ → Placed) (latest : ℕ) (records : List Record) → HaveSizes records → AreSized (bare_arrivals (arrivals_from place latest records))
sized_from place latest [] h = tt
sized_from place latest (r ∷ rs) h = (sized_one r h.0, sized_from place (max latest r.stamp) rs h.1)

-- so the first events of a play of a capture keep what the interface promises
pub promises_kept : HaveLaws → (i : Interface) → IsConfigured i → (seed : ℕ) (bytes : List ℕ) (records : List Record) (last : Step) → Reads bytes records last
    → (g : List LabelledEvent) → AreDue (policy_of i) i.rate seed (bare_arrivals (arrivals_of (place_in i) records)) g
    → KeepsPromises i (bare_arrivals (arrivals_of (place_in i) records)) g
promises_kept laws i x seed bytes records last r g due =
    laws.promises i (is_interface laws i x) seed (bare_arrivals (arrivals_of (place_in i) records)) g (arrivals_rise (place_in i) records)
    (sized_from (place_in i) 0 records (reads_sized bytes records last r).each)
    (arrivals_held (policy_of i) (place_in i) records (is_held laws i x)) due
