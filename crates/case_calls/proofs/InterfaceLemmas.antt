-- Where the frames of a configured interface belong.
use Rattle.std.proofs.Common.{◌≡◌, ◌≤◌, ℕ, List, Some, sym, subst}
use Rattle.std.specs.Prelude.{bytes_eq}
use Rattle.altq_model.specs.declared.Placed.{Placed}
use Rattle.altq_model.specs.Lawful.{IsOneOf}
use Rattle.altq_model.specs.Play.{Policy}
use Rattle.conf_laws.specs.Fit.{IsInterface}
use Rattle.conf_laws.specs.Laws.{ConfigurationsFit}
use Rattle.command_form.proofs.FitLemmas.{found_at}
use Rattle.conf_tree.specs.Reading.{IsConfiguration}
use Rattle.conf_tree.specs.declared.interface.Interface.{Interface}
use Rattle.frame_classes.specs.Frames.{place_in}
use Rattle.frame_classes.specs.Laws.{FramesHaveQueues, PrecedencesAreThree}
use Rattle.interface_play.specs.Setup.{IsConfigured}
use Rattle.interface_policy.specs.Laws.{QueueClassesAreHeld}
use Rattle.interface_policy.specs.Policy.{policy_of}
use Rattle.run_inputs.specs.Says.{interface_of}

-- its numbers are in their ranges
pub fits : (i : Interface) → ConfigurationsFit → IsConfigured i → IsInterface i
fits i law x = (law x.text x.interfaces x.read).interface x.place i x.at

pub configured_of : (name text : List ℕ) (interfaces : List Interface) (i : Interface) → IsConfiguration text interfaces
    → interface_of name interfaces ≡ Some i → IsConfigured i
configured_of name text interfaces i r e =
    let at = found_at (λ x. bytes_eq name x.name) interfaces i e in
    record { text = text; interfaces = interfaces; read = r; place = at.0; at = at.1 }

-- each in a class of the policy
pub held_in : (i : Interface) (p : Policy) (place : List ℕ → Placed) → FramesHaveQueues → QueueClassesAreHeld → IsConfigured i
    → p ≡ policy_of i → place ≡ place_in i → (frame : List ℕ) → IsOneOf (place frame).class p.classes
held_in i p place queues held x e f frame =
    let P : Policy → Type 0 = λ q. IsOneOf (place frame).class q.classes in
    let Q : (List ℕ → Placed) → Type 0 = λ m. IsOneOf (m frame).class (policy_of i).classes in
    subst P (sym e) (subst Q (sym f) (held i (place_in i frame).class (queues x.text x.interfaces x.read x.place i x.at frame)))

-- with one of three precedences
pub prec_in : (i : Interface) (place : List ℕ → Placed) → PrecedencesAreThree → place ≡ place_in i → (frame : List ℕ) → (place frame).prec ≤ 2
prec_in i place three f frame =
    let Q : (List ℕ → Placed) → Type 0 = λ m. (m frame).prec ≤ 2 in
    subst Q (sym f) (three i frame)
