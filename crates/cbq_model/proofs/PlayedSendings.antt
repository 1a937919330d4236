-- The sendings of a play of CBQ.
use Rattle.std.proofs.Common.{◌≡◌, ◌<◌, ◌∙◌, ◌⊎◌, inl, inr, ℕ, List, [], ◌∷◌, ap, sym, subst}
use Rattle.altq_model.specs.declared.Rule.{Rule}
use Rattle.altq_model.specs.History.{Arrival, Event, LabelledEvent, unlabelled}
use Rattle.altq_model.specs.Lawful.{AreRising}
use Rattle.altq_model.specs.Link.{HasLinkEnds}
use Rattle.altq_model.specs.Play.{AreDue, Choice}
use Rattle.altq_model.specs.Policies.{Answering}
use Rattle.play_laws.specs.Events.{EachFollows, IsOffer, IsSending}
use Rattle.play_laws.proofs.OrderLemmas.{link_ends}
use Rattle.play_laws.proofs.TimeLemmas.{each_follows}
use Rattle.cbq_model.specs.declared.CbqClass.{CbqClass}
use Rattle.cbq_model.specs.Capped as capped
use Rattle.cbq_model.specs.Capped.{AreSendings}
use Rattle.cbq_model.specs.Rounds.{cbq}
use Rattle.cbq_model.proofs.Lawful.{cbq_lawful}

abbrev choice : ℕ → Rule → Choice
choice class r = record { class = class; rule = r }

choice_is : (k : Choice) (class : ℕ) (r : Rule) → class ≡ k.class → r ≡ k.rule → k ≡ choice class r
choice_is k class r e f = ap (λ (n : ℕ). choice n k.rule) (sym e) ∙ ap (λ (q : Rule). choice class q) (sym f)

-- one event more
follows : (cs : List CbqClass) (rate seed : ℕ) (answer : Answering) (arrived : List Arrival) (g : List LabelledEvent) (e : LabelledEvent)
    → IsOffer (cbq cs rate answer) rate seed arrived g e ⊎ IsSending (cbq cs rate answer) rate arrived g e
    → HasLinkEnds rate (unlabelled (e ∷ g)) → AreSendings cs rate (unlabelled g) → AreSendings cs rate (unlabelled (e ∷ g))
follows cs rate seed answer arrived g e (inl x) ends a =
    let P : LabelledEvent → Type 0 = λ k. AreSendings cs rate (k.what ∷ unlabelled g) in
    subst P (sym x.offer) a
follows cs rate seed answer arrived g e (inr x) ends a =
    let E : Event → Type 0 = λ k. HasLinkEnds rate (k ∷ unlabelled g) in
    let here = subst E x.event ends in
    let P : Event → Type 0 = λ k. AreSendings cs rate (k ∷ unlabelled g) in
    let one : capped.IsSending cs rate (unlabelled g) x.sending = record {
      held = x.may.held;
      free = here.0;
      end = x.end;
      packet = x.packet;
      front = x.front;
      len = x.len;
      choice = choice_is _ x.sending.class x.sending.rule x.class x.rule;
    } in
    subst P (sym x.event) (one, a)

each_sending : (cs : List CbqClass) (rate seed : ℕ) (answer : Answering) (arrived : List Arrival) (g : List LabelledEvent) → 0 < rate
    → EachFollows (cbq cs rate answer) rate seed arrived g → AreSendings cs rate (unlabelled g)
each_sending cs rate seed answer arrived [] some f = tt
each_sending cs rate seed answer arrived (e ∷ g) some f =
    follows cs rate seed answer arrived g e f.0
    (link_ends (cbq cs rate answer) rate seed arrived (e ∷ g) (cbq_lawful cs rate answer some) f)
    (each_sending cs rate seed answer arrived g some f.1)

pub played : (cs : List CbqClass) (rate seed : ℕ) (answer : Answering) (arrived : List Arrival) (g : List LabelledEvent) → 0 < rate → AreRising arrived
    → AreDue (cbq cs rate answer) rate seed arrived g → AreSendings cs rate (unlabelled g)
played cs rate seed answer arrived g some rise due =
    each_sending cs rate seed answer arrived g some (each_follows (cbq cs rate answer) rate seed arrived g some (cbq_lawful cs rate answer some) rise due)
