-- What CBQ stands for has the cap of its sendings.
use Rattle.std.proofs.Common.{◌<◌, ℕ, List, [], ◌∷◌, ◌++◌, subst}
use Rattle.altq_model.specs.History.{Event, LabelledEvent, Offered, Sent, Sending, unlabelled}
use Rattle.leaf_queue.specs.Queue.{QueueEvent, Saying}
use Rattle.cbq_model.specs.declared.CbqClass.{CbqClass}
use Rattle.cbq_model.specs.Capped.{AreSendings, KeepsItsRate}
use Rattle.cbq_model.specs.Tree.{class_of}
use Rattle.cbq_model.proofs.Capped.{keeps_its_rate}
use Rattle.cbq_rounds.specs.Kept.{IsOwnStretch}
use Rattle.cbq_rounds.specs.Stands.{Ruling, Represents}

-- the older events are sendings as well
pub sendings_before : (cs : List CbqClass) (rate : ℕ) (after h : List Event) → AreSendings cs rate (after ++ h) → AreSendings cs rate h
sendings_before cs rate [] h a = a
sendings_before cs rate (Offered x w v ∷ after) h a = sendings_before cs rate after h a
sendings_before cs rate (Sent s ∷ after) h a = sendings_before cs rate after h a.1

pub stood_for : {Q : Type 0} (stands : Q → List QueueEvent → Type 0) (says : Q → Saying) (d : Ruling Q) (h : List LabelledEvent) (c : ℕ)
    (last : Sending) (between : List Event) (first : Sending) → Represents stands says d h → 0 < (class_of d.shares.tree c).rate
    → IsOwnStretch d.shares.tree c (unlabelled h) last between first → KeepsItsRate d.shares.tree c last between first
stood_for stands says d h c last between first s some p =
    let A : List Event → Type 0 = λ es. AreSendings d.shares.tree d.shares.rate es in
    let here : List Event = Sent last ∷ between ++ Sent first ∷ p.before in
    keeps_its_rate d.shares.tree d.shares.rate c last between first p.before s.rate some (record {
      sendings = sendings_before d.shares.tree d.shares.rate p.after here (subst A p.all s.sendings);
      bottom = p.bottom;
      of_last = p.of_last;
      of_first = p.of_first;
      own = p.own;
    })
