-- A link that never idles, in words of arrivals and decisions alone: it is so where any class may send at any moment.
use Rattle.std.specs.Prelude.{◌≡◌, ◌≤◌, ◌<◌, ℕ, max, List, [], ◌∷◌, length}
use Rattle.altq_model.specs.declared.Fate.{Fate}
use Rattle.altq_model.specs.declared.Fate.TheVariants
use Rattle.altq_model.specs.declared.Fate.TheVariants.{Dropped}
use Rattle.altq_model.specs.History.{Arrival, Event, Offered, Sent, Sending, LabelledEvent, unlabelled, Decision, journal}
use Rattle.altq_model.specs.Laws.{occurs, at_of}
use Rattle.altq_model.specs.Link.{link}

-- the numbers that a journal drops
abbrev pub dropped_of : (n : ℕ) → Fate → List ℕ → List ℕ
dropped_of n (Dropped r) ns = n ∷ ns
dropped_of n (TheVariants.Sent start end rule) ns = ns

abbrev pub dropped : List Decision → List ℕ
dropped [] = []
dropped (d ∷ js) = dropped_of d.0 d.1 (dropped js)

-- the numbers that were sent, of whatever class
abbrev pub sent_of : (n : ℕ) → Event → List ℕ → List ℕ
sent_of n (Offered a w v) ns = ns
sent_of n (Sent s) ns = n ∷ ns

abbrev pub sent : List LabelledEvent → List ℕ
sent [] = []
sent (e ∷ g) = sent_of e.label e.what (sent g)

-- an arrival that the journal does not drop and that has not been sent
pub record IsLeft (arrived : List Arrival) (js : List Decision) (g : List LabelledEvent) (n : ℕ) : Type 0 where
  pub from_one : 0 < n
  pub there : n ≤ length arrived
  pub kept : occurs n (dropped js) ≡ 0
  pub unsent : occurs n (sent g) ≡ 0

-- a sending starts at the greater of the last end and the least arrival of those that are left
pub record StartsAtOnce (rate : ℕ) (arrived : List Arrival) (js : List Decision) (g : List LabelledEvent) (s : Sending) : Type 0 where
  pub first : ℕ
  pub left : IsLeft arrived js g first
  pub least : (n : ℕ) → IsLeft arrived js g n → at_of arrived first ≤ at_of arrived n
  pub start : s.start ≡ max (link rate (unlabelled g)).free (at_of arrived first)

abbrev pub FollowsAtOnce : (rate : ℕ) → List Arrival → List Decision → Event → List LabelledEvent → Type 0
FollowsAtOnce rate arrived js (Offered a w v) g = Unit {0}
FollowsAtOnce rate arrived js (Sent s) g = StartsAtOnce rate arrived js g s

abbrev pub AllAtOnce : (rate : ℕ) → List Arrival → List Decision → List LabelledEvent → Type 0
AllAtOnce rate arrived js [] = Unit {0}
AllAtOnce rate arrived js (e ∷ g) = FollowsAtOnce rate arrived js e.what g × AllAtOnce rate arrived js g

-- the link never idles while a packet that is kept has come and is not sent
abbrev pub NeverIdles : (rate : ℕ) → List Arrival → List LabelledEvent → Type 0
NeverIdles rate arrived g = AllAtOnce rate arrived (journal g) g
