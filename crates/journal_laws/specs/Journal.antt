-- The laws of a journal, said of its decisions and of the arrivals alone: no offer is told, no verdict and no rule. The decisions
-- stand in their order, the oldest first; those before a decision are a list of which the newest is the first.
use Rattle.std.specs.Prelude.{◌≡◌, ◌≤◌, ◌<◌, ◌==◌, ◌-◌, ℕ, max, List, [], ◌∷◌, length, if◌then◌else◌, slice_get}
use Rattle.std.specs.Option.{option_map_or}
use Rattle.altq_model.specs.declared.Fate.{Fate}
use Rattle.altq_model.specs.declared.Fate.TheVariants.{Dropped, Sent}
use Rattle.altq_model.specs.History.{Arrival, Decision}
use Rattle.altq_model.specs.Idle.{dropped}
use Rattle.altq_model.specs.Laws.{occurs, AllBelow, IsConserved, at_of}
use Rattle.altq_model.specs.Link.{Link, idle_link, after_sending, end_of}

-- each decision is so after those before it
abbrev pub EachAfter : (IsSo : List Decision → Decision → Type 0) → (before : List Decision) → List Decision → Type 0
EachAfter IsSo before [] = Unit {0}
EachAfter IsSo before (d ∷ js) = IsSo before d × EachAfter IsSo (d ∷ before) js

abbrev pub Each : (IsSo : List Decision → Decision → Type 0) → List Decision → Type 0
Each IsSo js = EachAfter IsSo [] js

-- a fact of a sending by its start and its end, and one of a drop
abbrev pub IfSent : Fate → ((start end : ℕ) → Type 0) → Type 0
IfSent (Dropped reason) P = Unit {0}
IfSent (Sent start end rule) P = P start end

abbrev pub IfDropped : Fate → Type 0 → Type 0
IfDropped (Dropped reason) P = P
IfDropped (Sent start end rule) P = Unit {0}

-- the class and the length of the arrival of a number
abbrev pub class_of : List Arrival → (n : ℕ) → ℕ
class_of arrived n = option_map_or (λ (a : Arrival). a.class) (slice_get arrived (n - 1)) 0

abbrev pub len_of : List Arrival → (n : ℕ) → ℕ
len_of arrived n = option_map_or (λ (a : Arrival). a.len) (slice_get arrived (n - 1)) 0

-- the numbers that were sent, of whatever class
abbrev pub if_sent : Fate → (n : ℕ) → List ℕ → List ℕ
if_sent (Dropped reason) n ns = ns
if_sent (Sent start end rule) n ns = n ∷ ns

abbrev pub numbers_sent : List Decision → List ℕ
numbers_sent [] = []
numbers_sent (d ∷ js) = if_sent d.1 d.0 (numbers_sent js)

-- and in a class
abbrev pub numbers_sent_in : List Arrival → (c : ℕ) → List Decision → List ℕ
numbers_sent_in arrived c [] = []
numbers_sent_in arrived c (d ∷ js) =
    if class_of arrived d.0 == c then if_sent d.1 d.0 (numbers_sent_in arrived c js) else numbers_sent_in arrived c js

-- the starts of the sendings
abbrev pub start_then : Fate → List ℕ → List ℕ
start_then (Dropped reason) ns = ns
start_then (Sent start end rule) ns = start ∷ ns

abbrev pub starts : List Decision → List ℕ
starts [] = []
starts (d ∷ js) = start_then d.1 (starts js)

-- the end of the newest sending, 0 where there is none
abbrev pub end_or : Fate → ℕ → ℕ
end_or (Dropped reason) t = t
end_or (Sent start end rule) t = end

abbrev pub last_end : List Decision → ℕ
last_end [] = 0
last_end (d ∷ js) = end_or d.1 (last_end js)

-- the link after the sendings
abbrev pub link_then : (rate len : ℕ) → Fate → Link → Link
link_then rate len (Dropped reason) l = l
link_then rate len (Sent start end rule) l = after_sending rate l start len

abbrev pub link_after : (rate : ℕ) → List Arrival → List Decision → Link
link_after rate arrived [] = idle_link
link_after rate arrived (d ∷ js) = link_then rate (len_of arrived d.0) d.1 (link_after rate arrived js)

-- no number of a list is above t
abbrev pub NoneAbove : (t : ℕ) → List ℕ → Type 0
NoneAbove t [] = Unit {0}
NoneAbove t (n ∷ ns) = (n ≤ t) × NoneAbove t ns

-- the arrivals of the numbers that were dropped
abbrev pub moments : List Arrival → List ℕ → List ℕ
moments arrived [] = []
moments arrived (n ∷ ns) = at_of arrived n ∷ moments arrived ns

-- a sending has a greater number than all that its class sent before
abbrev pub SendsInOrder : List Arrival → (before : List Decision) → Decision → Type 0
SendsInOrder arrived before d = IfSent d.1 (λ start end. AllBelow d.0 (numbers_sent_in arrived (class_of arrived d.0) before))

-- a drop has a greater number than all drops before it
abbrev pub DropsInOrder : (before : List Decision) → Decision → Type 0
DropsInOrder before d = IfDropped d.1 (AllBelow d.0 (dropped before))

-- no start is before an earlier one
abbrev pub StartsInOrder : (before : List Decision) → Decision → Type 0
StartsInOrder before d = IfSent d.1 (λ start end. NoneAbove start (starts before))

-- a drop stands after every sending that starts before its arrival, and before every other sending
abbrev pub DropsAtArrival : List Arrival → (before : List Decision) → Decision → Type 0
DropsAtArrival arrived before d = IfDropped d.1 (AllBelow (at_of arrived d.0) (starts before))

abbrev pub SendsAfterDrops : List Arrival → (before : List Decision) → Decision → Type 0
SendsAfterDrops arrived before d = IfSent d.1 (λ start end. NoneAbove start (moments arrived (dropped before)))

-- no packet starts before it arrives
abbrev pub StartsAfterArrival : List Arrival → (before : List Decision) → Decision → Type 0
StartsAfterArrival arrived before d = IfSent d.1 (λ start end. at_of arrived d.0 ≤ start)

-- nor before the end of the sending before it
abbrev pub StartsAfterEnd : (before : List Decision) → Decision → Type 0
StartsAfterEnd before d = IfSent d.1 (λ start end. last_end before ≤ start)

-- each end is the link's
abbrev pub EndsAsLink : (rate : ℕ) → List Arrival → (before : List Decision) → Decision → Type 0
EndsAsLink rate arrived before d = IfSent d.1 (λ start end. end ≡ end_of rate (link_after rate arrived before) start (len_of arrived d.0))

-- the packets that the journal does not drop and that were not sent before
pub record IsUnsent (arrived : List Arrival) (journal before : List Decision) (n : ℕ) : Type 0 where
  pub from_one : 0 < n
  pub there : n ≤ length arrived
  pub kept : occurs n (dropped journal) ≡ 0
  pub unsent : occurs n (numbers_sent before) ≡ 0

-- this is the greater of the last end and the least arrival of those packets
pub record IsFirstMoment (arrived : List Arrival) (journal before : List Decision) (moment : ℕ) : Type 0 where
  pub first : ℕ
  pub left : IsUnsent arrived journal before first
  pub least : (n : ℕ) → IsUnsent arrived journal before n → at_of arrived first ≤ at_of arrived n
  pub is : moment ≡ max (last_end before) (at_of arrived first)

-- a sending starts as soon as it can: the link never idles while a packet that is kept has come and is not sent
abbrev pub StartsAtOnce : List Arrival → (journal before : List Decision) → Decision → Type 0
StartsAtOnce arrived journal before d = IfSent d.1 (λ start end. IsFirstMoment arrived journal before start)

abbrev pub IsBusy : List Arrival → List Decision → Type 0
IsBusy arrived js = Each (StartsAtOnce arrived js) js

-- the laws of the first decisions of a journal, however many
pub record AreDecisions (rate : ℕ) (arrived : List Arrival) (js : List Decision) : Type 0 where
  pub sends_in_order : Each (SendsInOrder arrived) js
  pub drops_in_order : Each DropsInOrder js
  pub starts_in_order : Each StartsInOrder js
  pub drops_at_arrival : Each (DropsAtArrival arrived) js
  pub sends_after_drops : Each (SendsAfterDrops arrived) js
  pub after_arrival : Each (StartsAfterArrival arrived) js
  pub after_end : Each StartsAfterEnd js
  pub ends : Each (EndsAsLink rate arrived) js

-- and of a whole one
pub record IsJournal (rate : ℕ) (arrived : List Arrival) (js : List Decision) : Type 0 where
  pub conserved : IsConserved (length arrived) js
  pub decisions : AreDecisions rate arrived js
