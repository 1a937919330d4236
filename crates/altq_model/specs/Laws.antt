-- What holds of every play, in words that name no rule.
use Rattle.std.specs.Prelude.{◌≡◌, ◌≤◌, ◌<◌, ◌==◌, ◌&&◌, ◌+◌, ◌-◌, ◌^◌, ◌*◌, ℕ, nat_lt, nat_le, List, [], ◌∷◌, length, if◌then◌else◌, slice_get}
use Rattle.std.specs.Option.{option_map_or}
use Rattle.altq_model.specs.History.{Arrival, Event, Offered, Sent, LabelledEvent, unlabelled, Decision, journal}
use Rattle.altq_model.specs.Link.{HasLinkEnds}

-- how often a number occurs in a list
abbrev pub occurs : (n : ℕ) → List ℕ → ℕ
occurs n [] = 0
occurs n (m ∷ ms) = (if m == n then 1 else 0) + occurs n ms

-- the numbers of which a journal decides
abbrev pub numbers : List Decision → List ℕ
numbers [] = []
numbers (d ∷ js) = d.0 ∷ numbers js

-- each number from 1 to the count has exactly one fate in the journal, and no other number has one
abbrev pub IsConserved : (count : ℕ) → List Decision → Type 0
IsConserved count js = (n : ℕ) → occurs n (numbers js) ≡ (if nat_lt 0 n && nat_le n count then 1 else 0)

-- the numbers that were sent in a class
abbrev pub sent_by : (c n : ℕ) → Event → List ℕ → List ℕ
sent_by c n (Offered a w v) ns = ns
sent_by c n (Sent s) ns = if s.class == c then n ∷ ns else ns

abbrev pub sent_in : (c : ℕ) → List LabelledEvent → List ℕ
sent_in c [] = []
sent_in c (e ∷ g) = sent_by c e.label e.what (sent_in c g)

-- each number of a list is less than m
abbrev pub AllBelow : (m : ℕ) → List ℕ → Type 0
AllBelow m [] = Unit {0}
AllBelow m (n ∷ ns) = (n < m) × AllBelow m ns

-- this event follows in order: if it is a sending, its packet has a greater number than all that its class sent before
abbrev pub FollowsInOrder : (n : ℕ) → Event → List LabelledEvent → Type 0
FollowsInOrder n (Offered a w v) g = Unit {0}
FollowsInOrder n (Sent s) g = AllBelow n (sent_in s.class g)

-- in each class the numbers of the sendings rise
abbrev pub IsOrdered : List LabelledEvent → Type 0
IsOrdered [] = Unit {0}
IsOrdered (e ∷ g) = FollowsInOrder e.label e.what g × IsOrdered g

-- the arrival of a number, in nanoseconds
abbrev pub at_of : List Arrival → (n : ℕ) → ℕ
at_of arrived n = option_map_or (λ (a : Arrival). a.at) (slice_get arrived (n - 1)) 0

abbrev pub StartsAfter : List Arrival → (n : ℕ) → Event → Type 0
StartsAfter arrived n (Offered a w v) = Unit {0}
StartsAfter arrived n (Sent s) = at_of arrived n ≤ s.start

-- no packet starts before it arrives
abbrev pub IsNotBefore : List Arrival → List LabelledEvent → Type 0
IsNotBefore arrived [] = Unit {0}
IsNotBefore arrived (e ∷ g) = StartsAfter arrived e.label e.what × IsNotBefore arrived g

-- each start of a history is before this moment
abbrev pub StartsBefore : (t : ℕ) → List Event → Type 0
StartsBefore t [] = Unit {0}
StartsBefore t (Offered a w v ∷ h) = StartsBefore t h
StartsBefore t (Sent s ∷ h) = (s.start < t) × StartsBefore t h

-- what is offered after a sending arrived after its start: every arrival up to a start is offered before that sending
abbrev pub IsPrompt : List Event → Type 0
IsPrompt [] = Unit {0}
IsPrompt (Offered a w v ∷ h) = StartsBefore a.at h × IsPrompt h
IsPrompt (Sent s ∷ h) = IsPrompt h

-- what holds of every play, whatever its policy
pub record KeepsLaws (rate : ℕ) (arrived : List Arrival) (g : List LabelledEvent) : Type 0 where
  pub conserved : IsConserved (length arrived) (journal g)
  pub ordered : IsOrdered g
  pub not_before : IsNotBefore arrived g
  pub prompt : IsPrompt (unlabelled g)
  pub ends : HasLinkEnds rate (unlabelled g)

-- the end of the clock, 2^32 seconds: the first moment that a capture cannot stamp. No packet may end at it or later
abbrev pub clock_end : ℕ
clock_end = 2 ^ 32 * 10 ^ 9

abbrev pub EndsInTime : Event → Type 0
EndsInTime (Offered a w v) = Unit {0}
EndsInTime (Sent s) = s.end < clock_end

-- each sending ends before the clock does
abbrev pub IsInTime : List LabelledEvent → Type 0
IsInTime [] = Unit {0}
IsInTime (e ∷ g) = EndsInTime e.what × IsInTime g

-- an event that is a sending which would end too late
abbrev pub IsLate : Event → Type 0
IsLate (Offered a w v) = ⊥
IsLate (Sent s) = clock_end ≤ s.end
