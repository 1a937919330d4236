-- What follows from a history of sendings: averages, credits, the cursors of the rings, and so what a choice looks at.
use Rattle.std.specs.Prelude.{◌==◌, ◌+◌, ◌-◌, ◌*◌, ℕ, Bool, List, [], ◌∷◌, Option, is_none, option_map, replicate, slice_set, if◌then◌else◌}
use Rattle.std.specs.List.{list_any}
use Rattle.altq_model.specs.History.{Arrival, Event, Offered, Sent, Sending, head}
use Rattle.altq_model.specs.Link.{link}
use Rattle.altq_model.specs.Play.{Policy}
use Rattle.altq_model.specs.Policies.{Answering}
use Rattle.cbq_estimator.specs.Average.{Ended}
use Rattle.cbq_estimator.specs.Estimate.{Estimate}
use Rattle.cbq_estimator.specs.Now.{estimate_of}
use Rattle.cbq_model.specs.declared.CbqClass.{CbqClass}
use Rattle.cbq_model.specs.Tree.{class_of, each, is_under, numbers, pace_of, quantum_of}
use Rattle.cbq_model.specs.Choice.{Situation, candidates, choice_of, credit_in, rounds_for, start_of}

-- the ends of the packets of a class and of the classes below it, the newest first
abbrev pub ends : List CbqClass → (c : ℕ) → List Event → List Ended
ends cs c [] = []
ends cs c (Offered a w v ∷ h) = ends cs c h
ends cs c (Sent s ∷ h) = if is_under cs c s.class then record { end = s.end; len = s.len } ∷ ends cs c h else ends cs c h

abbrev pub estimates : List CbqClass → List Event → List Estimate
estimates cs h = each (λ c k. estimate_of (pace_of k) (ends cs c h)) cs

-- the length of the packet that stands first in each class
abbrev pub heads : List CbqClass → List Event → List (Option ℕ)
heads cs h = each (λ c k. option_map (λ (a : Arrival). a.len) (head c h)) cs

-- the ring of each priority starts at the class of it that was served last; before any was, at the first class of the file
abbrev pub cursors : List CbqClass → List Event → List ℕ
cursors cs [] = replicate 8 0
cursors cs (Offered a w v ∷ h) = cursors cs h
cursors cs (Sent s ∷ h) = slice_set (cursors cs h) (class_of cs s.class).priority s.class

-- A class's credit after a sending. Each candidate gains its quantum in each of the rounds that the class that sends needed. That class
-- then pays for its packet, and keeps no credit where nothing more waits in it.
abbrev pub rounds_needed : List CbqClass → (rate : ℕ) → Situation → Sending → ℕ
rounds_needed cs rate s x = rounds_for (credit_in s x.class) (quantum_of rate (class_of cs x.class)) x.len

abbrev pub gained : List CbqClass → (rate : ℕ) → Situation → (ready : List ℕ) → (n c : ℕ) → ℕ
gained cs rate s ready n c =
    if list_any (λ d. d == c) ready then credit_in s c + n * quantum_of rate (class_of cs c) else credit_in s c

abbrev pub credit_after : List CbqClass → (rate : ℕ) → Situation → Sending → (emptied : Bool) → (ready : List ℕ) → (n c : ℕ) → ℕ
credit_after cs rate s x emptied ready n c =
    if x.class == c then if emptied then 0 else gained cs rate s ready n c - x.len else gained cs rate s ready n c

abbrev pub credits_after : List CbqClass → (rate : ℕ) → Situation → Sending → (emptied : Bool) → List ℕ
credits_after cs rate s x emptied =
    let ready = candidates cs rate s x.start in
    let n = rounds_needed cs rate s x in
    each (λ c k. credit_after cs rate s x emptied ready n c) cs

abbrev pub credits : List CbqClass → (rate : ℕ) → List Event → List ℕ
credits cs rate [] = each (λ c k. 0) cs
credits cs rate (Offered a w v ∷ h) = credits cs rate h
credits cs rate (Sent x ∷ h) = credits_after cs rate (record {
  estimates = estimates cs h;
  heads = heads cs h;
  credits = credits cs rate h;
  cursors = cursors cs h;
  link = link rate h;
}) x (is_none (head x.class (Sent x ∷ h)))

-- what a choice looks at after a history, on a link of a rate in bits per second
abbrev pub situation : List CbqClass → (rate : ℕ) → List Event → Situation
situation cs rate h = record {
  estimates = estimates cs h;
  heads = heads cs h;
  credits = credits cs rate h;
  cursors = cursors cs h;
  link = link rate h;
}

-- CBQ with these classes, each of which may hold packets, on a link of a rate in bits per second
abbrev pub cbq : List CbqClass → (rate : ℕ) → Answering → Policy
cbq cs rate answer = record {
  classes = numbers cs;
  answer = answer;
  start_from = λ h c t. start_of cs rate (situation cs rate h) c t;
  pick = λ h t. choice_of cs rate (situation cs rate h) t;
}
