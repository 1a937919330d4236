-- Worked examples on a link of 8,000,000 bits per second, on which a packet of 1,500 bytes takes 1.5 milliseconds, and on one of
-- 10,000,000.
use Rattle.std.specs.Prelude.{ℕ, zero, suc, ℤ, Bool, true, false, List, [], ◌∷◌, ◌++◌, None, Some}
use Rattle.altq_model.specs.History.{Arrival, Decision, Event, Offered, LabelledEvent, Sent, unlabelled, journal}
use Rattle.altq_model.specs.Play.{play, play_on}
use Rattle.altq_model.specs.Policies.{tail}
use Rattle.cbq_estimator.specs.Average.{average}
use Rattle.cbq_model.specs.declared.CbqClass.{CbqClass}
use Rattle.cbq_model.specs.Choice.{start_of}
use Rattle.cbq_model.specs.Rounds.{cbq, ends, situation}
use Rattle.cbq_model.specs.Tree.{class_of, each, pace_of, quantum_of}

abbrev pub root : (rate priority : ℕ) → CbqClass
root rate priority = record { parent = None; rate = rate; priority = priority; borrow = false; maxburst = 16; packetsize = 1500 }

abbrev pub child : (rate priority : ℕ) → (borrow : Bool) → (maxburst : ℕ) → CbqClass
child rate priority borrow maxburst =
    record { parent = Some 0; rate = rate; priority = priority; borrow = borrow; maxburst = maxburst; packetsize = 1500 }

-- `count` packets of a length for a class at 0
abbrev pub packets : (count class len : ℕ) → List Arrival
packets zero class len = []
packets (suc n) class len = record { class = class; len = len; prec = 0; at = 0 } ∷ packets n class len

-- the play of these packets
abbrev pub play_of : List CbqClass → (rate : ℕ) → List Arrival → List LabelledEvent
play_of cs rate arrived = play (cbq cs rate (tail 50)) rate 42 arrived

abbrev pub journal_of : List CbqClass → (rate : ℕ) → List Arrival → List Decision
journal_of cs rate arrived = journal (play_of cs rate arrived)

-- the average of a class after each sending, the oldest first
abbrev pub averages_in : List CbqClass → (c : ℕ) → List Event → List ℤ
averages_in cs c [] = []
averages_in cs c (Offered a w v ∷ h) = averages_in cs c h
averages_in cs c (Sent s ∷ h) = averages_in cs c h ++ average (pace_of (class_of cs c)) (ends cs c (Sent s ∷ h)) ∷ []

abbrev pub averages_of : List CbqClass → (rate c : ℕ) → List Arrival → List ℤ
averages_of cs rate c arrived = averages_in cs c (unlabelled (play_of cs rate arrived))

-- the least moment from t on at which a class may send after the first events of the play
abbrev pub next_start : List CbqClass → (rate c t events : ℕ) → List Arrival → ℕ
next_start cs rate c t events arrived =
    start_of cs rate (situation cs rate (unlabelled (play_on events (cbq cs rate (tail 50)) rate 42 arrived []))) c t

abbrev pub quanta : List CbqClass → (rate : ℕ) → List ℕ
quanta cs rate = each (λ c k. quantum_of rate k) cs

-- a class of 1 Mbit/s with a burst of one packet, which may borrow or not
abbrev pub paced : (borrow : Bool) → List CbqClass
paced borrow = root 8000000 0 ∷ child 1000000 0 borrow 1 ∷ []

-- a control class beside a default class that may borrow
abbrev pub manual : List CbqClass
manual = root 10000000 0 ∷ child 400000 6 false 16 ∷ child 9500000 1 true 16 ∷ []

-- two classes that share by two and one
abbrev pub two_and_one : List CbqClass
two_and_one = root 8000000 0 ∷ child 4000000 0 true 16 ∷ child 2000000 0 true 16 ∷ []

-- classes of rates just below, at and just above half of a link of 8 Mbit/s
abbrev pub around_a_half : List CbqClass
around_a_half = root 8000000 0 ∷ child 3999999 0 false 16 ∷ child 4000000 0 false 16 ∷ child 4000001 0 false 16 ∷ child 1000 0 false 16 ∷ []

-- three classes that share by thirds
abbrev pub thirds : List CbqClass
thirds = root 8000000 0 ∷ child 2666666 0 false 16 ∷ child 2666666 0 false 16 ∷ child 2666666 0 false 16 ∷ []

-- a class that may borrow or not, and one below it that may borrow
abbrev pub nested : (borrow : Bool) → List CbqClass
nested borrow =
    root 8000000 0
    ∷ child 1000000 0 borrow 1
    ∷ record { parent = Some 1; rate = 500000; priority = 0; borrow = true; maxburst = 1; packetsize = 1500 }
    ∷ []

-- a class with two packets at 0, and one with a packet at 0 and another 200 microseconds later
abbrev pub empty_between : List Arrival
empty_between = packets 1 1 1500 ++ packets 1 1 100 ++ packets 1 2 100 ++ record { class = 2; len = 400; prec = 0; at = 200000 } ∷ []
