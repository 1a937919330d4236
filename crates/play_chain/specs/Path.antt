-- The path of a packet through two links: the k-th sending of the first journal is packet k of the second play.
use Rattle.std.specs.Prelude.{◌==◌, ◌+◌, ℕ, List, [], ◌∷◌, None, Some, option_map, if◌then◌else◌}
use Rattle.std.specs.declared.option.Option.{Option}
use Rattle.altq_model.specs.declared.Fate.{Fate}
use Rattle.altq_model.specs.declared.Fate.TheVariants.{Dropped, Sent}
use Rattle.altq_model.specs.History.{Decision}
use Rattle.play_loop.specs.declared.kept.KeptFate.{KeptFate}
use Rattle.play_chain.specs.declared.outcome.Outcome.{Outcome}
use Rattle.play_chain.specs.declared.outcome.Outcome.TheVariants as outcome
use Rattle.play_chain.specs.declared.outcome.Passage.{Passage}

-- the numbers of fates that were kept, and the decisions without their arrivals
abbrev pub numbers_of : List KeptFate → List ℕ
numbers_of [] = []
numbers_of (f ∷ fs) = f.number ∷ numbers_of fs

abbrev pub decisions_of : List KeptFate → List Decision
decisions_of [] = []
decisions_of (f ∷ fs) = (f.number, f.fate) ∷ decisions_of fs

-- the fate of a number in a journal, the first if it has several
abbrev pub fate_under : List Decision → (k : ℕ) → Option Fate
fate_under [] k = None
fate_under (d ∷ js) k = if d.0 == k then Some d.1 else fate_under js k

-- and with its arrival
abbrev pub kept_under : List KeptFate → (n : ℕ) → Option KeptFate
kept_under [] n = None
kept_under (f ∷ fs) n = if f.number == n then Some f else kept_under fs n

-- the numbers that were sent, in the order of the journal
abbrev pub with_sent : (n : ℕ) → Fate → List ℕ → List ℕ
with_sent n (Dropped r) ns = ns
with_sent n (Sent start end rule) ns = n ∷ ns

abbrev pub sendings : List KeptFate → List ℕ
sendings [] = []
sendings (f ∷ fs) = with_sent f.number f.fate (sendings fs)

-- the number, in the second play, of a packet that was sent: its place among the sendings, from 1
abbrev pub second_number : (sent : List ℕ) → (n : ℕ) → ℕ
second_number [] n = 0
second_number (m ∷ ms) n = if m == n then 1 else second_number ms n + 1

-- the outcome of a packet that was sent, by its second fate
abbrev pub second_outcome : Option Fate → Outcome
second_outcome None = outcome.Sent None
second_outcome (Some (Dropped r)) = outcome.DroppedSecond
second_outcome (Some (Sent start end rule)) = outcome.Sent (Some end)

-- a drop if the first fate is one, else the second fate
abbrev pub outcome_of : (sent : List ℕ) → (second : List Decision) → (n : ℕ) → Fate → Outcome
outcome_of sent second n (Dropped r) = outcome.DroppedFirst
outcome_of sent second n (Sent start end rule) = second_outcome (fate_under second (second_number sent n))

-- the passage of a number through both; None for a number that the first play does not have
abbrev pub passage : (first : List KeptFate) → (second : List Decision) → (n : ℕ) → Option Passage
passage first second n =
    option_map (λ f. record { arrival = f.arrival; outcome = outcome_of (sendings first) second n f.fate }) (kept_under first n)
