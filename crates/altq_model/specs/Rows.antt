-- Worked examples.
use Rattle.std.specs.Prelude.{ℕ, List, [], ◌∷◌, ◌++◌, drop, replicate, if◌then◌else◌}
use Rattle.altq_model.specs.declared.Placed.{Placed}
use Rattle.altq_model.specs.declared.Counts.{Counts}
use Rattle.altq_model.specs.declared.Rule.TheVariants.{Share}
use Rattle.altq_model.specs.declared.Verdict.TheVariants.{Mark}
use Rattle.capture_model.specs.Capture.{Record}
use Rattle.altq_model.specs.Arrivals.{arrivals_of, bare_arrivals}
use Rattle.altq_model.specs.Counts.{counts_of_all}
use Rattle.altq_model.specs.Departures.{Dressing, departures}
use Rattle.altq_model.specs.History.{Decision, LabelledEvent, journal}
use Rattle.altq_model.specs.Play.{Policy, play}
use Rattle.altq_model.specs.Policies.{one_queue, strict}
use Rattle.capture_model.specs.Rows.{plain}

-- every frame is of the one class
abbrev pub one_mark : List ℕ → Placed
one_mark frame = record { class = 1; prec = 0 }

abbrev pub play_of : Policy → (rate : ℕ) → List Record → List LabelledEvent
play_of p rate records = play p rate 42 (bare_arrivals (arrivals_of one_mark records))

-- the journal of these records, played through one queue of 50
abbrev pub journal_of : (rate : ℕ) → List Record → List Decision
journal_of rate records = journal (play_of (one_queue 50) rate records)

abbrev pub counts_in : (rate : ℕ) → List Record → Counts
counts_in rate records = counts_of_all (arrivals_of one_mark records) (journal_of rate records)

-- a marked packet leaves with both low bits of its second byte, which was 2 before (RFC 3168: of ECT(0) comes CE)
abbrev pub congested : Dressing
congested class marked bytes = if marked then 69 ∷ 3 ∷ drop 2 bytes else bytes

abbrev pub departures_of : Policy → (rate : ℕ) → List Record → List ℕ
departures_of p rate records = departures congested (arrivals_of one_mark records) (play_of p rate records)

-- one queue that marks every packet
abbrev pub marking : Policy
marking = strict (1 ∷ []) Share (λ h w a. record { verdict = Mark; took = 0 })

-- a packet of four bytes at 0, the second of which is 2
abbrev pub capable_packet : List Record
capable_packet = record { stamp = 0; captured = 69 ∷ 2 ∷ 0 ∷ 40 ∷ []; original = 1000 } ∷ []

-- one packet of length 1000 at 5 s
abbrev pub one_packet : List Record
one_packet = plain 5000000000 1000 ∷ []

-- three packets of length 100 at 0
abbrev pub three_packets : List Record
three_packets = replicate 3 (plain 0 100)

-- 51 packets of length 100 at 0
abbrev pub many_packets : List Record
many_packets = replicate 51 (plain 0 100)
