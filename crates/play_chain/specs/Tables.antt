-- The tables of the fates of both plays, by their numbers, and the journals that they hold.
use Rattle.std.specs.Prelude.{◌≡◌, ◌≤◌, ◌++◌, ℕ, List, length, None, Some, slice_get}
use Rattle.std.specs.declared.option.Option.{Option}
use Rattle.altq_model.specs.declared.Fate.{Fate}
use Rattle.altq_model.specs.declared.Fate.TheVariants.{Dropped, Sent}
use Rattle.altq_model.specs.History.{Decision}
use Rattle.altq_model.specs.Laws.{occurs}
use Rattle.play_loop.specs.declared.kept.KeptFate.{KeptFate}
use Rattle.play_chain.specs.declared.firsts.First.{First}
use Rattle.play_chain.specs.declared.firsts.First.TheVariants as first
use Rattle.play_chain.specs.declared.firsts.Firsts.{Firsts}
use Rattle.play_chain.specs.declared.outcome.Outcome.{Outcome}
use Rattle.play_chain.specs.declared.outcome.Outcome.TheVariants as outcome
use Rattle.play_chain.specs.declared.outcome.Passage.{Passage}
use Rattle.play_chain.specs.declared.seconds.Second.{Second}
use Rattle.play_chain.specs.declared.seconds.Second.TheVariants as second
use Rattle.play_chain.specs.declared.seconds.Seconds.{Seconds}
use Rattle.play_chain.specs.Path.{decisions_of, fate_under, kept_under, numbers_of, second_number, sendings}
use Rattle.play_chain.specs.Text.{above, path_header, rows_below}

-- the row of a number in each table
abbrev pub first_found : Option First → First
first_found None = first.Absent
first_found (Some row) = row

abbrev pub first_in : List First → (n : ℕ) → First
first_in rows n = first_found (slice_get rows n)

abbrev pub second_found : Option Second → Second
second_found None = second.Absent
second_found (Some row) = row

abbrev pub second_in : List Second → (k : ℕ) → Second
second_in rows k = second_found (slice_get rows k)

-- the outcome of a packet that the first play sent, by its row in the second table
abbrev pub outcome_by : Second → Outcome
outcome_by second.Absent = outcome.Sent None
outcome_by second.Dropped = outcome.DroppedSecond
outcome_by (second.Sent end) = outcome.Sent (Some end)

-- the passage by a row of the first table
abbrev pub passage_by : List Second → First → Option Passage
passage_by seconds first.Absent = None
passage_by seconds (first.Dropped at) = Some (record { arrival = at; outcome = outcome.DroppedFirst })
passage_by seconds (first.Sent at place) = Some (record { arrival = at; outcome = outcome_by (second_in seconds place) })

-- the passage of a number, and the text of all
abbrev pub in_tables : List First → List Second → (n : ℕ) → Option Passage
in_tables firsts seconds n = passage_by seconds (first_in firsts n)

abbrev pub text_in : Firsts → Seconds → List ℕ
text_in t u = path_header ++ rows_below (length t.rows.items) (in_tables t.rows.items u.rows.items)

-- the row of a first fate, where a sending would have this place; and of a second
abbrev pub first_by : (at place : ℕ) → Fate → First
first_by at place (Dropped r) = first.Dropped at
first_by at place (Sent start end rule) = first.Sent at place

abbrev pub first_row : (sent : List ℕ) → (n : ℕ) → Option KeptFate → First
first_row sent n None = first.Absent
first_row sent n (Some f) = first_by f.arrival (second_number sent n) f.fate

abbrev pub second_row : Option Fate → Second
second_row None = second.Absent
second_row (Some (Dropped r)) = second.Dropped
second_row (Some (Sent start end rule)) = second.Sent end

-- a table holds this first journal: the arrival of each number, what became of it, and the place of each sending
pub record IsFirstTable (t : Firsts) (first : List KeptFate) : Type 0 where
  pub rows : (n : ℕ) → first_in t.rows.items n ≡ first_row (sendings first) n (kept_under first n)
  pub within : above first ≤ length t.rows.items
  pub sent : t.sent ≡ length (sendings first)

-- a table holds this second journal
abbrev pub IsSecondTable : Seconds → List Decision → Type 0
IsSecondTable t js = (k : ℕ) → second_in t.rows.items k ≡ second_row (fate_under js k)

-- the number of each of these fates is that of no other
abbrev pub AreOnce : List KeptFate → Type 0
AreOnce fates = (n : ℕ) → occurs n (numbers_of fates) ≤ 1

-- a table holds these fates, if each has its own number
abbrev pub HoldsFirsts : Firsts → List KeptFate → Type 0
HoldsFirsts t fates = AreOnce fates → IsFirstTable t fates

abbrev pub HoldsSeconds : Seconds → List KeptFate → Type 0
HoldsSeconds t fates = AreOnce fates → IsSecondTable t (decisions_of fates)
