-- The paths of all packets as rows of comma-separated values, in the order of their numbers.
use Rattle.std.specs.Prelude.{◌+◌, ℕ, zero, suc, max, List, [], ◌∷◌, ◌++◌, codes, None, Some}
use Rattle.std.specs.declared.option.Option.{Option}
use Rattle.std.specs.Option.{option_map_or}
use Rattle.std.specs.Fmt.{decimal}
use Rattle.csv.specs.Writing.{row_text, default_writer}
use Rattle.altq_model.specs.History.{Decision}
use Rattle.play_loop.specs.declared.kept.KeptFate.{KeptFate}
use Rattle.play_chain.specs.declared.outcome.Outcome.{Outcome}
use Rattle.play_chain.specs.declared.outcome.Outcome.TheVariants.{DroppedFirst, DroppedSecond, Sent}
use Rattle.play_chain.specs.declared.outcome.Passage.{Passage}
use Rattle.play_chain.specs.Path.{passage}

abbrev pub path_header : List ℕ
path_header = codes "number,arrival,outcome,end" ++ 10 ∷ []

-- the last two fields of a row: the word, and the end on the second link, which is empty where there is none
abbrev pub outcome_fields : Outcome → List (List ℕ)
outcome_fields DroppedFirst = codes "dropped1" ∷ [] ∷ []
outcome_fields DroppedSecond = codes "dropped2" ∷ [] ∷ []
outcome_fields (Sent None) = codes "sent" ∷ [] ∷ []
outcome_fields (Sent (Some end)) = codes "sent" ∷ decimal end ∷ []

-- the row of a packet; times are in nanoseconds
abbrev pub path_row : (n : ℕ) → Passage → List ℕ
path_row n p = row_text default_writer (decimal n ∷ decimal p.arrival ∷ outcome_fields p.outcome)

-- the rows of the numbers below m
abbrev pub rows_below : (m : ℕ) → (ℕ → Option Passage) → List ℕ
rows_below zero passages = []
rows_below (suc m) passages = rows_below m passages ++ option_map_or (path_row m) (passages m) []

-- no number is as great as this
abbrev pub above : List KeptFate → ℕ
above [] = 0
above (f ∷ fs) = max (f.number + 1) (above fs)

-- the text of the paths through two plays
abbrev pub path_text : (first : List KeptFate) → (second : List Decision) → List ℕ
path_text first second = path_header ++ rows_below (above first) (passage first second)
