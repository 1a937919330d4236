-- The statistics of a play as rows of comma-separated values: a header row, a row for each queue class, and the row of the sums.
use Rattle.std.specs.Prelude.{◌≤◌, ◌^◌, ℕ, List, [], ◌∷◌, ◌++◌, codes, map}
use Rattle.std.specs.Fmt.{decimal}
use Rattle.csv.specs.Writing.{row_text, default_writer}
use Rattle.altq_model.specs.declared.Counts.{Counts}
use Rattle.altq_model.specs.Arrivals.{Captured}
use Rattle.altq_model.specs.Counts.{total, counts_of}
use Rattle.altq_model.specs.History.{Decision}
use Rattle.play_text.specs.Names.{NameList}

abbrev pub stats_header : List ℕ
stats_header = codes "class,arrived,arrivedbytes,raised,sent,sentbytes,full,early,forced" ++ 10 ∷ []

-- the row of counts under a name
abbrev pub count_row : (name : List ℕ) → Counts → List ℕ
count_row name k = row_text default_writer (name ∷ decimal k.arrived ∷ decimal k.arrived_bytes ∷ decimal k.raised ∷ decimal k.sent
    ∷ decimal k.sent_bytes ∷ decimal k.full ∷ decimal k.early ∷ decimal k.forced ∷ [])

-- a row for each class
abbrev pub count_rows : NameList → List Counts → List ℕ
count_rows [] ks = []
count_rows (n ∷ ns) [] = []
count_rows (n ∷ ns) (k ∷ ks) = count_row n.1 k ++ count_rows ns ks

-- the sums of counts
abbrev pub sum_of : List Counts → Counts
sum_of ks = record {
  arrived = total (λ k. k.arrived) ks;
  arrived_bytes = total (λ k. k.arrived_bytes) ks;
  raised = total (λ k. k.raised) ks;
  sent = total (λ k. k.sent) ks;
  sent_bytes = total (λ k. k.sent_bytes) ks;
  full = total (λ k. k.full) ks;
  early = total (λ k. k.early) ks;
  forced = total (λ k. k.forced) ks;
}

-- the text of counts, one for each class
abbrev pub stats_of : NameList → List Counts → List ℕ
stats_of names ks = stats_header ++ count_rows names ks ++ count_row (codes "*") (sum_of ks)

-- the statistics of what arrived and what was decided
abbrev pub statistics : NameList → List Captured → List Decision → List ℕ
statistics names arrived js = stats_of names (map (λ n. counts_of n.0 arrived js) names)

-- no count is above 2^41
pub record IsCountable (k : Counts) : Type 0 where
  pub arrived : k.arrived ≤ 2 ^ 41
  pub arrived_bytes : k.arrived_bytes ≤ 2 ^ 41
  pub raised : k.raised ≤ 2 ^ 41
  pub sent : k.sent ≤ 2 ^ 41
  pub sent_bytes : k.sent_bytes ≤ 2 ^ 41
  pub full : k.full ≤ 2 ^ 41
  pub early : k.early ≤ 2 ^ 41
  pub forced : k.forced ≤ 2 ^ 41
