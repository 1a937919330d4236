-- The rows of given decisions, and rows behind others.
use Rattle.std.specs.Prelude.{◌≡◌, ◌++◌, List, map}
use Rattle.altq_model.specs.Arrivals.{Captured, arrival}
use Rattle.altq_model.specs.History.{Decision}
use Rattle.fate_check.specs.declared.reading.Row.{Row}

-- the row of a decision, with its arrival
abbrev pub row_for : List Captured → Decision → Row
row_for arrived d =
    let a = arrival arrived d.0 in record { number = d.0; at = a.at; len = a.len; class = a.class; fate = d.1 }

abbrev pub rows_for : List Captured → List Decision → List Row
rows_for arrived js = map (row_for arrived) js

-- behind some rows stand others, of which this holds
pub record Adds (P : List Row → Type 0) (rows all : List Row) : Type 0 where
  pub more : List Row
  pub all_are : all ≡ rows ++ more
  pub added : P more
