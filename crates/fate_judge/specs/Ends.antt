-- Ends as the link's.
use Rattle.std.specs.Prelude.{◌≡◌, ℕ, List}
use Rattle.altq_model.specs.History.{Arrival}
use Rattle.altq_model.specs.Link.{Link}
use Rattle.journal_laws.specs.Journal.{EndsAsLink, link_after}
use Rattle.fate_check.specs.declared.reading.Row.{Row}
use Rattle.fate_judge.specs.declared.ends.Run.{Run}
use Rattle.fate_judge.specs.Given.{decision_of, decisions}

-- a sending's end is the link's
abbrev pub HasEnd : (rate : ℕ) → List Arrival → (before : List Row) → Row → Type 0
HasEnd rate arrived before r = EndsAsLink rate arrived (decisions before) (decision_of r)

abbrev pub link_of : Run → Link
link_of r = record { free = r.free; run = r.start; sent = r.sent }

-- the link after these rows
abbrev pub IsLink : (rate : ℕ) → List Arrival → (before : List Row) → Run → Type 0
IsLink rate arrived before r = link_after rate arrived (decisions before) ≡ link_of r
