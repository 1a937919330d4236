-- The arrivals that rows of fates are held to.
use Rattle.std.specs.Prelude.{List, map}
use Rattle.altq_model.specs.History.{Arrival, Decision}
use Rattle.fate_check.specs.declared.reading.Row.{Row}
use Rattle.fate_judge.specs.declared.given.Arrived.{Arrived}

abbrev pub bare_arrival : Arrived → Arrival
bare_arrival a = record { class = a.class; len = a.len; prec = a.prec; at = a.at }

abbrev pub bare_arrivals : List Arrived → List Arrival
bare_arrivals arrived = map bare_arrival arrived

-- the decisions of rows
abbrev pub decision_of : Row → Decision
decision_of r = (r.number, r.fate)

abbrev pub decisions : List Row → List Decision
decisions rows = map decision_of rows
