-- The fates of a play as rows of comma-separated values (RFC 4180, with line feeds), in the order of the journal.
use Rattle.std.specs.Prelude.{ℕ, List, [], ◌∷◌, ◌++◌, codes}
use Rattle.std.specs.Fmt.{decimal}
use Rattle.csv.specs.Writing.{row_text, default_writer}
use Rattle.altq_model.specs.declared.Fate.{Fate}
use Rattle.altq_model.specs.declared.Fate.TheVariants.{Dropped, Sent}
use Rattle.altq_model.specs.declared.Reason.{Reason}
use Rattle.altq_model.specs.declared.Reason.TheVariants.{Full, Early, Forced}
use Rattle.altq_model.specs.declared.Rule.{Rule}
use Rattle.altq_model.specs.declared.Rule.TheVariants.{RealTime, Share, Own, Borrow}
use Rattle.altq_model.specs.Arrivals.{Captured, arrival}
use Rattle.altq_model.specs.History.{Decision}

-- the names of the classes
abbrev pub Naming : Type 0
Naming = (class : ℕ) → List ℕ

abbrev pub rule_word : Rule → List ℕ
rule_word RealTime = codes "realtime"
rule_word Share = codes "share"
rule_word Own = codes "own"
rule_word Borrow = codes "borrow"

abbrev pub reason_word : Reason → List ℕ
reason_word Full = codes "full"
reason_word Early = codes "early"
reason_word Forced = codes "forced"

-- the last three fields of a row: the word, the start and the end
abbrev pub fate_fields : Fate → List (List ℕ)
fate_fields (Dropped reason) = reason_word reason ∷ [] ∷ [] ∷ []
fate_fields (Sent start end rule) = rule_word rule ∷ decimal start ∷ decimal end ∷ []

-- the row of a packet's fate; times are in nanoseconds, the length is in bytes
abbrev pub fate_text : (number at len : ℕ) → (class : List ℕ) → Fate → List ℕ
fate_text number at len class fate =
    row_text default_writer (decimal number ∷ decimal at ∷ decimal len ∷ class ∷ fate_fields fate)

abbrev pub fate_row : Naming → List Captured → Decision → List ℕ
fate_row names arrived d =
    let a = arrival arrived d.0 in fate_text d.0 a.at a.len (names a.class) d.1

abbrev pub fate_rows : Naming → List Captured → List Decision → List ℕ
fate_rows names arrived [] = []
fate_rows names arrived (d ∷ js) = fate_row names arrived d ++ fate_rows names arrived js

abbrev pub fates_header : List ℕ
fates_header = codes "number,arrival,length,class,fate,start,end" ++ 10 ∷ []

-- the fates of a journal
abbrev pub fates : Naming → List Captured → List Decision → List ℕ
fates names arrived js = fates_header ++ fate_rows names arrived js
