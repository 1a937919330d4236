-- Worked rows of fates.
use Rattle.std.specs.Prelude.{ℕ, List, [], ◌∷◌, ◌++◌, codes}
use Rattle.altq_model.specs.declared.Fate.TheVariants.{Dropped, Sent}
use Rattle.altq_model.specs.declared.Reason.TheVariants.{Full}
use Rattle.altq_model.specs.declared.Rule.TheVariants.{Share}
use Rattle.play_text.specs.Names.{NameList}
use Rattle.fate_check.specs.declared.reading.Row.{Row}

-- an interface without classes
abbrev pub one_name : NameList
one_name = (1, codes "default") ∷ []

-- a text, and the line feed at its end
abbrev pub line : List ℕ → List ℕ
line text = text ++ 10 ∷ []

-- one packet of 1000 bytes at 5 s on 8 Mbit/s
abbrev pub at_five_seconds : Row
at_five_seconds = record { number = 1; at = 5000000000; len = 1000; class = 1; fate = Sent 5000000000 5001000000 Share }

-- the greatest numbers
abbrev pub greatest : Row
greatest = record { number = 18446744073709551615; at = 18446744073709551615; len = 4294967295; class = 1; fate = Dropped Full }
