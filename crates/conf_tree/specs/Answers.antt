-- What the code answers is what is read, unless memory ran out.
use Rattle.std.specs.Prelude.{◌≡◌, Result, Ok, Err}
use Rattle.conf_lines.specs.declared.fault.ConfFault.{ConfFault}
use Rattle.conf_lines.specs.declared.fault.ConfFault.TheVariants.{At, NoMemory}
use Rattle.conf_lines.specs.declared.fault.ConfPlace.{ConfPlace}

-- it refuses with the fault
abbrev pub Fails : {A : Type 0} → ConfFault → Result A ConfPlace → Type 0
Fails NoMemory read = Unit {0}
Fails (At fault) read = read ≡ Err fault

-- it answers the value, or refuses
abbrev pub Answers : {A : Type 0} → Result A ConfFault → Result A ConfPlace → Type 0
Answers (Ok value) read = read ≡ Ok value
Answers (Err fault) read = Fails fault read

-- it comes to the value, or refuses
abbrev pub Gains : {U A : Type 0} → Result U ConfFault → A → Result A ConfPlace → Type 0
Gains (Ok done) value read = read ≡ Ok value
Gains (Err fault) value read = Fails fault read
