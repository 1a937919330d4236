-- Tests one after the other: the first that fails gives its fault.
use Rattle.std.specs.Prelude.{Bool, if◌then◌else◌, Option, Some, None, Result, Ok, Err}
use Rattle.conf_lines.specs.declared.fault.ConfPlace.{ConfPlace}

infixl 10 ◌>>=◌
abbrev pub ◌>>=◌ : {A B : Type 0} → Result A ConfPlace → (A → Result B ConfPlace) → Result B ConfPlace
Ok x >>= next = next x
Err fault >>= next = Err fault

-- what is there, or this fault
abbrev pub some : {A : Type 0} → Option A → ConfPlace → Result A ConfPlace
some None fault = Err fault
some (Some x) fault = Ok x

-- this fault, where the condition holds
abbrev pub refuse : Bool → ConfPlace → Result (Unit {0}) ConfPlace
refuse holds fault = if holds then Err fault else Ok tt

-- the own fault of a statement, where it has one
abbrev pub own : Option ConfPlace → Result (Unit {0}) ConfPlace
own None = Ok tt
own (Some fault) = Err fault
