-- What a verification says.
use Rattle.std.specs.Prelude.{ℕ, ℤ, List, [], ◌++◌, codes, slice_get, Option, None, Some}
use Rattle.std.specs.List.{flat_map}
use Rattle.std.specs.Option.{option_map_or}
use Rattle.std.specs.Fmt.{signed_decimal}
use Rattle.conf_tree.specs.declared.class.Class.{Class}
use Rattle.conf_tree.specs.declared.interface.Interface.{Interface}
use Rattle.fate_timely.specs.declared.given.Late.{Late}

-- the name of a class of an interface
abbrev pub name_at : Interface → (class : ℕ) → List ℕ
name_at i class = option_map_or (λ (c : Class). c.name) (slice_get i.classes class) []

-- how late a class came, in nanoseconds
abbrev pub late_text : (name : List ℕ) → Option ℤ → List ℕ
late_text name None = name ++ codes " worst none\n"
late_text name (Some worst) = name ++ (codes " worst " ++ (signed_decimal worst ++ codes "\n"))

abbrev pub late_line : Interface → Late → List ℕ
late_line i late = late_text (name_at i late.class) late.worst

-- a line of each class, and the last line
abbrev pub verdict_text : Interface → List Late → List ℕ
verdict_text i late = flat_map (late_line i) late ++ codes "verified\n"
