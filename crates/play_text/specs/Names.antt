-- The queue classes of an interface and their names, as texts give them. A list of pairs: a class and its name.
use Rattle.std.specs.Prelude.{◌≢◌, ◌<◌, ◌≤◌, ◌==◌, ℕ, IsTrue, IsSome, List, [], length, All, AllPairs, position, find, option_map, unwrap_or}
use Rattle.std.specs.declared.option.Option.{Option}
use Rattle.std.specs.Str.{bytes_eq}
use Rattle.play_text.specs.Texts.{Naming}
use Rattle.line_text.specs.Names.{is_name}

abbrev pub NameList : Type 0
NameList = List (ℕ × List ℕ)

-- the place, from 0, at which a class stands
abbrev pub place_of : NameList → (class : ℕ) → Option ℕ
place_of names class = position (λ pair. pair.0 == class) names

-- a class stands there
abbrev pub HasClass : NameList → (class : ℕ) → Type 0
HasClass names class = IsSome (place_of names class)

-- the name that stands with a class; an empty one for a class that is not there
abbrev pub name_of : NameList → Naming
name_of names class = unwrap_or (option_map (λ pair. pair.1) (find (λ pair. pair.0 == class) names)) []

-- the class of a name; None where no class has it
abbrev pub class_named : NameList → (name : List ℕ) → Option ℕ
class_named names name = option_map (λ pair. pair.0) (find (λ pair. bytes_eq pair.1 name) names)

-- the classes rise, each has a name of its own, and there are at most 256
pub record AreNames (names : NameList) : Type 0 where
  pub rising : AllPairs (λ x y. x.0 < y.0) names
  pub named : All (λ pair. IsTrue (is_name pair.1)) names
  pub different : AllPairs (λ x y. x.1 ≢ y.1) names
  pub few : length names ≤ 256
