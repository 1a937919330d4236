-- What is kept of a play.
use Rattle.std.specs.Prelude.{ℕ, List}
use Rattle.play_loop.specs.declared.kept.KeptFate.{KeptFate}
use Rattle.play_chain.specs.declared.keeping.Tables.{Tables}
use Rattle.play_chain.specs.declared.keeping.Tables.TheVariants as tables
use Rattle.play_chain.specs.Tables.{HoldsFirsts, HoldsSeconds}

-- which plays' fates it keeps
abbrev pub first_kind : ℕ
first_kind = 1

abbrev pub second_kind : ℕ
second_kind = 2

abbrev pub kind_of : Tables → ℕ
kind_of tables.Nothing = 0
kind_of (tables.Firsts t) = first_kind
kind_of (tables.Seconds t) = second_kind

-- it was told these fates
abbrev pub Holds : Tables → List KeptFate → Type 0
Holds tables.Nothing fates = Unit {0}
Holds (tables.Firsts t) fates = HoldsFirsts t fates
Holds (tables.Seconds t) fates = HoldsSeconds t fates
