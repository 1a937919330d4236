-- The plan of a command that creates a file and then opens it, and what `FilesEnd` says of it.
use Rattle.std.specs.Prelude.{◌≡◌, List, [], ◌∷◌, codes, IsTrue}
use Rattle.play_base.specs.View.{View, Everything, Keeps}
use Rattle.file_plans.specs.declared.part.Part.TheVariants as part
use Rattle.file_plans.specs.End.{FilesEnd, Untouched}
use Rattle.file_plans.specs.Plan.{Place, read_place, written_place}

-- the configuration is read, arrivals are written and read, and then departures are written
abbrev pub made : List Place
made =
    read_place part.Configuration (codes "conf") ∷ written_place part.Arrivals (codes "in") ∷ read_place part.Arrivals (codes "in")
    ∷ written_place part.Departures (codes "out") ∷ []

-- the configuration alone
abbrev pub checked : List Place
checked = read_place part.Configuration (codes "conf") ∷ []

-- where the configuration was not opened, nothing was; where the arrivals were not, no departures were created
pub record IsInOrder (old new : View) : Type 0 where
  pub arrivals : Untouched old new 1 → Untouched old new 2
  pub departures : Untouched old new 2 → Untouched old new 3

abbrev pub MadeInOrder : View → View → Type 0
MadeInOrder old new = FilesEnd made old new → IsInOrder old new

abbrev pub KeepsUncreated : View → View → Type 0
KeepsUncreated old new = FilesEnd made old new → IsTrue old.tells → Untouched old new 3 → new.bytes (codes "out") ≡ old.bytes (codes "out")

-- a plan that writes nothing keeps every name and every file, whether the object tells or not
abbrev pub ChecksKeepAll : View → View → Type 0
ChecksKeepAll old new = FilesEnd checked old new → Keeps Everything Everything old new
