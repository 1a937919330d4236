-- The plan of each command, in the order in which its files come to be.
use Rattle.std.specs.Prelude.{ℕ, List, [], ◌∷◌}
use Rattle.file_plans.specs.declared.part.Part.TheVariants as part
use Rattle.file_plans.specs.Plan.{Place, read_place, written_place}
use Rattle.command_form.specs.Names.{GivenNames, Links, MarkNames, Names}

-- `check`, and `bound`
abbrev pub check_plan : (config : List ℕ) → List Place
check_plan config = read_place part.Configuration config ∷ []

abbrev pub outputs_plan : Names → List Place
outputs_plan n = written_place part.Departures n.departures ∷ written_place part.Fates n.fates ∷ written_place part.Statistics n.stats ∷ []

-- `play` and `shares`
abbrev pub play_plan : Names → List Place
play_plan n = read_place part.Configuration n.config ∷ read_place part.Arrivals n.arrivals ∷ outputs_plan n

-- `make` writes its arrivals, and then reads them
abbrev pub make_plan : Names → List Place
make_plan n =
    read_place part.Configuration n.config ∷ written_place part.Arrivals n.arrivals ∷ read_place part.Arrivals n.arrivals ∷ outputs_plan n

abbrev pub condition_plan : MarkNames → List Place
condition_plan n =
    read_place part.Configuration n.config ∷ read_place part.Arrivals n.arrivals ∷ written_place part.Marked n.marked ∷ []

-- `verify` writes nothing: each file is read whole before the next is opened
abbrev pub verify_plan : GivenNames → List Place
verify_plan n =
    read_place part.Configuration n.config ∷ read_place part.Arrivals n.arrivals ∷ read_place part.Departures n.departures
    ∷ read_place part.Fates n.fates ∷ []

-- `chain` writes its first departures, and then reads them
abbrev pub chain_plan : Links → List Place
chain_plan n =
    read_place part.Configuration n.first.config ∷ read_place part.Arrivals n.first.arrivals ∷ written_place part.Departures n.first.departures
    ∷ written_place part.Fates n.first.fates ∷ written_place part.Statistics n.first.stats ∷ read_place part.Departures n.first.departures
    ∷ written_place part.SecondDepartures n.departures ∷ written_place part.SecondFates n.fates ∷ written_place part.SecondStatistics n.stats
    ∷ written_place part.Path n.path ∷ []
