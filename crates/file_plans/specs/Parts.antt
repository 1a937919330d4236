-- The number under which a run opens or creates each of its files, and that of what it prints.
use Rattle.std.specs.Prelude.{ℕ}
use Rattle.file_plans.specs.declared.part.Part.{Part}
use Rattle.file_plans.specs.declared.part.Part.TheVariants as part

abbrev pub printed : ℕ
printed = 0

abbrev pub part_number : Part → ℕ
part_number part.Configuration = 1
part_number part.Arrivals = 2
part_number part.Departures = 3
part_number part.Fates = 4
part_number part.Statistics = 5
part_number part.Marked = 6
part_number part.SecondDepartures = 7
part_number part.SecondFates = 8
part_number part.SecondStatistics = 9
part_number part.Path = 10
