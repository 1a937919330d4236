-- The filters of an interface by their versions and ports, in numbers.
use Rattle.std.specs.Prelude.{ℕ, List, length, Option, Some}
use Rattle.conf_tree.specs.declared.filter.Filter.{Filter}
use Rattle.packet_heads.specs.Flow.{Heads}
use Rattle.flow_filter.specs.declared.numbers.Numbers.{Numbers}
use Rattle.flow_filter.specs.declared.ports.Group.{Group}
use Rattle.flow_filter.specs.declared.ports.Side.TheVariants.{Target, Source}
use Rattle.flow_filter.specs.declared.ports.Version.{Version}
use Rattle.flow_filter.specs.declared.sides.Sides.{Sides}
use Rattle.flow_filter.specs.declared.table.Table.{Table}
use Rattle.flow_filter.specs.Entries.{StandFor, fits_at, of_version}
use Rattle.flow_filter.specs.Filed.{HoldsAll, EntriesAreInOrder}
use Rattle.flow_filter.specs.Numbers.{AreNumbersOf}
use Rattle.flow_filter.specs.Ranked.{matches_at}
use Rattle.flow_filter.specs.Search.{AreStretches, IsFirst}

-- every filter of a group stands there under its port, and in numbers
pub record IsTable (group : Group) (filters : List Filter) (places : List ℕ) (table : Table) : Type 0 where
  pub order : EntriesAreInOrder table.filed.items
  pub all : HoldsAll filters places group table.filed.items
  pub stand : StandFor group.version filters places table.filed.items (fits_at table.entries) (length table.filed.items)
  pub likely : AreStretches table.filed.items table.likely.items

-- every filter of a version, on either side
pub record AreSides (version : Version) (filters : List Filter) (places : List ℕ) (sides : Sides) : Type 0 where
  pub targets : IsTable (record { version = version; side = Target }) filters places sides.by_target
  pub sources : IsTable (record { version = version; side = Source }) filters places sides.by_source

-- what is found is the first filter that matches a flow of the version of the sides, which has these numbers
abbrev pub FindsFirst : Sides → Numbers → (found : Option ℕ) → Type 0
FindsFirst sides n found =
    (v : Version) (filters : List Filter) (places : List ℕ) (heads : Heads) → AreSides v filters places sides → AreNumbersOf (of_version v heads) (Some n)
    → IsFirst (matches_at filters places (of_version v heads)) found
