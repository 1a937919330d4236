-- The order in which filters are asked, with those of each version and port in it.
use Rattle.std.specs.Prelude.{ℕ, List, Option, Some, None, min}
use Rattle.conf_tree.specs.declared.filter.Filter.{Filter}
use Rattle.flow_filter.specs.declared.index.Index.{Index}
use Rattle.flow_filter.specs.declared.ports.Version.TheVariants.{V4, V6}
use Rattle.flow_filter.specs.Ranked.{IsRanked}
use Rattle.flow_filter.specs.Tables.{AreSides}

-- of these filters, all of which stand in it
pub record Indexes (filters : List Filter) (index : Index) : Type 0 where
  pub ranked : IsRanked filters index.places.items
  pub four : AreSides V4 filters index.places.items index.four
  pub six : AreSides V6 filters index.places.items index.six

-- the lesser of two numbers that may be there
abbrev pub least : Option ℕ → Option ℕ → Option ℕ
least None b = b
least (Some a) None = Some a
least (Some a) (Some b) = Some (min a b)
