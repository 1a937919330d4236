-- Filters under the version of IP that they are of and the port that they fix, so that those that may match a flow are found at
-- once: under the target's port where they have one, else under the source's, which is 0 where they have none.
use Rattle.std.specs.Prelude.{◌≡◌, ℕ, ◌<◌, ◌≤◌, ◌==◌, if◌then◌else◌, List, All, length, Contains, Option, Some, None, IsSomeAnd, slice_index_or, option_and_then}
use Rattle.std.specs.Ordering.{nat_cmp}
use Rattle.std.specs.List.Sorted.{IsNonDecreasingBy, IsSortedByKey}
use Rattle.conf_tree.specs.declared.filter.Addresses.{Addresses}
use Rattle.conf_tree.specs.declared.filter.Addresses.TheVariants as own
use Rattle.conf_tree.specs.declared.filter.Filter.{Filter}
use Rattle.flow_filter.specs.declared.ports.Filed.{Filed}
use Rattle.flow_filter.specs.declared.ports.Group.{Group}
use Rattle.flow_filter.specs.declared.ports.Side.{Side}
use Rattle.flow_filter.specs.declared.ports.Side.TheVariants.{Target, Source}
use Rattle.flow_filter.specs.declared.ports.Version.{Version}
use Rattle.flow_filter.specs.declared.ports.Version.TheVariants.{V4, V6}
use Rattle.flow_filter.specs.Ranked.{filter_at}

-- the port under which a filter is filed on a side, if it is
abbrev pub port_on : Side → Filter → Option ℕ
port_on Target f = if f.target_port == 0 then None else Some f.target_port
port_on Source f = if f.target_port == 0 then Some f.source_port else None

-- the version of IP of a filter's addresses
abbrev pub version_of : Addresses → Version
version_of (own.V4 target target_mask source source_mask) = V4
version_of (own.V6 target target_len source source_len) = V6

-- the same, among the filters of a version
abbrev pub port_among : (its version : Version) → Option ℕ → Option ℕ
port_among V4 V4 port = port
port_among V4 V6 port = None
port_among V6 V4 port = None
port_among V6 V6 port = port

abbrev pub port_in : Group → Filter → Option ℕ
port_in group f = port_among group.version (version_of f.addresses) (port_on group.side f)

-- in the order of their ports, and of those with one port in the order in which they are asked
pub record EntriesAreInOrder (entries : List Filed) : Type 0 where
  pub ports_rise : IsNonDecreasingBy (λ e. e.port) entries
  pub ranks_rise : (i j : ℕ) (d : Filed) → i ≤ j → j < length entries → (slice_index_or entries i d).port ≡ (slice_index_or entries j d).port
      → (slice_index_or entries i d).rank ≤ (slice_index_or entries j d).rank

-- every filter that is filed in that group stands there
abbrev pub HoldsAll : List Filter → (places : List ℕ) → Group → List Filed → Type 0
HoldsAll filters places group entries =
    (rank port : ℕ) → option_and_then (port_in group) (filter_at filters places rank) ≡ Some port
    → Contains entries (record { port = port; rank = rank })

-- Of the first `count` filters in the order of asking, those that are filed in that group, in this order.
pub record IsFiledByRank (filters : List Filter) (places : List ℕ) (group : Group) (count : ℕ) (entries : List Filed) : Type 0 where
  pub below : All (λ e. e.rank < count) entries
  pub ranks_rise : IsSortedByKey (λ e. e.rank) nat_cmp entries
  pub holds : (rank port : ℕ) → rank < count → option_and_then (port_in group) (filter_at filters places rank) ≡ Some port
      → Contains entries (record { port = port; rank = rank })

-- there is a number, and it is at most this one
abbrev pub IsAtMost : Option ℕ → ℕ → Type 0
IsAtMost found rank = IsSomeAnd found (λ r. r ≤ rank)
