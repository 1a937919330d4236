-- The order in which the filters of an interface are asked, so that the first one that matches wins: the greatest rule number
-- first, and of those with one number the first in its place.
use Rattle.std.specs.Prelude.{◌≡◌, ℕ, ◌<◌, ◌≤◌, Bool, false, List, length, Contains, Option, slice_get, slice_index, option_and_then}
use Rattle.std.specs.Option.{option_map_or}
use Rattle.conf_tree.specs.declared.filter.Filter.{Filter}
use Rattle.packet_heads.specs.Flow.{Flow}
use Rattle.flow_filter.specs.Matches.{matches}

-- the rule number of the filter at a place; 0 past the end
abbrev pub ruleno_at : List Filter → (place : ℕ) → ℕ
ruleno_at filters place = option_map_or (λ f. f.ruleno) (slice_get filters place) 0

-- each place of the filters stands once, the rule numbers fall, and where they are the same the places rise
pub record IsRanked (filters : List Filter) (places : List ℕ) : Type 0 where
  pub same_length : length places ≡ length filters
  pub each : (place : ℕ) → place < length filters → Contains places place
  pub falls : (i j : ℕ) → i ≤ j → j < length places → ruleno_at filters (slice_index places j) ≤ ruleno_at filters (slice_index places i)
  pub ties : (i j : ℕ) → i ≤ j → j < length places → ruleno_at filters (slice_index places i) ≡ ruleno_at filters (slice_index places j)
      → slice_index places i ≤ slice_index places j

-- the filter that is asked at position `rank`, from 0
abbrev pub filter_at : List Filter → (places : List ℕ) → (rank : ℕ) → Option Filter
filter_at filters places rank = option_and_then (λ place. slice_get filters place) (slice_get places rank)

-- whether that filter matches a flow
abbrev pub matches_at : List Filter → (places : List ℕ) → Flow → (rank : ℕ) → Bool
matches_at filters places flow rank = option_map_or (λ f. matches f flow) (filter_at filters places rank) false
