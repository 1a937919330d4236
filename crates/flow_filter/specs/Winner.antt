-- Which filter wins, after altq.conf(5): of the filters that match, the one with the greatest rule number, and of those with
-- that number the first.
use Rattle.std.specs.Prelude.{ℕ, ◌==◌, List, filter, find, fold, map, max, Option}
use Rattle.std.specs.Option.{option_map_or}
use Rattle.conf_tree.specs.declared.filter.Filter.{Filter}
use Rattle.packet_heads.specs.Flow.{Flow}
use Rattle.flow_filter.specs.Matches.{matches}
use Rattle.flow_filter.specs.Rules.{Rules}

-- those that match
abbrev pub matching : List Filter → Flow → List Filter
matching filters flow = filter (λ f. matches f flow) filters

-- the greatest rule number
abbrev pub greatest : List Filter → ℕ
greatest filters = fold max 0 (map (λ f. f.ruleno) filters)

-- the first that has it
abbrev pub winner : List Filter → Option Filter
winner filters = find (λ f. f.ruleno == greatest filters) filters

-- the class of the one that wins among those that match; the default class where none matches
abbrev pub class_of : Rules → Flow → ℕ
class_of rules flow = option_map_or (λ f. f.class) (winner (matching rules.filters flow)) rules.otherwise
