use Rattle.std.proofs.Common.{◌≡◌, ℕ, List, ◌++◌, drop}
use Rattle.std.specs.Prelude.{filter}
use Rattle.std.specs.List.{flat_map, enumerate_from}
use Rattle.conf_tree.specs.declared.class.Class.{Class}
use Rattle.conf_tree.specs.declared.filter.Filter.{Filter}
use Rattle.flow_filter.specs.Rules.{control_filters, filters_of_control}
use Rattle.flow_filter.proofs.control.push_control.Given as goal

-- the filters of the classes to come, the first of which has that number
abbrev pub control_from : ℕ → List Class → List Filter
control_from number classes =
    flat_map (λ numbered. filters_of_control numbered.0) (filter (λ numbered. numbered.1.control) (enumerate_from number classes))

-- with those they are all
abbrev pub invariant-loop-number : goal.invariant-loop-number
invariant-loop-number l =
    l.filters.items ++ control_from l.number (drop l.number l.classes) ≡ l.initial.filters.items ++ control_filters l.classes
