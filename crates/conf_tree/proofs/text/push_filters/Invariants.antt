use Rattle.std.proofs.Common.{◌≡◌, ◌++◌, drop, string_bytes}
use Rattle.conf_tree.specs.Canonical.{filter_lines}
use Rattle.conf_tree.specs.Printed.{printed}
use Rattle.conf_tree.proofs.text.push_filters.Given as goal

abbrev pub invariant-loop-filter : goal.invariant-loop-filter
invariant-loop-filter l =
    string_bytes l.out ++ printed (filter_lines l.interface l.all (drop l.filter-index l.filters))
    ≡ string_bytes l.initial.out ++ printed (filter_lines l.interface l.all l.filters)
