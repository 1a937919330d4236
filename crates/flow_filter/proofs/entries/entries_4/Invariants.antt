use Rattle.std.proofs.Common.{◌≡◌, length}
use Rattle.flow_filter.specs.declared.ports.Version.TheVariants as version
use Rattle.flow_filter.specs.Entries.{StandFor, takes_4, takes_at}
use Rattle.flow_filter.proofs.entries.entries_4.Given as goal

-- those so far
abbrev pub invariant-loop-one : goal.invariant-loop-one
invariant-loop-one l =
    (length l.entries.items ≡ l.one-index) × StandFor version.V4 l.filters l.places l.filed (takes_at takes_4 l.entries.items) l.one-index
