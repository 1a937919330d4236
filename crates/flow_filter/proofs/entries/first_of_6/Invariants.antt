use Rattle.std.proofs.Common.{◌≤◌, Some}
use Rattle.flow_filter.specs.declared.numbers.Numbers.TheVariants as numbers
use Rattle.flow_filter.specs.Entries.{takes_6, takes_at}
use Rattle.flow_filter.proofs.EntrySearch.{NoneFits}
use Rattle.flow_filter.proofs.entries.first_of_6.Given as goal

-- none of those passed fits
abbrev pub invariant-loop-k : goal.invariant-loop-k
invariant-loop-k l = (l.start ≤ l.k) × NoneFits (takes_at takes_6 l.entries (Some (numbers.V6 l.flow))) l.start l.k
