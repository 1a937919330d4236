-- filter INTERFACE CLASS .., and filter6: words 2 and 3, and the parts behind them.
use Rattle.std.specs.Prelude.{ℕ, ◌&&◌, List, length, drop, nat_le, Result, Ok, slice_get, slice_set}
use Rattle.conf_lines.specs.declared.fault.ConfPlace.{ConfPlace}
use Rattle.conf_lines.specs.declared.fault.ConfKind.TheVariants.{NoInterface, TooManyFilters, InnerQueue, NoClass}
use Rattle.conf_lines.specs.declared.statement.Statement.{Statement}
use Rattle.conf_tree.specs.declared.branch.Branch.{Branch}
use Rattle.conf_tree.specs.declared.filter.Filter.{Filter}
use Rattle.conf_tree.specs.declared.interface.Kind.{Kind}
use Rattle.conf_tree.specs.Classes.{is_hfsc}
use Rattle.conf_tree.specs.Filters.{filter_of}
use Rattle.conf_tree.specs.Items.{name_at}
use Rattle.conf_tree.specs.Places.{at_word, own_fault}
use Rattle.conf_tree.specs.Tests.{◌>>=◌, some, refuse, own}
use Rattle.conf_tree.specs.Tree.{Begun, interface_number, class_number, add_filter}

-- in HFSC a class with children holds no packets, so no filter names it
abbrev pub filter_to : Kind → Statement → ℕ → Branch → Result Filter ConfPlace
filter_to kind s i c = do
  outer ← refuse (is_hfsc kind && c.inner) (at_word s 3 InnerQueue)
  whole ← own s.fault
  Ok (filter_of s.form i (drop 2 s.items))

abbrev pub filter_named : Begun → Statement → Result Filter ConfPlace
filter_named b s = do
  name ← some (name_at s.items 1) (own_fault s)
  i ← some (class_number name b.classes) (at_word s 3 NoClass)
  c ← some (slice_get b.classes i) (at_word s 3 NoClass)
  filter_to b.kind s i c

abbrev pub filter_read : Begun → Statement → Result Filter ConfPlace
filter_read b s = do
  few ← refuse (nat_le 1024 (length b.filters)) (at_word s 2 TooManyFilters)
  filter_named b s

abbrev pub read_filter : List Begun → Statement → Result (List Begun) ConfPlace
read_filter before s = do
  name ← some (name_at s.items 0) (own_fault s)
  i ← some (interface_number name before) (at_word s 2 NoInterface)
  b ← some (slice_get before i) (at_word s 2 NoInterface)
  f ← filter_read b s
  Ok (slice_set before i (add_filter b f))
