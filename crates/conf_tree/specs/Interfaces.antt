-- interface NAME (bandwidth RATE | tbrsize WORD | hfsc | cbq | efficient | cbq-wrr)*
use Rattle.std.specs.Prelude.{ℕ, ◌&&◌, Bool, List, [], ◌∷◌, ◌++◌, length, drop, nat_lt, nat_le, if◌then◌else◌, None, Result, Ok, is_some}
use Rattle.conf_lines.specs.declared.fault.ConfPlace.{ConfPlace}
use Rattle.conf_lines.specs.declared.fault.ConfKind.TheVariants.{MissingWord, InterfaceTwice, TooManyInterfaces}
use Rattle.conf_lines.specs.declared.statement.Statement.{Statement}
use Rattle.conf_tree.specs.declared.interface.Kind.{Kind}
use Rattle.conf_tree.specs.Items.{name_at}
use Rattle.conf_tree.specs.Places.{at_word, own_fault}
use Rattle.conf_tree.specs.Options.{rate_by_options, kind_by_options}
use Rattle.conf_tree.specs.Tests.{◌>>=◌, some, refuse, own}
use Rattle.conf_tree.specs.Tree.{Begun, begun, interface_number}

-- the bandwidth: 100,000,000 if it is not given
abbrev pub interface_rate : Statement → ℕ
interface_rate s = rate_by_options 100000000 (drop 1 s.items)

abbrev pub are_full : List Begun → Bool
are_full before = nat_le 16 (length before)

-- the 17th interface is refused at its name, whether or not the word there is a NAME
abbrev pub unnamed_interface : List Begun → Statement → ConfPlace
unnamed_interface before s = if are_full before && nat_lt 2 s.end then at_word s 2 TooManyInterfaces else own_fault s

-- the kind of an interface at its end, and of one of this name
abbrev pub kind_at_end : Statement → Result Kind ConfPlace
kind_at_end s = do
  whole ← own s.fault
  some (kind_by_options None (drop 1 s.items)) (at_word s s.end MissingWord)

abbrev pub interface_kind : List Begun → Statement → List ℕ → Result Kind ConfPlace
interface_kind before s name = do
  new ← refuse (is_some (interface_number name before)) (at_word s 2 InterfaceTwice)
  kind_at_end s

abbrev pub read_interface : List Begun → Statement → Result (List Begun) ConfPlace
read_interface before s = do
  name ← some (name_at s.items 0) (unnamed_interface before s)
  few ← refuse (are_full before) (at_word s 2 TooManyInterfaces)
  kind ← interface_kind before s name
  Ok (before ++ begun s.line name (interface_rate s) kind ∷ [])
