-- class hfsc INTERFACE NAME PARENT (..)*, and class cbq: words 3, 4 and 5, and the options.
use Rattle.std.specs.Option.{option_or}
use Rattle.std.specs.Prelude.{ℕ, ◌+◌, ◌&&◌, ◌||◌, Bool, true, false, not, List, length, drop, nat_lt, nat_le, if◌then◌else◌, Option, Some, None, Result, Ok, is_some, is_none, slice_get, slice_set, codes, bytes_eq}
use Rattle.conf_lines.specs.declared.fault.ConfPlace.{ConfPlace}
use Rattle.conf_lines.specs.declared.statement.Statement.{Statement}
use Rattle.conf_tree.specs.declared.branch.Branch.{Branch}
use Rattle.conf_tree.specs.declared.interface.Kind.{Kind}
use Rattle.conf_tree.specs.declared.interface.Kind.TheVariants.{Hfsc, Cbq}
use Rattle.conf_tree.specs.declared.settings.ReadContext.{ReadContext}
use Rattle.conf_tree.specs.declared.settings.Settings.{Settings}
use Rattle.conf_tree.specs.declared.settings.ClassDraft.{ClassDraft}
use Rattle.conf_tree.specs.declared.settings.TreePosition.{TreePosition}
use Rattle.conf_tree.specs.Items.{name_at}
use Rattle.conf_tree.specs.Places.{at_word, own_fault}
use Rattle.conf_lines.specs.declared.fault.ConfKind.TheVariants.{MissingWord, NoInterface, WrongDiscipline, NameTaken, NoParent, TwoRoots, TooDeep, TooManyClasses, NoShare, RealTimeInside, InnerQueue}
use Rattle.conf_tree.specs.Options.{set_options}
use Rattle.conf_tree.specs.Settings.{unset, rate_of_kind, of_kind, class_of}
use Rattle.conf_tree.specs.Tests.{◌>>=◌, some, refuse, own}
use Rattle.conf_tree.specs.Tree.{Begun, interface_number, class_number, add_class}

abbrev pub is_hfsc : Kind → Bool
is_hfsc Hfsc = true
is_hfsc Cbq = false

abbrev pub same_kind : Kind → Kind → Bool
same_kind Hfsc Hfsc = true
same_kind Cbq Cbq = true
same_kind _ _ = false

-- in HFSC the default class, and one that a filter or a conditioner names, holds packets, so it is no parent
abbrev pub is_queue : Kind → Branch → Bool
is_queue kind c = is_hfsc kind && (c.class.is_default || c.filtered || is_some c.class.meter)

-- below the class of a number: on its level and 1, which is at most 8
abbrev pub below : Kind → Statement → ℕ → Branch → Result TreePosition ConfPlace
below kind s i c = do
  high ← refuse (nat_le 8 c.level) (at_word s 5 TooDeep)
  free ← refuse c.fixed (at_word s 5 RealTimeInside)
  outer ← refuse (is_queue kind c) (at_word s 5 InnerQueue)
  Ok (record { parent = Some i; level = c.level + 1 })

abbrev pub root_spot : Begun → Statement → Result TreePosition ConfPlace
root_spot b s = do
  first ← refuse b.rooted (at_word s 5 TwoRoots)
  Ok (record { parent = None; level = 1 })

abbrev pub inner_spot : Begun → Statement → List ℕ → Result TreePosition ConfPlace
inner_spot b s parent = do
  i ← some (class_number parent b.classes) (at_word s 5 NoParent)
  c ← some (slice_get b.classes i) (at_word s 5 NoParent)
  below b.kind s i c

-- the parent: NULL for the root, of which there is one
abbrev pub spot_of : Begun → Statement → List ℕ → Result TreePosition ConfPlace
spot_of b s parent = if bytes_eq parent (codes "NULL") then root_spot b s else inner_spot b s parent

-- At its end an HFSC class but the root has a link-sharing curve. A CBQ class has a rate: the root that of the bandwidth, if it is not
-- given.
abbrev pub rate_given : ℕ → TreePosition → Settings → Option ℕ
rate_given rate spot settings = option_or settings.rate (if is_some spot.parent then None else Some rate)

abbrev pub rate_at_end : Kind → Begun → Statement → TreePosition → Settings → Result ℕ ConfPlace
rate_at_end Hfsc b s spot settings = do
  shared ← refuse (is_some spot.parent && is_none settings.share) (at_word s s.end NoShare)
  Ok 0
rate_at_end Cbq b s spot settings = some (rate_given b.rate spot settings) (at_word s s.end MissingWord)

abbrev pub scope_of : Begun → Statement → ReadContext
scope_of b s = record { line = s.line; rate = b.rate; chosen = b.chosen }

-- a class at its end, below this parent, and of this name; but for the name
abbrev pub shape_at_end : Begun → Statement → TreePosition → Settings → Result ClassDraft ConfPlace
shape_at_end b s spot settings = do
  whole ← own s.fault
  rate ← rate_at_end b.kind b s spot settings
  Ok (record { spot = spot; settings = settings; rate = rate })

abbrev pub shape_below : Begun → Statement → List ℕ → Result ClassDraft ConfPlace
shape_below b s parent = do
  spot ← spot_of b s parent
  settings ← set_options (scope_of b s) unset (drop 3 s.items)
  shape_at_end b s spot settings

abbrev pub shape_of : Begun → Statement → List ℕ → Result ClassDraft ConfPlace
shape_of b s name = do
  new ← refuse (is_some (class_number name b.classes)) (at_word s 4 NameTaken)
  parent ← some (name_at s.items 2) (own_fault s)
  shape_below b s parent

-- the class of a name and a shape, before others name it
abbrev pub branch_of : Kind → List ℕ → ClassDraft → Branch
branch_of kind name shape = record {
  class = class_of name shape.spot.parent (rate_of_kind kind shape.rate) (of_kind kind shape.settings);
  level = shape.spot.level;
  fixed = (of_kind kind shape.settings).fixed;
  inner = false;
  filtered = false;
}

abbrev pub is_full : Begun → Bool
is_full b = nat_le 256 (length b.classes)

-- the 257th class is refused at its name, whether or not the word there is a NAME
abbrev pub unnamed_class : Begun → Statement → ConfPlace
unnamed_class b s = if is_full b && nat_lt 4 s.end then at_word s 4 TooManyClasses else own_fault s

abbrev pub class_named : Begun → Statement → Result Branch ConfPlace
class_named b s = do
  name ← some (name_at s.items 1) (unnamed_class b s)
  few ← refuse (is_full b) (at_word s 4 TooManyClasses)
  shape ← shape_of b s name
  Ok (branch_of b.kind name shape)

-- the class of a statement of a kind
abbrev pub read_branch : Begun → Kind → Statement → Result Branch ConfPlace
read_branch b kind s = do
  same ← refuse (not (same_kind kind b.kind)) (at_word s 3 WrongDiscipline)
  class_named b s

abbrev pub read_class : List Begun → Kind → Statement → Result (List Begun) ConfPlace
read_class before kind s = do
  name ← some (name_at s.items 0) (own_fault s)
  i ← some (interface_number name before) (at_word s 3 NoInterface)
  b ← some (slice_get before i) (at_word s 3 NoInterface)
  c ← read_branch b kind s
  Ok (slice_set before i (add_class b c))
