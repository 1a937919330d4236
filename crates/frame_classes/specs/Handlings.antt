-- What a class of an interface asks for the frames of its packets.
use Rattle.std.specs.Prelude.{ℕ, Bool, true, false, List, slice_get, unwrap_or}
use Rattle.conf_tree.specs.declared.class.Class.{Class}
use Rattle.conf_tree.specs.declared.class.DropRule.{DropRule}
use Rattle.conf_tree.specs.declared.class.DropRule.TheVariants.{Tail, Red, Ecn, Rio}
use Rattle.frame_classes.specs.declared.handling.Handling.{Handling}

-- its queue marks
abbrev pub is_ecn : DropRule → Bool
is_ecn Tail = false
is_ecn Red = false
is_ecn Ecn = true
is_ecn Rio = false

abbrev pub handling_of : Class → Handling
handling_of c = record { marks = is_ecn c.drop; clears = c.clear }

-- what the class of a number asks; nothing where there is none
abbrev pub handling_at : List Handling → (class : ℕ) → Handling
handling_at found class = unwrap_or (slice_get found class) (record { marks = false; clears = false })
