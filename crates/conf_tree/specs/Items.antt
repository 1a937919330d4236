-- What the items of a statement say.
use Rattle.std.specs.Prelude.{ℕ, ◌&&◌, List, nat_le, if◌then◌else◌, Option, Some, None, slice_get}
use Rattle.conf_lines.specs.declared.item.Item.{Item}
use Rattle.conf_lines.specs.declared.options.Key.{Key}
use Rattle.conf_lines.specs.declared.item.What.{What}
use Rattle.conf_lines.specs.declared.item.What.TheVariants as what
use Rattle.conf_lines.specs.declared.options.Slots.{Slots}
use Rattle.conf_lines.specs.declared.options.Slots.TheVariants.{Rate, Whole}
use Rattle.conf_lines.specs.Options.{slots_of}

-- the NAME of a word
abbrev pub name_of : What → Option (List ℕ)
name_of (what.Name name) = Some name
name_of _ = None

abbrev pub name_in : Option Item → Option (List ℕ)
name_in None = None
name_in (Some item) = name_of item.what

-- the NAME that stands at a place, counted from 0
abbrev pub name_at : List Item → ℕ → Option (List ℕ)
name_at items i = name_in (slice_get items i)

-- the number of a word
abbrev pub number_of : What → Option ℕ
number_of (what.Rate n) = Some n
number_of (what.Whole n) = Some n
number_of _ = None

abbrev pub number_in : Option Item → Option ℕ
number_in None = None
number_in (Some item) = number_of item.what

-- a number, if it is one of a range
abbrev pub within : ℕ → ℕ → Option ℕ → Option ℕ
within low high None = None
within low high (Some n) = if nat_le low n && nat_le n high then Some n else None

-- the number of a range that stands at a place, counted from 0
abbrev pub number_at : ℕ → ℕ → List Item → ℕ → Option ℕ
number_at low high items i = within low high (number_in (slice_get items i))

-- the number behind an option, of the range that the table of options gives it
abbrev pub number_in_slots : Slots → List Item → Option ℕ
number_in_slots (Rate low high) items = number_at low high items 0
number_in_slots (Whole low high) items = number_at low high items 0
number_in_slots _ items = None

abbrev pub number_behind : Key → List Item → Option ℕ
number_behind key items = number_in_slots (slots_of key) items

-- the greatest number of such a range
abbrev pub most_of : Slots → ℕ
most_of (Rate low high) = high
most_of (Whole low high) = high
most_of _ = 0

-- the word of the item that stands at a place
abbrev pub word_in : Option Item → ℕ
word_in None = 0
word_in (Some item) = item.word

abbrev pub word_at : List Item → ℕ → ℕ
word_at items i = word_in (slice_get items i)
