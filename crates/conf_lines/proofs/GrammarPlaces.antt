-- Places of the grammar, by names that other crates can write.
use Rattle.std.specs.Prelude.{Bool, true, false, List, []}
use Rattle.conf_lines.specs.declared.grammar.Next.{Next}
use Rattle.conf_lines.specs.declared.grammar.Next.TheVariants as next
use Rattle.conf_lines.specs.declared.part.Part.{Part}
use Rattle.conf_lines.specs.declared.statement.Form.{Form}
use Rattle.conf_lines.specs.declared.statement.Form.TheVariants as form
use Rattle.conf_lines.specs.Grammar.{Place, has_parts_alone}
use Rattle.conf_lines.specs.Parts.{parts_of}

-- a place by its next word and the parts that may still come
abbrev spot : Next → List Part → Form → Bool → Place
spot next parts form completed = record { form = form; next = next; parts = parts; stands = true; completed = completed }

-- where an option may stand
abbrev pub at_option : Form → Bool → Place
at_option form completed = spot next.Part [] form completed

-- hfsc or cbq behind class
abbrev pub at_discipline_word : Place
at_discipline_word = spot next.Discipline (parts_of form.Unread) form.Unread false

-- behind the words that say which statement it is
abbrev pub at_interface_name : Form → Place
at_interface_name form = spot next.Part (parts_of form) form (has_parts_alone form)
