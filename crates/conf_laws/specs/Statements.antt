-- The statements that the lines of the canonical text are read as: one for each line, without a fault.
use Rattle.std.specs.Prelude.{ℕ, ◌+◌, List, [], ◌∷◌, length, None}
use Rattle.conf_lines.specs.declared.item.Item.{Item}
use Rattle.conf_lines.specs.declared.item.What.{What}
use Rattle.conf_lines.specs.declared.statement.Statement.{Statement}
use Rattle.traffic_meter.specs.declared.rule.MeterRule.{MeterRule}
use Rattle.conf_tree.specs.declared.class.Class.{Class}
use Rattle.conf_tree.specs.declared.filter.Filter.{Filter}
use Rattle.conf_tree.specs.declared.interface.Interface.{Interface}
use Rattle.conf_tree.specs.declared.interface.Kind.{Kind}
use Rattle.conf_tree.specs.Canonical.{interface_line, class_line, filter_line, conditioner_line, canonical_lines}
use Rattle.conf_tree.specs.Printed.{TextLine}

-- words that say this, numbered from one on
abbrev pub numbered : ℕ → List What → List Item
numbered at [] = []
numbered at (says ∷ whats) = record { word = at; what = says } ∷ numbered (at + 1) whats

-- the statement of a line with its number: its items stand behind its first words
abbrev pub statement_of_line : ℕ → TextLine → Statement
statement_of_line line l = record {
  line = line;
  form = l.form;
  items = numbered (length l.first + 1) l.whats;
  end = length l.first + 1 + length l.whats;
  fault = None;
}

-- the statements of lines, the first of them having this number
abbrev pub statements_from : ℕ → List TextLine → List Statement
statements_from line [] = []
statements_from line (l ∷ lines) = statement_of_line line l ∷ statements_from (line + 1) lines

abbrev pub interface_statement : ℕ → Interface → Statement
interface_statement line i = statement_of_line line (interface_line i)

abbrev pub class_statement : ℕ → Kind → List ℕ → List Class → Class → Statement
class_statement line kind interface all c = statement_of_line line (class_line kind interface all c)

abbrev pub filter_statement : ℕ → List ℕ → List Class → Filter → Statement
filter_statement line interface all f = statement_of_line line (filter_line interface all f)

abbrev pub conditioner_statement : ℕ → List ℕ → List ℕ → MeterRule → Statement
conditioner_statement line interface class rule = statement_of_line line (conditioner_line interface class rule)

abbrev pub canonical_statements : ℕ → List Interface → List Statement
canonical_statements line interfaces = statements_from line (canonical_lines interfaces)
