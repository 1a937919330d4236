-- THE READING IS EXACTLY THE GRAMMAR.
use Rattle.std.specs.Prelude.{◌≡◌, ◌≤◌, ◌+◌, ℕ, List, length, map, None, Some}
use Rattle.line_text.specs.Lines.{joined, longest_line}
use Rattle.line_text.specs.Words.{words_of}
use Rattle.conf_lines.specs.Grammar.{start}
use Rattle.conf_lines.specs.Texts.{read_from, statement_of}
use Rattle.conf_lines.specs.declared.item.Item.{Item}
use Rattle.conf_lines.specs.declared.item.What.{What}
use Rattle.conf_lines.specs.declared.statement.Form.{Form}
use Rattle.conf_lines.specs.declared.statement.Form.TheVariants as form
use Rattle.conf_lines.specs.declared.statement.Statement.{Statement}
use Rattle.conf_laws.specs.Statements.{numbered}
use Rattle.conf_grammar.specs.Spells.{Spells}

-- the number of the first word that says more than which statement it is
abbrev pub first_item : Form → ℕ
first_item form.ClassHfsc = 3
first_item form.ClassCbq = 3
first_item _ = 2

-- words that spell a statement are read without a fault as this statement, with exactly these items
abbrev pub SpelledIsRead : Type 0
SpelledIsRead =
    (line : ℕ) (form : Form) (words : List (List ℕ)) (says : List What) → Spells form words says
    → read_from line words start 1 ≡ record { form = form; items = numbered (first_item form) says; fault = None }

-- what items say
abbrev pub whats : List Item → List What
whats items = map (λ item. item.what) items

-- words that are read without a fault spell the statement that they are read as, with what its items say
abbrev pub ReadIsSpelled : Type 0
ReadIsSpelled =
    (line : ℕ) (words : List (List ℕ)) → (read_from line words start 1).fault ≡ None
    → Spells (read_from line words start 1).form words (whats (read_from line words start 1).items)

-- the same of a logical line of at most 4,096 bytes: one that spells a statement is this statement, and a statement without a fault is
-- spelled by its line
abbrev pub SpelledLinesAreStatements : Type 0
SpelledLinesAreStatements =
    (line : ℕ) (form : Form) (bytes : List ℕ) (says : List What) → length (joined bytes) ≤ longest_line → Spells form (words_of (joined bytes)) says
    → statement_of line bytes ≡ Some (record {
      line = line;
      form = form;
      items = numbered (first_item form) says;
      end = length (words_of (joined bytes)) + 1;
      fault = None;
    })

abbrev pub StatementsAreSpelled : Type 0
StatementsAreSpelled =
    (line : ℕ) (bytes : List ℕ) (s : Statement) → statement_of line bytes ≡ Some s → s.fault ≡ None
    → Spells s.form (words_of (joined bytes)) (whats s.items)
