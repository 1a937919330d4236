-- The statements of a text: one for each logical line that has words or is too long, read from place to place up to its
-- first fault.
use Rattle.std.specs.Prelude.{◌≡◌, ℕ, zero, suc, ◌+◌, ◌==◌, List, [], ◌∷◌, ◌++◌, length, take, drop, count_by, nat_lt, if◌then◌else◌, Option, Some, None, Result, Ok, Err}
use Rattle.line_text.specs.Lines.{line_len, joined, longest_line}
use Rattle.line_text.specs.Words.{words_of}
use Rattle.conf_lines.specs.declared.fault.ConfKind.{ConfKind}
use Rattle.conf_lines.specs.declared.fault.ConfPlace.{ConfPlace}
use Rattle.conf_lines.specs.declared.grammar.Place as code_place
use Rattle.conf_lines.specs.declared.grammar.Refusal.{Refusal}
use Rattle.conf_lines.specs.declared.grammar.Refusal.TheVariants.{Kind, NoMemory}
use Rattle.conf_lines.specs.declared.item.Item.{Item}
use Rattle.conf_lines.specs.declared.item.What.{What}
use Rattle.conf_lines.specs.declared.statement.Form.{Form}
use Rattle.conf_lines.specs.declared.statement.Form.TheVariants.{Unread}
use Rattle.conf_lines.specs.declared.statement.Statement.{Statement}
use Rattle.conf_lines.specs.Grammar.{Place, step, end, start, seen}
use Rattle.conf_lines.specs.declared.fault.ConfKind.TheVariants.{TooLong}

-- what the words from a place on say: the form where the reading stops, the items up to there, and the first fault
pub record Reading : Type 0 where
  pub form : Form
  pub items : List Item
  pub fault : Option ConfPlace

-- the fault of a kind at a word of a line
abbrev pub fault_at : ℕ → ℕ → Option ConfKind → Option ConfPlace
fault_at line at None = None
fault_at line at (Some kind) = Some (record { line = line; word = at; kind = kind })

-- a reading that stops at a word
abbrev pub stops : Place → Option ConfPlace → Reading
stops place fault = record { form = place.form; items = []; fault = fault }

-- the item of a word, if it says more than which statement it is
abbrev pub item_of : ℕ → Option What → List Item
item_of at None = []
item_of at (Some what) = record { word = at; what = what } ∷ []

-- the same reading behind other items
abbrev pub behind : List Item → Reading → Reading
behind items reading = record { form = reading.form; items = items ++ reading.items; fault = reading.fault }

-- The words of a line from a place on, the first of them having this number. The first word that leads nowhere is the
-- fault; a line that may not end where it does has its fault behind its last word.
abbrev pub read_from : ℕ → List (List ℕ) → Place → ℕ → Reading
read_from line [] place at = stops place (fault_at line at (end place))
read_from line (word ∷ words) place at =
    elim (step place word) [
      | Ok taken ↦ behind (item_of at taken.what) (read_from line words taken.after (at + 1))
      | Err kind ↦ stops place (fault_at line at (Some kind))
    ]

-- A word is taken: the same reading goes on behind it, its item added, or stops there. Nothing is said where memory ran out.
abbrev pub Takes : ℕ → Place → List ℕ → List Item → List Item → Result code_place.Place Refusal → Type 0
Takes at place word old new (Ok after) =
    (line : ℕ) (words : List (List ℕ))
    → behind old (read_from line (word ∷ words) place at) ≡ behind new (read_from line words (seen after) (at + 1))
Takes at place word old new (Err (Kind kind)) =
    (line : ℕ) (words : List (List ℕ)) → behind old (read_from line (word ∷ words) place at) ≡ behind new (stops place (fault_at line at (Some kind)))
Takes at place word old new (Err NoMemory) = Unit {0}

-- a statement by its reading
abbrev pub as_statement : ℕ → ℕ → Reading → Statement
as_statement line end reading = record { line = line; form = reading.form; items = reading.items; end = end; fault = reading.fault }

-- the statement of a logical line with its number, if it is one
abbrev pub by_words : ℕ → List (List ℕ) → Option Statement
by_words line [] = None
by_words line (word ∷ words) = Some (as_statement line (length (word ∷ words) + 1) (read_from line (word ∷ words) start 1))

abbrev pub line_too_long : ℕ → List (List ℕ) → Statement
line_too_long line words =
    record { line = line; form = Unread; items = []; end = length words + 1; fault = fault_at line 0 (Some TooLong) }

abbrev pub statement_of : ℕ → List ℕ → Option Statement
statement_of line bytes =
    if nat_lt longest_line (length (joined bytes)) then Some (line_too_long line (words_of (joined bytes)))
    else by_words line (words_of (joined bytes))

-- the line feeds of a text
abbrev pub line_feeds : List ℕ → ℕ
line_feeds text = count_by (λ byte. byte == 10) text

-- the statement, if there is one, before those that follow
abbrev pub before : Option Statement → List Statement → List Statement
before None rest = rest
before (Some statement) rest = statement ∷ rest

-- The statements of a text whose first line has the number `line`, over at most a number of logical lines.
abbrev pub statements_in : ℕ → ℕ → List ℕ → List Statement
statements_in zero line text = []
statements_in (suc lines) line [] = []
statements_in (suc lines) line (byte ∷ text) =
    let bytes = take (line_len (byte ∷ text)) (byte ∷ text) in
    before (statement_of line bytes) (statements_in lines (line + line_feeds bytes) (drop (line_len (byte ∷ text)) (byte ∷ text)))

-- the statements of a whole text, which has no more logical lines than bytes
unfoldable pub statements_of : List ℕ → List Statement
statements_of text = statements_in (length text) 1 text
