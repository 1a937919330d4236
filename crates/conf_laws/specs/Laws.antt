-- What holds of every configuration, and of its canonical text.
use Rattle.std.specs.Prelude.{◌≡◌, ◌≢◌, ◌⊎◌, ◌+◌, ◌≤◌, ◌<◌, ◌==◌, ◌&&◌, ◌||◌, Bool, true, false, not, List, [], ◌∷◌, ◌++◌, ℕ, length, Contains, Ok, Err, None, Some, slice_get}
use Rattle.line_text.specs.Lines.{ends}
use Rattle.line_text.specs.Words.{is_blank}
use Rattle.conf_lines.specs.declared.fault.ConfKind.TheVariants.{TooLong}
use Rattle.conf_lines.specs.declared.fault.ConfPlace.{ConfPlace}
use Rattle.conf_lines.specs.declared.statement.Statement.{Statement}
use Rattle.conf_lines.specs.Grammar.{start}
use Rattle.conf_lines.specs.Texts.{read_from, as_statement, statements_of}
use Rattle.conf_tree.specs.declared.class.Class.{Class}
use Rattle.conf_tree.specs.declared.filter.Filter.{Filter}
use Rattle.conf_tree.specs.declared.interface.Interface.{Interface}
use Rattle.conf_tree.specs.Canonical.{canonical_text}
use Rattle.conf_tree.specs.Family.{default_class, is_queue_class}
use Rattle.conf_tree.specs.Reading.{reading, IsConfiguration, HasFirstFault}
use Rattle.conf_laws.specs.Fit.{AreFit}
use Rattle.conf_laws.specs.Statements.{canonical_statements}

-- the interfaces of a text keep to the ranges, the limits and the tree
abbrev pub ConfigurationsFit : Type 0
ConfigurationsFit = (text : List ℕ) (interfaces : List Interface) → IsConfiguration text interfaces → AreFit interfaces

-- packets go to classes that hold packets, and are metered there: the default class is one, and so is the class of each filter,
-- each class with control and each class with a conditioner
pub record HasQueues (i : Interface) : Type 0 where
  pub default : is_queue_class i.kind i.classes (default_class i.classes) ≡ true
  pub filter : (k : ℕ) (f : Filter) → slice_get i.filters k ≡ Some f → is_queue_class i.kind i.classes f.class ≡ true
  pub control : (k : ℕ) (c : Class) → slice_get i.classes k ≡ Some c → c.control ≡ true → is_queue_class i.kind i.classes k ≡ true
  pub meter : (k : ℕ) (c : Class) → slice_get i.classes k ≡ Some c → c.meter ≢ None → is_queue_class i.kind i.classes k ≡ true

abbrev pub InterfacesHaveQueues : Type 0
InterfacesHaveQueues =
    (text : List ℕ) (interfaces : List Interface) → IsConfiguration text interfaces
    → (k : ℕ) (i : Interface) → slice_get interfaces k ≡ Some i → HasQueues i

-- the canonical text has one statement on each line, which says what the configuration says
abbrev pub TextHasItsStatements : Type 0
TextHasItsStatements = (interfaces : List Interface) → AreFit interfaces
    → statements_of (canonical_text interfaces) ≡ canonical_statements 1 interfaces

-- these statements are read as the configuration
abbrev pub StatementsAreRead : Type 0
StatementsAreRead = (interfaces : List Interface) → AreFit interfaces → reading (canonical_statements 1 interfaces) ≡ Ok interfaces

-- THE ROUND TRIP: the canonical text of a configuration is read as that configuration
abbrev pub TextsReadBack : Type 0
TextsReadBack = (text : List ℕ) (interfaces : List Interface) → IsConfiguration text interfaces
    → IsConfiguration (canonical_text interfaces) interfaces

-- the statement of the words of a line
abbrev pub line_of_words : ℕ → List (List ℕ) → Statement
line_of_words line words = as_statement line (length words + 1) (read_from line words start 1)

-- THE FAULT STANDS AT ITS WORD: behind the same statements, two lines that agree up to and with the word of a fault have the same
-- fault, whatever follows on the line or behind it. So nothing that follows the word mends it.
abbrev pub FaultsStandAtWords : Type 0
FaultsStandAtWords =
    (statements rest : List Statement) (line : ℕ) (words more other : List (List ℕ)) (fault : ConfPlace) → 1 ≤ fault.word → fault.word ≤ length words
    → reading (statements ++ line_of_words line (words ++ more) ∷ []) ≡ Err fault
    → reading (statements ++ line_of_words line (words ++ other) ∷ rest) ≡ Err fault

-- A text ends behind a word: with a blank, a line feed or the '#' of a comment. A carriage return behind a backslash is not enough,
-- since with a line feed it is a continuation.
abbrev pub ends_word : List ℕ → Bool
ends_word [] = false
ends_word (byte ∷ []) = is_blank byte || ends byte
ends_word (byte ∷ next ∷ []) = (is_blank next || ends next) && not ((byte == 92) && (next == 13))
ends_word (byte ∷ next ∷ third ∷ text) = ends_word (next ∷ third ∷ text)

-- the word of a fault stands in a text
pub record StandsIn (text : List ℕ) (fault : ConfPlace) : Type 0 where
  pub statement : Statement
  pub is : Contains (statements_of text) statement
  pub line : fault.line ≡ statement.line
  pub some : 1 ≤ fault.word
  pub word : fault.word < statement.end

-- THE SAME OF BYTES: two texts that agree up to and with the word of a fault, and the byte that ends it, have the same fault, or the
-- line is too long in the other. So no continuation of a text mends a fault.
abbrev pub FaultsStandInTexts : Type 0
FaultsStandInTexts =
    (text more other : List ℕ) (fault : ConfPlace) → ends_word text ≡ true → StandsIn text fault → HasFirstFault (text ++ more) fault
    → HasFirstFault (text ++ other) fault ⊎ HasFirstFault (text ++ other) (record { line = fault.line; word = 0; kind = TooLong })
