-- How a line of the canonical text is written: words parted by one space, the word of an option by the table, numbers in decimal, and a
-- line feed behind the last.
use Rattle.std.specs.Prelude.{ℕ, ◌+◌, ◌*◌, false, List, [], ◌∷◌, ◌++◌, map, slice_index, codes, decimal}
use Rattle.std.specs.Fmt.{digits}
use Rattle.conf_lines.specs.declared.item.What.{What}
use Rattle.conf_lines.specs.declared.item.What.TheVariants as what
use Rattle.conf_lines.specs.declared.statement.Form.{Form}
use Rattle.conf_lines.specs.Options.{word_of_key}

-- a line: the words that say which statement it is, and what its other words say
pub record TextLine : Type 0 where
  pub first : List (List ℕ)
  pub form : Form
  pub whats : List What

-- an IPv4 address: four numbers
abbrev pub ip4_word : List ℕ → List ℕ
ip4_word a =
    decimal (slice_index a 0) ++ (codes "." ++ (decimal (slice_index a 1) ++ (codes "." ++ (decimal (slice_index a 2)
    ++ (codes "." ++ decimal (slice_index a 3))))))

-- an IPv6 address: eight groups in lower case, without leading zeros
abbrev pub group : List ℕ → ℕ → ℕ
group a i = slice_index a (2 * i) * 256 + slice_index a (2 * i + 1)

abbrev pub hex : ℕ → List ℕ
hex n = digits 16 false n

abbrev pub groups : List ℕ → ℕ → List ℕ
groups a i =
    hex (group a i) ++ (codes ":" ++ (hex (group a (i + 1)) ++ (codes ":" ++ (hex (group a (i + 2)) ++ (codes ":" ++ hex (group a (i + 3)))))))

abbrev pub ip6_word : List ℕ → List ℕ
ip6_word a = groups a 0 ++ (codes ":" ++ groups a 4)

-- the word that says this; a word without effect is not written
abbrev pub word_of : What → List ℕ
word_of (what.Name name) = name
word_of (what.Key key) = word_of_key key
word_of (what.Rate n) = decimal n
word_of (what.Whole n) = decimal n
word_of (what.Ip4 a) = ip4_word a
word_of (what.Ip6 a bits) = ip6_word a ++ (codes "/" ++ decimal bits)
word_of what.Any = codes "0"
word_of what.Skipped = []

abbrev pub line_words : TextLine → List (List ℕ)
line_words line = line.first ++ map word_of line.whats

-- a space before each word but the first, and a line feed behind the last
abbrev pub rest_of : List (List ℕ) → List ℕ
rest_of [] = 10 ∷ []
rest_of (word ∷ words) = 32 ∷ (word ++ rest_of words)

abbrev pub line_of : List (List ℕ) → List ℕ
line_of [] = 10 ∷ []
line_of (word ∷ words) = word ++ rest_of words

abbrev pub lines_text : List (List (List ℕ)) → List ℕ
lines_text [] = []
lines_text (words ∷ lines) = line_of words ++ lines_text lines

-- lines as a text
abbrev pub printed : List TextLine → List ℕ
printed lines = lines_text (map line_words lines)
