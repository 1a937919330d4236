-- The words of a line: the longest runs of bytes between its blanks.
use Rattle.std.specs.Prelude.{ℕ, ◌≡◌, ◌+◌, ◌==◌, ◌||◌, Bool, false, not, List, [], ◌∷◌, map, slice_range, if◌then◌else◌}
use Rattle.line_text.specs.declared.line.Line.{Line}
use Rattle.line_text.specs.declared.word.Token.{Token}
use Rattle.line_text.specs.Lines.{joined}

-- space, tab, carriage return, '[' and ']'
abbrev pub is_blank : ℕ → Bool
is_blank byte = (byte == 32) || (byte == 9) || (byte == 13) || (byte == 91) || (byte == 93)

-- a text begins with a byte of a word
abbrev pub begins_word : List ℕ → Bool
begins_word [] = false
begins_word (byte ∷ text) = not (is_blank byte)

-- the same words, the first with one more byte at its front
abbrev pub with_first : ℕ → List (List ℕ) → List (List ℕ)
with_first byte [] = (byte ∷ []) ∷ []
with_first byte (word ∷ words) = (byte ∷ word) ∷ words

-- The words of a joined line. A byte that is no blank belongs to the word that goes on behind it, or is a word's last.
abbrev pub words_of : List ℕ → List (List ℕ)
words_of [] = []
words_of (byte ∷ text) =
    if is_blank byte then words_of text
    else if begins_word text then with_first byte (words_of text)
    else (byte ∷ []) ∷ words_of text

-- the bytes of a line, of the text that it stands in
abbrev pub bytes_of : List ℕ → Line → List ℕ
bytes_of text line = slice_range text line.from line.to

-- the words of a line of a text
abbrev pub words_in : List ℕ → Line → List (List ℕ)
words_in text line = words_of (joined (bytes_of text line))

-- the bytes of words that the code keeps
abbrev pub parts_of : List Token → List (List ℕ)
parts_of words = map (λ (w : Token). w.parts.now) words

-- each word has its number, from the given one on
abbrev pub AreCountedFrom : ℕ → List Token → Type 0
AreCountedFrom n [] = Unit {0}
AreCountedFrom n (word ∷ words) = (word.index ≡ n) × AreCountedFrom (n + 1) words

-- the bytes as a word, if there are any
abbrev pub word_list : List ℕ → List (List ℕ)
word_list [] = []
word_list (byte ∷ text) = (byte ∷ text) ∷ []
