-- A text of lines of words, as the canonical text is one, is read line by line and word by word.
use Rattle.std.proofs.Common.{◌≡◌, ◌^◌, true, map, None, ℕ, zero, suc, ◌+◌, ◌*◌, ◌<◌, ◌≤◌, ◌++◌, false, cond, List, [], ◌∷◌, length, take, drop, eqb, refl, ap, ap₂, ◌∙◌, arith, le-ltb}
use Rattle.std.proofs.Math.Seq.{take-append-add, drop-append-add}
use Rattle.std.proofs.lemmas.Bool.Decides.{nat_tests}
use Rattle.std.proofs.lemmas.List.{append_assoc, append-nil, length-append, length-map}
use Rattle.std.proofs.lemmas.List.Sums.{sum_by-cons}
use Rattle.std.specs.List.{AllByRecursion as Every}
use Rattle.line_text.proofs.Splitting.{ArePlain, words_of-blank, words_of-end}
use Rattle.line_text.specs.Lines.{continuation_len, joined, line_len}
use Rattle.line_text.specs.Names.{is_name}
use Rattle.line_text.specs.Words.{is_blank, words_of}
use Rattle.conf_lines.specs.Grammar.{start}
use Rattle.conf_lines.specs.Laws.{AreBytes}
use Rattle.conf_lines.specs.Options.{word_of_key}
use Rattle.conf_lines.specs.Texts.{as_statement, before, line_feeds, read_from, statement_of, statements_in, statements_of}
use Rattle.conf_lines.specs.declared.item.What.{What}
use Rattle.conf_lines.specs.declared.item.What.TheVariants as what
use Rattle.conf_lines.specs.declared.options.Key.{Key}
use Rattle.conf_lines.specs.declared.options.Key.TheVariants as key
use Rattle.conf_tree.specs.Printed.{TextLine, line_words, word_of, rest_of, line_of, printed}
use Rattle.conf_laws.specs.Fit.{IsName}
use Rattle.conf_laws.specs.Statements.{numbered, statements_from}
use Rattle.conf_laws.proofs.Bytes.{OfName, IsWord, every-append, every-weaker, behind, name_is_word, longer}
use Rattle.conf_laws.proofs.Printed.{ip4_is_word, prefix_is_word, decimal_word}

-- WORDS
-- what a word of the canonical text may say
abbrev pub MaySay : What → Type 0
MaySay (what.Name name) = IsName name
MaySay (what.Key key) = Unit {0}
MaySay (what.Rate n) = n < 2 ^ 64
MaySay (what.Whole n) = n < 2 ^ 64
MaySay (what.Ip4 a) = AreBytes 4 a
MaySay (what.Ip6 a bits) = AreBytes 16 a × (bits ≤ 128)
MaySay _ = ⊥

key_is_name : (k : Key) → is_name (word_of_key k) ≡ true
key_is_name key.Bandwidth = refl
key_is_name _ = refl

is_word : (says : What) → MaySay says → IsWord 64 (word_of says)
is_word (what.Name name) may = name_is_word name may
is_word (what.Key k) may = name_is_word (word_of_key k) (key_is_name k)
is_word (what.Rate n) may = decimal_word 64 n (omega arith) (omega arith) may
is_word (what.Whole n) may = decimal_word 64 n (omega arith) (omega arith) may
is_word (what.Ip4 a) may = longer 64 (ip4_is_word a may) (omega arith)
is_word (what.Ip6 a bits) may = longer 64 (prefix_is_word a bits may.0 may.1) (omega arith)
is_word _ may = absurd may

are_words : (whats : List What) → Every MaySay whats → Every (IsWord 64) (map word_of whats)
are_words [] may = tt
are_words (says ∷ whats) may = (is_word says may.0, are_words whats may.1)

-- a line is read as what it says, wherever it stands
abbrev pub IsRead : TextLine → Type 0
IsRead l = (line : ℕ) → read_from line (line_words l) start 1 ≡ record { form = l.form; items = numbered (length l.first + 1) l.whats; fault = None }

-- a line of few enough words, which is read so
pub record IsLegible (l : TextLine) : Type 0 where
  pub words : Every IsName l.first × Every MaySay l.whats
  pub count : (1 ≤ length l.first) × (length l.first + length l.whats ≤ 63)
  pub read : IsRead l

count_words : (l : TextLine) → length (line_words l) ≡ length l.first + length l.whats
count_words l = omega (arith, length-append l.first (map word_of l.whats), length-map l.whats word_of)

all_words : (l : TextLine) → IsLegible l → Every (IsWord 64) (line_words l)
all_words l is =
    every-append (IsWord 64) l.first (map word_of l.whats) (every-weaker IsName (IsWord 64) name_is_word l.first is.words.0)
    (are_words l.whats is.words.1)

-- THE BYTES OF A LINE
rest_of-behind : (words : List (List ℕ)) (text : List ℕ) → rest_of words ++ text ≡ behind 32 words ++ 10 ∷ text
rest_of-behind [] text = refl
rest_of-behind (word ∷ words) text = simp append_assoc (ap (λ bytes. 32 ∷ (word ++ bytes)) (rest_of-behind words text))

line_of-behind : (word : List ℕ) (words : List (List ℕ)) (text : List ℕ) → line_of (word ∷ words) ++ text ≡ (word ++ behind 32 words) ++ 10 ∷ text
line_of-behind word words text = ap (drop 1) (rest_of-behind (word ∷ words) text)

line_longer : (words : List (List ℕ)) (text : List ℕ) → length text < length (line_of words ++ text)
line_longer [] text = omega arith
line_longer (word ∷ words) text = omega (arith, ap length (line_of-behind word words text), length-append (word ++ behind 32 words) (10 ∷ text))

behind-len : (words : List (List ℕ)) → Every (IsWord 64) words → length (behind 32 words) ≤ 65 * length words
behind-len [] are = omega arith
behind-len (word ∷ words) are = omega (arith, are.0.most, behind-len words are.1, length-append word (behind 32 words))

-- bytes that neither end a line nor continue it
record StaysOn (byte : ℕ) : Type 0 where
  feed : eqb byte 10 ≡ false
  hash : eqb byte 35 ≡ false
  slash : eqb byte 92 ≡ false

of_name-stays : (byte : ℕ) → OfName byte → StaysOn byte
of_name-stays byte h = grind (arith, nat_tests)

behind-stays : (words : List (List ℕ)) → Every (IsWord 64) words → Every StaysOn (behind 32 words)
behind-stays [] are = tt
behind-stays (word ∷ words) are = (
  record { feed = refl; hash = refl; slash = refl },
  every-append StaysOn word (behind 32 words) (every-weaker OfName StaysOn of_name-stays word are.0.bytes) (behind-stays words are.1),
)

-- its length, its joined bytes and its line feeds
bytes_read : (text rest : List ℕ) → Every StaysOn text
    → (line_len (text ++ 10 ∷ rest) ≡ length text + 1) × (joined (text ++ 10 ∷ []) ≡ text) × (line_feeds (text ++ 10 ∷ []) ≡ 1)
unfolding continuation_len
bytes_read [] rest on = (omega arith, refl, refl)
bytes_read (byte ∷ text) rest on =
    let (len, bytes, feeds) = bytes_read text rest on.1 in
    rw (sum_by-cons (λ b. cond (eqb b 10) 1 0) byte (text ++ 10 ∷ []), on.0.feed, on.0.hash, on.0.slash)
    (ap (λ n. 1 + n) len ∙ omega arith, ap (λ bytes. byte ∷ bytes) bytes, ap (λ n. 0 + n) feeds)

-- THE WORDS OF A LINE
of_name-plain : (byte : ℕ) → OfName byte → is_blank byte ≡ false
of_name-plain byte h = grind (arith, nat_tests)

word-plain : (word : List ℕ) → Every OfName word → ArePlain word
word-plain [] h = tt
word-plain (byte ∷ word) h = (of_name-plain byte h.0, word-plain word h.1)

words_read : (word : List ℕ) (words : List (List ℕ)) → Every (IsWord 64) (word ∷ words) → words_of (word ++ behind 32 words) ≡ word ∷ words
words_read [] words are = absurd (omega (arith, are.0.some))
words_read (byte ∷ word) [] are = ap words_of (append-nil (byte ∷ word)) ∙ words_of-end (byte ∷ word) (word-plain (byte ∷ word) are.0.bytes)
words_read (byte ∷ word) (next ∷ words) are =
    words_of-blank (byte ∷ word) 32 (next ++ behind 32 words) (word-plain (byte ∷ word) are.0.bytes) refl
    ∙ ap (λ found. (byte ∷ word) ∷ found) (words_read next words are.1)

-- THE STATEMENTS OF A TEXT
one_turn : (turn line : ℕ) (text : List ℕ) → 0 < length text
    → statements_in (suc turn) line text
    ≡ before (statement_of line (take (line_len text) text)) (statements_in turn (line + line_feeds (take (line_len text) text)) (drop (line_len text) text))
one_turn turn line [] some = absurd (omega arith)
one_turn turn line (byte ∷ text) some = refl

line_turn : (turn line : ℕ) (words : List (List ℕ)) (text : List ℕ) → (1 ≤ length words) × (length words ≤ 63) → Every (IsWord 64) words
    → statements_in (suc turn) line (line_of words ++ text)
    ≡ as_statement line (length words + 1) (read_from line words start 1) ∷ statements_in turn (line + 1) text
line_turn turn line [] text count are = absurd (omega arith)
line_turn turn line (word ∷ words) text count are =
    let body = word ++ behind 32 words in
    let (len, bytes, feeds) = bytes_read body text (behind-stays (word ∷ words) are).1 in
    let fits : length body ≤ 4096 = omega (arith, behind-len (word ∷ words) are) in
    rw (line_of-behind word words text)
    (one_turn turn line (body ++ 10 ∷ text) (omega (arith, length-append body (10 ∷ text)))
    ∙ rw (len, take-append-add, drop-append-add, feeds, bytes, le-ltb 4096 (length body) fits, words_read word words are) refl)

-- as many turns as bytes are enough
lines_in : (turns line : ℕ) (lines : List TextLine) → Every IsLegible lines → length (printed lines) ≤ turns
    → statements_in turns line (printed lines) ≡ statements_from line lines
lines_in zero line [] legible enough = refl
lines_in (suc turns) line [] legible enough = refl
lines_in zero line (l ∷ lines) legible enough = absurd (omega (arith, enough, line_longer (line_words l) (printed lines)))
lines_in (suc turns) line (l ∷ lines) legible enough =
    line_turn turns line (line_words l) (printed lines) (omega (arith, legible.0.count, count_words l)) (all_words l legible.0)
    ∙ ap₂ (λ s found. s ∷ found) (ap₂ (as_statement line) (omega (arith, count_words l)) (legible.0.read line))
    (lines_in turns (line + 1) lines legible.1 (omega (arith, enough, line_longer (line_words l) (printed lines))))

pub has_statements : (lines : List TextLine) → Every IsLegible lines → statements_of (printed lines) ≡ statements_from 1 lines
unfolding statements_of
has_statements lines legible = lines_in (length (printed lines)) 1 lines legible (omega arith)
