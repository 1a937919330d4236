-- Logical lines, after altq.conf(5): a statement stands on one line, which a backslash before the line end continues, and
-- '#' begins a comment that lasts to the end of its physical line.
use Rattle.std.specs.Prelude.{ℕ, zero, suc, ◌+◌, ◌-◌, ◌==◌, ◌&&◌, ◌||◌, Bool, List, [], ◌∷◌, slice_index, nat_lt, if◌then◌else◌}

-- The length of the continuation at the front of a text: a backslash and a line feed, or a backslash, a carriage return
-- and a line feed. It is 0 where no continuation stands there.
unfoldable pub continuation_len : List ℕ → ℕ
continuation_len text =
    if (slice_index text 0 == 92) && (slice_index text 1 == 10) then 2
    else if (slice_index text 0 == 92) && (slice_index text 1 == 13) && (slice_index text 2 == 10) then 3
    else 0

-- how many bytes a text has up to its first line feed and with it, or all where it has none
abbrev pub through_line_feed : List ℕ → ℕ
through_line_feed [] = 0
through_line_feed (byte ∷ text) = if byte == 10 then 1 else 1 + through_line_feed text

-- How many bytes the logical line at the front of a text has, with its line end, where `inside` bytes of a continuation
-- come first. A line feed ends it, also behind a comment, and so does the end of the text.
abbrev pub line_len_after : ℕ → List ℕ → ℕ
line_len_after inside [] = 0
line_len_after (suc inside) (byte ∷ text) = 1 + line_len_after inside text
line_len_after zero (byte ∷ text) =
    if byte == 10 then 1
    else if byte == 35 then 1 + through_line_feed text
    else 1 + line_len_after (continuation_len (byte ∷ text) - 1) text

abbrev pub line_len : List ℕ → ℕ
line_len text = line_len_after 0 text

-- whether a byte outside a continuation ends what a line says: a line feed ends the line, and '#' begins its comment
abbrev pub ends : ℕ → Bool
ends byte = (byte == 10) || (byte == 35)

-- The joined line of a logical line, where `inside` bytes of a continuation come first: its bytes up to its line end or
-- comment, each continuation as one blank.
abbrev pub joined_after : ℕ → List ℕ → List ℕ
joined_after inside [] = []
joined_after (suc inside) (byte ∷ line) = joined_after inside line
joined_after zero (byte ∷ line) =
    if ends byte then []
    else if nat_lt 0 (continuation_len (byte ∷ line)) then 32 ∷ joined_after (continuation_len (byte ∷ line) - 1) line
    else byte ∷ joined_after 0 line

abbrev pub joined : List ℕ → List ℕ
joined line = joined_after 0 line

-- the most bytes that a joined line may have
abbrev pub longest_line : ℕ
longest_line = 4096
