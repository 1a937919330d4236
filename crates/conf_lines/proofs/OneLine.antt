-- One logical line of a text on.
use Rattle.std.proofs.Common.{◌≡◌, ℕ, zero, suc, ◌+◌, ◌-◌, ◌<◌, ◌≤◌, ◌++◌, ◌==◌, Bool, true, false, cond, List, [], ◌∷◌, Option, Some, None, length, take, drop, refl, ap, ◌∙◌, arith}
use Rattle.std.proofs.lemmas.List.{append_assoc, append-nil, length-drop, drop-drop}
use Rattle.line_text.specs.Lines.{line_len, line_len_after, through_line_feed, continuation_len}
use Rattle.conf_lines.specs.declared.statement.Statement.{Statement}
use Rattle.conf_lines.specs.Texts.{statement_of, statements_in, line_feeds, before}

some_by : (feed hash : Bool) (m n : ℕ) → 0 < cond feed 1 (cond hash (1 + m) (1 + n))
some_by true hash m n = omega arith
some_by false true m n = omega arith
some_by false false m n = omega arith

pub line_len-some : (byte : ℕ) (text : List ℕ) → 0 < line_len (byte ∷ text)
line_len-some byte text = some_by (byte == 10) (byte == 35) (through_line_feed text) (line_len_after (continuation_len (byte ∷ text) - 1) text)

-- as many turns as bytes are enough
turns : (m n line : ℕ) (text : List ℕ) → length text ≤ m → length text ≤ n → statements_in m line text ≡ statements_in n line text
turns zero zero line text h k = refl
turns zero (suc n) line [] h k = refl
turns zero (suc n) line (byte ∷ text) h k = absurd (omega arith)
turns (suc m) zero line [] h k = refl
turns (suc m) zero line (byte ∷ text) h k = absurd (omega arith)
turns (suc m) (suc n) line [] h k = refl
turns (suc m) (suc n) line (byte ∷ text) h k =
    let some = line_len-some byte text in
    let len = length-drop (line_len (byte ∷ text)) (byte ∷ text) in
    ap (before (statement_of line (take (line_len (byte ∷ text)) (byte ∷ text))))
    (turns m n (line + line_feeds (take (line_len (byte ∷ text)) (byte ∷ text))) (drop (line_len (byte ∷ text)) (byte ∷ text)) (omega arith) (omega arith))

pub one_line : (turn line : ℕ) (rest : List ℕ) → 0 < length rest → length rest ≤ turn
    → statements_in turn line rest ≡ before (statement_of line (take (line_len rest) rest)) (statements_in (length rest - line_len rest) (line + line_feeds (take (line_len rest) rest)) (drop (line_len rest) rest))
one_line zero line rest some h = absurd (omega arith)
one_line (suc turn) line [] some h = absurd (omega arith)
one_line (suc turn) line (byte ∷ text) some h =
    let more = line_len-some byte text in
    let len = length-drop (line_len (byte ∷ text)) (byte ∷ text) in
    ap (before (statement_of line (take (line_len (byte ∷ text)) (byte ∷ text))))
    (turns turn (suc (length text) - line_len (byte ∷ text)) (line + line_feeds (take (line_len (byte ∷ text)) (byte ∷ text))) (drop (line_len (byte ∷ text)) (byte ∷ text)) (omega arith) (omega arith))

before-list : (statement : Option Statement) (found rest : List Statement) → (found ++ before statement []) ++ rest ≡ found ++ before statement rest
before-list None found rest = rw append-nil refl
before-list (Some statement) found rest = append_assoc found (statement ∷ []) rest

-- the statements so far and those to come, one line on
pub line_more : (text : List ℕ) (from to line : ℕ) (found more all : List Statement) → from < to → to ≤ length text → to ≡ from + line_len (drop from text)
    → found ++ statements_in (length text - from) line (drop from text) ≡ all
    → more ≡ found ++ before (statement_of line (take (to - from) (drop from text))) []
    → more ++ statements_in (length text - to) (line + line_feeds (take (to - from) (drop from text))) (drop to text) ≡ all
line_more text from to line found more all some inside is h m =
    let len = length-drop from text in
    let n : line_len (drop from text) ≡ to - from = omega arith in
    let e = one_line (length text - from) line (drop from text) (omega arith) (omega arith) in
    let past : drop (to - from) (drop from text) ≡ drop to text = drop-drop (to - from) from text ∙ ap (λ i. drop i text) (let p : from + (to - from) ≡ to = omega arith in p) in
    let left : length (drop from text) - (to - from) ≡ length text - to = omega arith in
    rw m (before-list (statement_of line (take (to - from) (drop from text))) found (statements_in (length text - to) (line + line_feeds (take (to - from) (drop from text))) (drop to text))
    ∙ rw (e, n, past, left) at h)
