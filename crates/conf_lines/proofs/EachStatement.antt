-- What holds of each statement that a line gives holds of all statements of a text.
use Rattle.std.proofs.Common.{ℕ, zero, suc, ◌+◌, List, [], ◌∷◌, length, take, drop, Option, Some, None, nat_lt}
use Rattle.line_text.specs.Lines.{line_len, joined, longest_line}
use Rattle.line_text.specs.Words.{words_of}
use Rattle.conf_lines.specs.declared.statement.Statement.{Statement}
use Rattle.conf_lines.specs.Grammar.{start}
use Rattle.conf_lines.specs.Texts.{read_from, as_statement, by_words, line_too_long, statement_of, line_feeds, before, statements_in, statements_of}
use Rattle.conf_lines.proofs.ReadWords.{pick}

-- a fact of a statement, if there is one
abbrev IfAny : (Statement → Type 0) → Option Statement → Type 0
IfAny P None = Unit {0}
IfAny P (Some s) = P s

-- a fact of one statement, and one of all statements of a list
module _ (P : Statement → Type 0) (Each : List Statement → Type 0) (none : Each []) (more : (s : Statement) (rest : List Statement) → P s → Each rest → Each (s ∷ rest))
    (long : (line : ℕ) (words : List (List ℕ)) → P (line_too_long line words))
    (read : (line : ℕ) (word : List ℕ) (words : List (List ℕ)) → P (as_statement line (length (word ∷ words) + 1) (read_from line (word ∷ words) start 1))) where
  of_words : (line : ℕ) (words : List (List ℕ)) → IfAny P (by_words line words)
  of_words line [] = tt
  of_words line (word ∷ words) = read line word words

  of_line : (line : ℕ) (bytes : List ℕ) → IfAny P (statement_of line bytes)
  of_line line bytes =
      let words = words_of (joined bytes) in
      pick (IfAny P) (nat_lt longest_line (length (joined bytes))) (Some (line_too_long line words)) (by_words line words) (long line words) (of_words line words)

  and_more : (o : Option Statement) (rest : List Statement) → IfAny P o → Each rest → Each (before o rest)
  and_more None rest h k = k
  and_more (Some s) rest h k = more s rest h k

  of_lines : (lines line : ℕ) (text : List ℕ) → Each (statements_in lines line text)
  of_lines zero line text = none
  of_lines (suc lines) line [] = none
  of_lines (suc lines) line (byte ∷ text) =
      let len : ℕ = line_len (byte ∷ text) in
      let bytes = take len (byte ∷ text) in
      and_more (statement_of line bytes) (statements_in lines (line + line_feeds bytes) (drop len (byte ∷ text)))
      (of_line line bytes) (of_lines lines (line + line_feeds bytes) (drop len (byte ∷ text)))

  pub of_text : (text : List ℕ) → Each (statements_of text)
  unfolding statements_of
  of_text text = of_lines (length text) 1 text
