-- A row that is read from the front of a text, field by field.
use Rattle.std.specs.Prelude.{◌==◌, ◌&&◌, ◌^◌, ℕ, List, length, nat_lt, slice_index, if◌then◌else◌, Option, Some, None, codes}
use Rattle.std.specs.Str.{bytes_eq}
use Rattle.line_text.specs.Numbers.{◌>>=◌, cut, number}
use Rattle.altq_model.specs.declared.Fate.{Fate}
use Rattle.altq_model.specs.declared.Fate.TheVariants.{Dropped, Sent}
use Rattle.altq_model.specs.declared.Reason.{Reason}
use Rattle.altq_model.specs.declared.Reason.TheVariants.{Full, Early, Forced}
use Rattle.altq_model.specs.declared.Rule.{Rule}
use Rattle.altq_model.specs.declared.Rule.TheVariants.{RealTime, Share, Own, Borrow}
use Rattle.play_text.specs.Names.{NameList, class_named}
use Rattle.fate_check.specs.declared.reading.Row.{Row}

-- the seven fields of a row
pub record Texts : Type 0 where
  pub number : List ℕ
  pub at : List ℕ
  pub len : List ℕ
  pub class : List ℕ
  pub word : List ℕ
  pub start : List ℕ
  pub end : List ℕ

-- the number that digits write without a leading zero
unfoldable pub number_of : List ℕ → Option ℕ
number_of text = if nat_lt 1 (length text) && (slice_index text 0 == 48) then None else number 10 text

unfoldable pub len_of : List ℕ → Option ℕ
len_of text = do
  n ← number_of text
  if nat_lt n (2 ^ 32) then Some n else None

unfoldable pub rule_of : List ℕ → Option Rule
rule_of word =
    if bytes_eq word (codes "realtime") then Some RealTime
    else if bytes_eq word (codes "share") then Some Share
    else if bytes_eq word (codes "own") then Some Own
    else if bytes_eq word (codes "borrow") then Some Borrow
    else None

unfoldable pub reason_of : List ℕ → Option Reason
reason_of word =
    if bytes_eq word (codes "full") then Some Full
    else if bytes_eq word (codes "early") then Some Early
    else if bytes_eq word (codes "forced") then Some Forced
    else None

unfoldable pub dropped_of : (word start end : List ℕ) → Option Fate
dropped_of word start end = do
  reason ← reason_of word
  if (length start == 0) && (length end == 0) then Some (Dropped reason) else None

unfoldable pub sent_of : (rule : Rule) → (start end : List ℕ) → Option Fate
sent_of rule start end = do
  s ← number_of start
  e ← number_of end
  Some (Sent s e rule)

unfoldable pub fate_by : Option Rule → (word start end : List ℕ) → Option Fate
fate_by None word start end = dropped_of word start end
fate_by (Some rule) word start end = sent_of rule start end

unfoldable pub fate_of : (word start end : List ℕ) → Option Fate
fate_of word start end = fate_by (rule_of word) word start end

-- the fields at the front, and what stands behind them
unfoldable pub fields_of : List ℕ → Option (Texts × List ℕ)
fields_of text = do
  number ← cut 44 text
  at ← cut 44 number.1
  len ← cut 44 at.1
  class ← cut 44 len.1
  word ← cut 44 class.1
  start ← cut 44 word.1
  end ← cut 10 start.1
  Some (record { number = number.0; at = at.0; len = len.0; class = class.0; word = word.0; start = start.0; end = end.0 }, end.1)

unfoldable pub row_in : NameList → Texts → Option Row
row_in names t = do
  number ← number_of t.number
  at ← number_of t.at
  len ← len_of t.len
  class ← class_named names t.class
  fate ← fate_of t.word t.start t.end
  Some (record { number = number; at = at; len = len; class = class; fate = fate })

-- the row at the front, and what stands behind it
unfoldable pub row_of : NameList → List ℕ → Option (Row × List ℕ)
row_of names text = do
  f ← fields_of text
  r ← row_in names f.0
  Some (r, f.1)
