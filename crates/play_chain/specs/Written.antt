-- A writer of comma-separated values between two rows.
use Rattle.std.specs.Prelude.{◌≡◌, ◌++◌, ℕ, List, false}
use Rattle.std.specs.declared.option.Option.{Option}
use Rattle.csv.specs.declared.writer.Writer.{Writer}
use Rattle.csv.specs.Writing.{default_writer, fields_written, has_written, writer_setup}
use Rattle.play_chain.specs.declared.outcome.Passage.{Passage}
use Rattle.play_chain.specs.Text.{rows_below}

-- it writes in the default form, and no row is begun
pub record IsBetweenRows {W : Type 0} (w : Writer W) : Type 0 where
  pub setup : writer_setup w ≡ default_writer
  pub fields : fields_written w ≡ 0
  pub wrote : has_written w ≡ false

-- a text that went up to the rows of the numbers below `from` goes up to those below `to`, whatever stood before it
abbrev pub Continues : (old new : List ℕ) → (from to : ℕ) → (ℕ → Option Passage) → Type 0
Continues old new from to passages =
    (before front : List ℕ) → before ++ old ≡ front ++ rows_below from passages → before ++ new ≡ front ++ rows_below to passages
