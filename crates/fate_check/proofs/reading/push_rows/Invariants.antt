use Rattle.std.proofs.Common.{◌≡◌, ◌+◌, ◌≤◌, ◌++◌, List, length}
use Rattle.play_text.specs.Texts.{fates_header}
use Rattle.fate_check.specs.declared.reading.Row.{Row}
use Rattle.fate_check.specs.Text.{AreRows, texts_of}
use Rattle.fate_check.proofs.reading.push_rows.Given as goal

-- the head row, the rows so far and the rest are the text
abbrev pub invariant-loop-rest : goal.invariant-loop-rest
invariant-loop-rest l = record {
  more : List Row;
  all_are : l.rows.items ≡ l.fn.rows.items ++ more;
  rows : AreRows l.names more;
  whole : l.text ≡ fates_header ++ (texts_of l.names more ++ l.rest);
  count : l.row_number ≡ length more + 1;
  few : l.row_number + length l.rest ≤ length l.text;
}

abbrev pub decreases-loop-rest : goal.decreases-loop-rest
decreases-loop-rest l = length l.rest
