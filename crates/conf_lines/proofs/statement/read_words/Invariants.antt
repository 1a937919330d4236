use Rattle.std.proofs.Common.{◌≡◌, ◌+◌, length}
use Rattle.line_text.specs.Words.{parts_of}
use Rattle.conf_lines.specs.Grammar.{seen, start}
use Rattle.conf_lines.specs.Texts.{behind, read_from}
use Rattle.conf_lines.proofs.statement.read_words.Given as goal

abbrev pub invariant-loop-left : goal.invariant-loop-left
invariant-loop-left l = record {
  counted : l.at + length l.left ≡ length l.words + 1;
  reading :
      behind l.items.items (read_from l.line (parts_of l.left) (seen l.place) l.at)
      ≡ behind l.fn.items.items (read_from l.line (parts_of l.words) start 1);
}

abbrev pub decreases-loop-left : goal.decreases-loop-left
decreases-loop-left l = length l.left
