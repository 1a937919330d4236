use Rattle.std.proofs.Common.{◌≡◌, ◌+◌, ◌-◌, ◌≤◌, ◌++◌, length, take, drop}
use Rattle.line_text.specs.Lines.{joined}
use Rattle.line_text.specs.Words.{words_of}
use Rattle.line_text.proofs.Splitting.{ArePlain}
use Rattle.line_text.proofs.word.count.Given as goal

abbrev pub invariant-loop-at : goal.invariant-loop-at
invariant-loop-at l = record {
  order : l.start ≤ l.at;
  within : l.at ≤ length l.line;
  plain : ArePlain (take (l.at - l.start) (drop l.start l.line));
  words : l.found + length (words_of (take (l.at - l.start) (drop l.start l.line) ++ joined (drop l.at l.line))) ≡ length (words_of (joined l.line));
  few : l.found ≤ l.start;
}

abbrev pub decreases-loop-at : goal.decreases-loop-at
decreases-loop-at l = length l.line - l.at
