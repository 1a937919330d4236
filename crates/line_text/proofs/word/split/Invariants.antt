use Rattle.std.proofs.Common.{◌≡◌, ◌-◌, ◌≤◌, ◌++◌, length, take, drop}
use Rattle.line_text.specs.Lines.{joined}
use Rattle.line_text.specs.Words.{words_of, parts_of, AreCountedFrom}
use Rattle.line_text.proofs.Splitting.{ArePlain}
use Rattle.line_text.proofs.word.split.Given as goal

abbrev pub invariant-loop-at : goal.invariant-loop-at
invariant-loop-at l = record {
  order : l.start ≤ l.at;
  within : l.at ≤ length l.line;
  plain : ArePlain (take (l.at - l.start) (drop l.start l.line));
  words : parts_of l.found.items ++ words_of (take (l.at - l.start) (drop l.start l.line) ++ joined (drop l.at l.line)) ≡ words_of (joined l.line);
  counted : AreCountedFrom 1 l.found.items;
}

abbrev pub decreases-loop-at : goal.decreases-loop-at
decreases-loop-at l = length l.line - l.at
