use Rattle.std.proofs.Common.{◌≡◌, ◌≤◌, take}
use Rattle.conf_lines.specs.Texts.{line_feeds}
use Rattle.conf_lines.proofs.statement.line_feeds.Given as goal

abbrev pub invariant-loop-byte : goal.invariant-loop-byte
invariant-loop-byte l = (l.count ≡ line_feeds (take l.byte-index l.text)) × (l.count ≤ l.byte-index)
