use Rattle.std.proofs.Common.{◌≡◌, length}
use Rattle.line_text.specs.Addresses.{pieces, groups, groups_of}
use Rattle.line_text.proofs.Colons.{capped}
use Rattle.line_text.proofs.address.groups_of.Given as goal

abbrev pub invariant-loop-piece : goal.invariant-loop-piece
invariant-loop-piece l = capped l.bytes.items (groups (pieces l.rest)) ≡ groups_of l.text

abbrev pub decreases-loop-piece : goal.decreases-loop-piece
decreases-loop-piece l = length l.rest
