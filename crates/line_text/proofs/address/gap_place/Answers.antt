use Rattle.std.proofs.Common.{sym, ◌∙◌, arith}
use Rattle.line_text.proofs.Colons.{gap_from-last}
use Rattle.line_text.proofs.address.gap_place.Goals as goal

pub returns-clause-value : goal.returns-clause-value
returns-clause-value c = sym (gap_from-last c.args.text.now c.loop-at.at (omega arith)) ∙ c.loop-at.invariant.0
