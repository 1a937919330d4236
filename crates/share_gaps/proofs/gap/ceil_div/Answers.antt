use Rattle.std.proofs.Common.{◌∙◌, arith}
use Rattle.share_gaps.proofs.Bounds.{ceil_is}
use Rattle.share_gaps.proofs.gap.ceil_div.Goals as goal

pub returns-clause-is : goal.returns-clause-is
returns-clause-is c = c.div_ceil.ensures ∙ ceil_is c.args.amount c.args.by (omega (arith, c.if-by-eq0.false))
