use Rattle.std.proofs.Common.{◌+◌, ap, ◌∙◌}
use Rattle.service_curve.proofs.Firsts.{time_more}
use Rattle.service_curve.proofs.inverses.time_at.Goals as goal

pub returns : goal.returns
returns c = ap (λ n. n + 1) c.quotient.ensures ∙ time_more c.args.slope c.args.amount c.requires.slope c.requires.amount
