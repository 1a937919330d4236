use Rattle.service_curve.proofs.Firsts.{equals_first}
use Rattle.service_curve.proofs.Curve.first_by.Goals as goal

pub returns-clause-least : goal.returns-clause-least
returns-clause-least c = equals_first c.args.self.now c.args.wanted c.first_short.result c.first_short.ensures.is
