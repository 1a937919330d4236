use Rattle.std.proofs.Common.{◌+◌, ◌-◌, ◌/◌, Some, rules}
use Rattle.service_curve.proofs.Firsts.{equals_first}
use Rattle.service_curve.proofs.Curve.first.Goals as goal

pub returns-clause-least : goal.returns-clause-least
returns-clause-least c =
    let slope = c.from-slope.result in
    equals_first c.args.self.now c.args.wanted (Some (c.from.result + (c.piece-piece.result.rest + (slope - 1)) / slope)) (search rules)
