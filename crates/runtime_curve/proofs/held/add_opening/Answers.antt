use Rattle.runtime_curve.specs.Held.{held_one}
use Rattle.runtime_curve.proofs.Kept.{follows_one, stands_one}
use Rattle.runtime_curve.proofs.Lowest.{new_stands}
use Rattle.runtime_curve.proofs.held.add_opening.Goals as goal

pub is_lower-requires-clause-order : goal.is_lower-requires-clause-order
is_lower-requires-clause-order c = follows_one c.args.kept.now c.in-One.only c.args.new c.in-One.is c.requires.follows

pub returns-then-is_lower-clause-opened : goal.returns-then-is_lower-clause-opened
returns-then-is_lower-clause-opened c = λ os stood.
    new_stands c.args.curve.now (held_one c.in-One.only) c.args.new os (stands_one c.args.curve.now c.args.kept.now c.in-One.only os c.in-One.is stood)
    (follows_one c.args.kept.now c.in-One.only c.args.new c.in-One.is c.requires.follows) (c.is_lower.ensures.lower c.if-is_lower.true)
