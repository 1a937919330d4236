use Rattle.runtime_curve.proofs.Kept.{follows_one, follows_three, stands_three}
use Rattle.runtime_curve.proofs.Lowest.{new_stands, up_to_next}
use Rattle.runtime_curve.proofs.held.add_beside.Goals as goal

pub second_opening-requires-clause-order : goal.second_opening-requires-clause-order
second_opening-requires-clause-order c = follows_one c.args.kept.now c.in-One.only c.args.new c.in-One.is c.requires.follows

pub is_lower-requires-clause-order : goal.is_lower-requires-clause-order
is_lower-requires-clause-order c =
    let held = c.in-Three.held in
    up_to_next held.flat held.last c.args.new (c.requires.kept.three held c.in-Three.is).flat_order
    (follows_three c.args.kept.now held c.args.new c.in-Three.is c.requires.follows)

pub add_last-requires-clause-last : goal.add_last-requires-clause-last
add_last-requires-clause-last c = follows_three c.args.kept.now c.in-Three.held c.args.new c.in-Three.is c.requires.follows

pub returns-then-is_lower-clause-opened : goal.returns-then-is_lower-clause-opened
returns-then-is_lower-clause-opened c = λ os stood.
    new_stands c.args.curve.now c.in-Three.held c.args.new os (stands_three c.args.curve.now c.args.kept.now c.in-Three.held os c.in-Three.is stood)
    (follows_three c.args.kept.now c.in-Three.held c.args.new c.in-Three.is c.requires.follows) (c.is_lower.ensures.lower c.if-is_lower.true)
