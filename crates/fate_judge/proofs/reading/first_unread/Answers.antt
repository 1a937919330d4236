use Rattle.fate_judge.specs.Given.{bare_arrivals}
use Rattle.fate_judge.specs.Reading.{IsRead}
use Rattle.fate_judge.proofs.Walking.{one_more, first_fails}
use Rattle.fate_judge.proofs.reading.first_unread.Goals as goal

pub returns-then-not-is_of_arrival : goal.returns-then-not-is_of_arrival
returns-then-not-is_of_arrival c =
    first_fails (IsRead c.args.classes.now (bare_arrivals c.args.arrived.now)) c.args.rows.now c.loop-i.i c.loop-i-test.true c.loop-i.invariant
    (c.is_of_arrival.ensures.fails c.if-not-is_of_arrival.true)

pub loop-i-preserved : goal.loop-i-preserved
loop-i-preserved c =
    one_more (IsRead c.args.classes.now (bare_arrivals c.args.arrived.now)) c.args.rows.now c.loop-i.i c.loop-i-test.true c.loop-i.invariant
    (c.is_of_arrival.ensures.passes c.if-not-is_of_arrival.false)
