-- A packet's own time is bounded.
use Rattle.std.proofs.Common.{arith}
use Rattle.cbq_estimator.proofs.Times.{own_time}
use Rattle.cbq_estimator.proofs.Estimator.ended.Goals as goal

pub idle_time-idle-requires-clause-short : goal.idle_time-idle-requires-clause-short
idle_time-idle-requires-clause-short c =
    omega (arith, own_time c.args.len c.self.inside.rate c.self.invariant.least_rate c.requires.few_bytes)
