use Rattle.std.proofs.Common.{◌≡◌, take, None}
use Rattle.std.specs.List.{find}
use Rattle.ranking.specs.Order.{key_of}
use Rattle.ranking.specs.Ranking.{keys_of, order_of}
use Rattle.hfsc_model.specs.RealTime.{has_come}
use Rattle.hfsc_eligible.specs.Eligible.{IsLeader}
use Rattle.hfsc_eligible.proofs.Eligible.first_come.Given as goal

abbrev pub invariant-loop-place : goal.invariant-loop-place
invariant-loop-place l =
    (find (λ c. has_come (key_of (keys_of l.self.moments) c) l.now) (take l.place (order_of l.self.deadlines)) ≡ None)
    × IsLeader (keys_of l.self.deadlines) (λ c. has_come (key_of (keys_of l.self.moments) c) l.now) (order_of l.self.moments) l.place l.best
