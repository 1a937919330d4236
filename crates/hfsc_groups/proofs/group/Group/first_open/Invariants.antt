use Rattle.std.proofs.Common.{◌≡◌, take, None}
use Rattle.std.specs.List.{find}
use Rattle.ranking.specs.Order.{key_of}
use Rattle.ranking.specs.Ranking.{order_of}
use Rattle.hfsc_model.specs.RealTime.{has_come}
use Rattle.hfsc_groups.specs.Late.{late_keys}
use Rattle.hfsc_groups.proofs.group.Group.first_open.Given as goal

abbrev pub invariant-loop-class : goal.invariant-loop-class
invariant-loop-class l = find (λ c. has_come (key_of (late_keys l.self.moments) c) l.now) (take l.class-index (order_of l.self.times)) ≡ None
