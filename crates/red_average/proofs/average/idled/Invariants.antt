use Rattle.std.proofs.Common.{◌≡◌, ◌≤◌}
use Rattle.red_average.specs.Average.{idled}
use Rattle.red_average.proofs.average.idled.Given as goal

abbrev pub invariant-loop-left : goal.invariant-loop-left
invariant-loop-left l = record { same : idled l.left l.aged ≡ idled l.fn.steps l.fn.average; most : l.aged ≤ l.fn.average; few : l.left ≤ 16250 }

abbrev pub decreases-loop-left : goal.decreases-loop-left
decreases-loop-left l = l.left
