use Rattle.std.proofs.Common.{◌≡◌, map, take}
use Rattle.share_gaps.specs.Within.{rate_of}
use Rattle.share_gaps.proofs.watch.rates_of.Given as goal

abbrev pub invariant-loop-class : goal.invariant-loop-class
invariant-loop-class l = l.rates.items ≡ map rate_of (take l.class-index l.classes)
