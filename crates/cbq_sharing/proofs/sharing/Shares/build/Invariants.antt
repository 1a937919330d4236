use Rattle.std.proofs.Common.{◌≡◌, map, take}
use Rattle.cbq_sharing.specs.Fresh.{fresh_estimate}
use Rattle.cbq_sharing.specs.Shared.{fixed_of}
use Rattle.cbq_sharing.proofs.sharing.Shares.build.Given as goal

abbrev pub invariant-loop-class : goal.invariant-loop-class
invariant-loop-class l =
    (l.estimators.items ≡ map fresh_estimate (take l.class-index l.classes)) × (l.fixed.items ≡ map (fixed_of l.rate l.classes) (take l.class-index l.classes))
