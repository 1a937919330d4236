use Rattle.std.proofs.Common.{◌≡◌}
use Rattle.interface_policy.proofs.Named.{first_names}
use Rattle.interface_policy.proofs.names.names_of.Given as goal

abbrev pub invariant-loop-number : goal.invariant-loop-number
invariant-loop-number l = l.names ≡ first_names l.interface l.number
