use Rattle.std.proofs.Common.{arith}
use Rattle.std.proofs.Math.Nat.{one-le-pow}
use Rattle.pcapng_files.proofs.units.units_of.Goals as goal

pub returns-then-resolution-lt128-clause-some : goal.returns-then-resolution-lt128-clause-some
returns-then-resolution-lt128-clause-some c = omega (arith, c.pow.ensures, one-le-pow c.args.resolution 10 (omega arith))
