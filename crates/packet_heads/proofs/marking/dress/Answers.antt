use Rattle.std.proofs.Common.{◌≡◌, Bool, true, false, List, ℕ, rules}
use Rattle.packet_heads.specs.Departing.{departing}
use Rattle.packet_heads.proofs.Retagging.{departing_plain}
use Rattle.packet_heads.proofs.marking.dress.Goals as goal

as_it_came : (clear marked : Bool) (frame : List ℕ) → clear ≡ false → marked ≡ false → frame ≡ departing clear marked frame
as_it_came false false frame c m = departing_plain frame
as_it_came true marked frame c m = cc
as_it_came false true frame c m = cc

pub returns-then-not-marked-clause-value : goal.returns-then-not-marked-clause-value
returns-then-not-marked-clause-value c = as_it_came c.args.clear c.args.marked c.args.frame.now (search rules) (search rules)
