-- It begins where nothing started at `till` or later, and ends at `till`.
use Rattle.std.proofs.Common.{◌≤◌, refl, arith}
use Rattle.case_calls.proofs.StandingLemmas.{at_later}
use Rattle.case_calls.proofs.sendings.send_before.Goals as goal

pub loop-init : goal.loop-init
loop-init g c = record {
  order = c.requires.order;
  rate = c.requires.rate;
  policy = refl;
  at = λ most x. at_later _ _ most _ _ _ _ (omega arith) c.requires.order x;
}

pub returns-clause-at : goal.returns-clause-at
returns-clause-at g c = λ most x. at_later _ _ most _ _ _ _ c.loop.invariant.order (omega arith) (c.loop.invariant.at most x)
