-- The interface is one of the configuration.
use Rattle.std.proofs.Common.{refl, subst, sym}
use Rattle.std.specs.Prelude.{IsSome, codes}
use Rattle.case_calls.proofs.InterfaceLemmas.{configured_of}
use Rattle.case_calls.proofs.moments.next_at.Goals as goal

pub found-interface-requires : goal.found-interface-requires
found-interface-requires c = subst IsSome (sym c.in-Ok.ensures.had.accepted.found) refl

pub tell_answer-requires-clause-configured : goal.tell_answer-requires-clause-configured
tell_answer-requires-clause-configured c =
    configured_of (codes "if0") c.in-Ok.ensures.had.accepted.text c.in-Ok.read.conf c.found-interface.result.now c.in-Ok.ensures.had.accepted.read c.found-interface.ensures
