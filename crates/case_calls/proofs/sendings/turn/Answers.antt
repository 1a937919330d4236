-- What stands after a sending, or after a wait.
use Rattle.std.proofs.Common.{◌≤◌, ◌<◌, arith}
use Rattle.discipline.specs.declared.pick.Sending.{Sending}
use Rattle.case_calls.proofs.StandingLemmas.{at_asked, at_later, at_sent, moment_come}
use Rattle.case_calls.proofs.sendings.turn.Goals as goal

pub returns-then-start-till-clause-at : goal.returns-then-start-till-clause-at
returns-then-start-till-clause-at g c = λ most x. at_later _ _ most _ _ _ _ c.requires.order (omega arith) x

pub next-requires-clause-later : goal.next-requires-clause-later
next-requires-clause-later g c =
    moment_come _ c.args.clock.now c.requires.at.0 c.args.now c.args.till (g.D.Discipline.view c.args.discipline.now).moment c.max-start.result
    (g.met.D.Discipline.moments c.args.discipline.now) (omega (arith, c.max-start.ensures)) c.requires.at.1

pub returns-in-Empty-clause-at : goal.returns-in-Empty-clause-at
returns-in-Empty-clause-at g c = λ most x.
    at_asked _ _ _ most _ _ c.next.ensures.unchanged.represents (at_later _ _ most _ _ _ _ c.requires.order (omega arith) x)

pub returns-then-then-till-clause-at : goal.returns-then-then-till-clause-at
returns-then-then-till-clause-at g c = λ most x.
    let later = c.in-Wait.ensures.waits.later in
    at_asked _ _ _ most _ _ c.next.ensures.unchanged.represents (at_later _ _ most _ _ _ _ (omega (arith, c.max-start.ensures, later)) (omega arith) x)

pub returns-else-then-till-clause-at : goal.returns-else-then-till-clause-at
returns-else-then-till-clause-at g c = λ most x.
    at_asked _ _ _ most _ _ c.next.ensures.unchanged.represents (at_later _ _ most _ _ _ _ c.requires.order (omega arith) x)

pub sent-requires-clause-later : goal.sent-requires-clause-later
sent-requires-clause-later g c =
    moment_come _ c.args.clock.now c.requires.at.0 c.args.now c.args.till (g.D.Discipline.view c.next.new.self).moment c.max-start.result
    (g.met.D.Discipline.moments c.next.new.self) (omega (arith, c.max-start.ensures))
    (at_asked _ _ _ c.requires.at.0 _ _ c.next.ensures.unchanged.represents c.requires.at.1)

pub returns-clause-at : goal.returns-clause-at
returns-clause-at g c = λ most x.
    let s : Sending = record { ticket = c.in-Send.ticket; class = c.in-Send.class; len = c.in-Send.len; rule = c.in-Send.rule; start = c.max-start.result; end = c.end_of-end.result } in
    at_sent _ _ _ _ most _ _ s (omega (arith, c.max-start.ensures)) (omega (arith, c.if-start-till.false)) c.sent-2.ensures.rate c.sent-2.ensures.link
    c.sent.ensures.history (at_asked _ _ _ most _ _ c.next.ensures.unchanged.represents x)
