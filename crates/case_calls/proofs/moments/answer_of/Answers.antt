-- The moment that the discipline stores has come.
use Rattle.std.proofs.Common.{◌≤◌, arith}
use Rattle.case_calls.proofs.StandingLemmas.{moment_come}
use Rattle.case_calls.proofs.moments.answer_of.Goals as goal

pub next-requires-clause-later : goal.next-requires-clause-later
next-requires-clause-later g c =
    moment_come _ c.play_until.new.clock c.play_until.ensures.at.0 c.args.moment c.args.moment (g.D.Discipline.view c.play_until.new.discipline).moment c.args.moment
    (g.met.D.Discipline.moments c.play_until.new.discipline) (omega arith) c.play_until.ensures.at.1
