use Rattle.std.proofs.Common.{◌≡◌, ◌≤◌}
use Rattle.discipline.specs.Laws.{HasRate}
use Rattle.case_calls.specs.Standing.{IsAt}
use Rattle.case_calls.proofs.sendings.play_until.Given as goal

abbrev pub invariant-loop-place : goal.invariant-loop-place
invariant-loop-place g l = record {
  order : l.latest ≤ l.moment;
  drawn : l.words.drawn ≤ l.place;
  rate : HasRate (g.D.Discipline.view l.discipline).link_rate l.clock.rate;
  policy : (g.D.Discipline.view l.discipline).policy ≡ (g.D.Discipline.view l.fn.discipline).policy;
  at : IsAt (g.D.Discipline.view l.discipline).represents l.clock l.place l.latest l.latest;
}
