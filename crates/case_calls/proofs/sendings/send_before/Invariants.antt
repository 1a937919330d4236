use Rattle.std.proofs.Common.{◌≡◌, ◌≤◌, ℕ}
use Rattle.discipline.specs.Laws.{HasRate}
use Rattle.case_calls.specs.Standing.{IsAt}
use Rattle.case_calls.proofs.sendings.send_before.Given as goal

abbrev pub invariant-loop : goal.invariant-loop
invariant-loop g l = record {
  order : l.now ≤ l.till;
  rate : HasRate (g.D.Discipline.view l.discipline).link_rate l.clock.rate;
  policy : (g.D.Discipline.view l.discipline).policy ≡ (g.D.Discipline.view l.fn.discipline).policy;
  at : (most : ℕ) → IsAt (g.D.Discipline.view l.fn.discipline).represents l.fn.clock most l.from l.from
      → IsAt (g.D.Discipline.view l.discipline).represents l.clock most l.now l.till;
}
