use Rattle.std.proofs.Common.{List, length, sym, subst}
use Rattle.fate_check.specs.declared.reading.Row.{Row}
use Rattle.fate_judge.specs.Given.{bare_arrivals}
use Rattle.fate_judge.specs.Tests.{IsNumbered}
use Rattle.fate_judge.proofs.Walking.{at_row, before_at, before_more, first_fails, one_more}
use Rattle.fate_busy.specs.Busy.{IsLeft, StartsAtOnce}
use Rattle.fate_busy.proofs.busy.first_idle.Goals as goal

pub passes-requires-clause-from_one : goal.passes-requires-clause-from_one
passes-requires-clause-from_one c = (at_row (IsNumbered (length c.args.arrived.now)) c.args.rows.now c.loop-i.i c.loop-i-test.true c.requires.numbered).from_one

pub passes-requires-clause-there : goal.passes-requires-clause-there
passes-requires-clause-there c = (at_row (IsNumbered (length c.args.arrived.now)) c.args.rows.now c.loop-i.i c.loop-i-test.true c.requires.numbered).there

pub returns-then-not-passes : goal.returns-then-not-passes
returns-then-not-passes c =
    let rows = c.args.rows.now in let i = c.loop-i.i in
    first_fails (StartsAtOnce (bare_arrivals c.args.arrived.now) rows) rows i c.loop-i-test.true c.loop-i.invariant.each
    (c.passes.ensures.fails c.if-not-passes.true rows (before_at rows i) c.loop-i.invariant.stands)

pub loop-i-preserved : goal.loop-i-preserved
loop-i-preserved c =
    let rows = c.args.rows.now in let i = c.loop-i.i in let before = before_at rows i in
    let P : List Row → Type 0 = λ b. IsLeft (length c.args.arrived.now) rows b c.passes.new.self in
    record {
      stands = subst P (sym (before_more rows i c.loop-i-test.true)) (c.passes.ensures.stands c.if-not-passes.false rows before c.loop-i.invariant.stands);
      each = one_more (StartsAtOnce (bare_arrivals c.args.arrived.now) rows) rows i c.loop-i-test.true c.loop-i.invariant.each
          (c.passes.ensures.passes c.if-not-passes.false rows before c.loop-i.invariant.stands);
    }
