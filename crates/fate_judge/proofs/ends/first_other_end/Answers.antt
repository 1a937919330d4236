use Rattle.std.proofs.Common.{List, sym, subst, arith}
use Rattle.fate_check.specs.declared.reading.Row.{Row}
use Rattle.fate_judge.specs.Ends.{HasEnd, IsLink}
use Rattle.fate_judge.specs.Reading.{IsRead}
use Rattle.fate_judge.proofs.Walking.{at_row, before_at, before_more, first_fails, one_more}
use Rattle.fate_judge.proofs.ends.first_other_end.Goals as goal

pub loop-i-init : goal.loop-i-init
loop-i-init c = record {
  few = omega (arith, c.new-run.ensures.none);
  stands = λ classes arrived read. c.new-run.ensures.link c.args.rate arrived;
  each = λ classes arrived read. tt;
}

pub returns-then-not-passes : goal.returns-then-not-passes
returns-then-not-passes c = λ classes arrived read.
    let rows = c.args.rows.now in let i = c.loop-i.i in
    first_fails (HasEnd c.args.rate arrived) rows i c.loop-i-test.true (c.loop-i.invariant.each classes arrived read)
    (c.passes.ensures.fails c.if-not-passes.true classes arrived (before_at rows i) (at_row (IsRead classes arrived) rows i c.loop-i-test.true read)
    (c.loop-i.invariant.stands classes arrived read))

pub loop-i-preserved : goal.loop-i-preserved
loop-i-preserved c =
    let rows = c.args.rows.now in let i = c.loop-i.i in let before = before_at rows i in
    record {
      few = c.passes.ensures.few c.if-not-passes.false;
      stands = λ classes arrived read.
          let P : List Row → Type 0 = λ b. IsLink c.args.rate arrived b c.passes.new.self in
          subst P (sym (before_more rows i c.loop-i-test.true))
          (c.passes.ensures.stands c.if-not-passes.false classes arrived before (at_row (IsRead classes arrived) rows i c.loop-i-test.true read)
          (c.loop-i.invariant.stands classes arrived read));
      each = λ classes arrived read. one_more (HasEnd c.args.rate arrived) rows i c.loop-i-test.true (c.loop-i.invariant.each classes arrived read)
          (c.passes.ensures.passes c.if-not-passes.false classes arrived before (at_row (IsRead classes arrived) rows i c.loop-i-test.true read)
          (c.loop-i.invariant.stands classes arrived read));
    }
