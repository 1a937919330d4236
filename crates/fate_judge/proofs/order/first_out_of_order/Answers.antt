use Rattle.std.proofs.Common.{◌∙◌, List, sym, subst, arith}
use Rattle.fate_check.specs.declared.reading.Row.{Row}
use Rattle.fate_judge.specs.Order.{RowIsInOrder, IsOrder}
use Rattle.fate_judge.specs.Reading.{HasClass, IsRead}
use Rattle.fate_judge.proofs.Walking.{at_row, before_at, before_more, first_fails, one_more}
use Rattle.fate_judge.proofs.order.first_out_of_order.Goals as goal

pub passes-requires : goal.passes-requires
passes-requires c =
    let inside = at_row (HasClass c.args.count) c.args.rows.now c.loop-i.i c.loop-i-test.true c.requires in
    omega (arith, inside, c.loop-i.invariant.count)

pub loop-i-init : goal.loop-i-init
loop-i-init c = record {
  count = c.in_ok-order.ensures.count;
  stands = λ classes arrived read. c.in_ok-order.ensures.none arrived;
  each = λ classes arrived read. tt;
}

pub returns-then-not-passes : goal.returns-then-not-passes
returns-then-not-passes c = λ classes arrived read.
    let rows = c.args.rows.now in let i = c.loop-i.i in
    first_fails (RowIsInOrder arrived) rows i c.loop-i-test.true (c.loop-i.invariant.each classes arrived read)
    (c.passes.ensures.fails c.if-not-passes.true classes arrived (before_at rows i) (at_row (IsRead classes arrived) rows i c.loop-i-test.true read)
    (c.loop-i.invariant.stands classes arrived read))

pub loop-i-preserved : goal.loop-i-preserved
loop-i-preserved c =
    let rows = c.args.rows.now in let i = c.loop-i.i in let before = before_at rows i in
    let o = c.passes.new.self in
    record {
      count = c.passes.ensures.count ∙ c.loop-i.invariant.count;
      stands = λ classes arrived read.
          let P : List Row → Type 0 = λ b. IsOrder arrived b o.sent.items o.start o.drop o.moment in
          subst P (sym (before_more rows i c.loop-i-test.true))
          (c.passes.ensures.stands c.if-not-passes.false classes arrived before (at_row (IsRead classes arrived) rows i c.loop-i-test.true read)
          (c.loop-i.invariant.stands classes arrived read));
      each = λ classes arrived read. one_more (RowIsInOrder arrived) rows i c.loop-i-test.true (c.loop-i.invariant.each classes arrived read)
          (c.passes.ensures.passes c.if-not-passes.false classes arrived before (at_row (IsRead classes arrived) rows i c.loop-i-test.true read)
          (c.loop-i.invariant.stands classes arrived read));
    }
