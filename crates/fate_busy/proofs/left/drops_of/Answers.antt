use Rattle.std.proofs.Common.{◌∙◌, List, sym, subst, arith}
use Rattle.fate_check.specs.declared.reading.Row.{Row}
use Rattle.fate_judge.specs.Tests.{IsNumbered}
use Rattle.fate_judge.proofs.Walking.{at_row, before_at, before_more}
use Rattle.fate_busy.specs.Busy.{AreDropped}
use Rattle.fate_busy.proofs.Dropping.{dropped_by_all}
use Rattle.fate_busy.proofs.left.drops_of.Goals as goal

pub tell-requires-clause-from_one : goal.tell-requires-clause-from_one
tell-requires-clause-from_one c = (at_row (IsNumbered c.args.count) c.args.rows.now c.loop-row.row-index c.loop-row-test.true c.requires).from_one

pub tell-requires-clause-there : goal.tell-requires-clause-there
tell-requires-clause-there c =
    let few = (at_row (IsNumbered c.args.count) c.args.rows.now c.loop-row.row-index c.loop-row-test.true c.requires).there in
    omega (arith, few, c.loop-row.invariant.count)

pub loop-row-preserved : goal.loop-row-preserved
loop-row-preserved c =
    let P : List Row → Type 0 = λ b. AreDropped c.tell.new.self.gone.items b in
    record {
      count = c.tell.ensures.count ∙ c.loop-row.invariant.count;
      dropped = subst P (sym (before_more c.args.rows.now c.loop-row.row-index c.loop-row-test.true))
          (c.tell.ensures.stands (before_at c.args.rows.now c.loop-row.row-index) c.loop-row.invariant.dropped);
    }

pub returns : goal.returns
returns c = (c.loop-row.invariant.count, dropped_by_all c.args.rows.now c.loop-row.row-index c.loop-row.drops.gone.items c.loop-row-test.false c.loop-row.invariant.dropped)
