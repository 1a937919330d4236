use Rattle.std.proofs.Common.{◌≡◌, ◌<◌, ℕ, Bool, true, false, List, length, get_or, ap, sym, subst, arith, eqb-true}
use Rattle.fate_check.specs.declared.reading.Row.{Row}
use Rattle.fate_judge.specs.All.{AreTold, PassesEach}
use Rattle.fate_judge.specs.Given.{bare_arrivals}
use Rattle.fate_judge.proofs.AllPassed.{all_passed}
use Rattle.fate_judge.proofs.Passing.{count_of}
use Rattle.fate_judge.proofs.Walking.{before_at, before_more, one_more}
use Rattle.fate_judge.proofs.all.all_pass.Goals as goal

pub loop-row-init : goal.loop-row-init
loop-row-init c = record {
  room = c.in_ok-tests.ensures.room c.args.rate;
  told = c.in_ok-tests.ensures.told c.args.rate (bare_arrivals c.args.arrived.now);
  each = tt;
}

pub loop-row-preserved : goal.loop-row-preserved
loop-row-preserved c =
    let rows = c.args.rows.now in let i = c.loop-row.row-index in let before = before_at rows i in
    let arrived = bare_arrivals c.args.arrived.now in
    let P : List Row → Type 0 = λ b. AreTold c.args.rate arrived b c.passes.new.self in
    record {
      room = c.passes.ensures.room c.if-not-passes.false;
      told = subst P (sym (before_more rows i c.loop-row-test.true)) (c.passes.ensures.stands c.if-not-passes.false before c.loop-row.invariant.told);
      each = one_more (PassesEach c.args.rate c.args.classes.now arrived) rows i c.loop-row-test.true c.loop-row.invariant.each
          (c.passes.ensures.passes c.if-not-passes.false before c.loop-row.invariant.told);
    }

pub returns : goal.returns
returns c = λ yes.
    let arrived = bare_arrivals c.args.arrived.now in let numbers = c.loop-row.tests.seen.numbers.items in
    let many = count_of c.args.arrived.now in
    let same = eqb-true c.first_unset.result (length c.args.arrived.now) yes in
    let long : length numbers ≡ length arrived
    = omega (arith, many, c.loop-row.invariant.room.seen, c.deref.ensures.len, ap length c.deref.ensures.value) in
    let P : List Bool → Type 0 = λ s. (k : ℕ) → k < length arrived → get_or s k false ≡ true in
    all_passed (record { rate = c.args.rate; classes = c.args.classes.now; arrived = arrived; rows = c.args.rows.now }) c.loop-row.row-index numbers
    c.loop-row-test.false c.loop-row.invariant.each c.loop-row.invariant.told.seen long
    (subst P c.deref.ensures.value (λ k lt. c.first_unset.ensures.set_before k (omega arith) (omega (arith, same, many, lt))))
