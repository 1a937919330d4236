use Rattle.std.proofs.Common.{◌≡◌, ◌<◌, ℕ, Bool, true, false, List, length, get_or, arith, inl, ap, sym, subst, ◌∙◌}
use Rattle.fate_check.specs.declared.reading.Row.{Row}
use Rattle.fate_judge.specs.Tests.{AreSeen, IsNewPacket, IsNumbered}
use Rattle.fate_judge.proofs.Walking.{at_row, before_at, before_more, first_fails, one_more}
use Rattle.fate_judge.proofs.Counted.{have_one, lacks_one}
use Rattle.fate_judge.proofs.once.first_again.Goals as goal

pub returns-then-not-passes : goal.returns-then-not-passes
returns-then-not-passes c =
    let rows = c.args.rows.now in let i = c.loop-i.i in
    inl (first_fails IsNewPacket rows i c.loop-i-test.true c.loop-i.invariant.each
    (c.passes.ensures.fails c.if-not-passes.true (before_at rows i) c.loop-i.invariant.stands))

pub loop-i-preserved : goal.loop-i-preserved
loop-i-preserved c =
    let rows = c.args.rows.now in let i = c.loop-i.i in let before = before_at rows i in
    let P : List Row → Type 0 = λ b. AreSeen c.passes.new.self.numbers.items b in
    record {
      stands = subst P (sym (before_more rows i c.loop-i-test.true)) (c.passes.ensures.stands c.if-not-passes.false before c.loop-i.invariant.stands);
      each = one_more IsNewPacket rows i c.loop-i-test.true c.loop-i.invariant.each (c.passes.ensures.passes c.if-not-passes.false before c.loop-i.invariant.stands);
      count = c.passes.ensures.count ∙ c.loop-i.invariant.count;
    }

pub passes-requires-clause-from_one : goal.passes-requires-clause-from_one
passes-requires-clause-from_one c = (at_row (IsNumbered c.args.count) c.args.rows.now c.loop-i.i c.loop-i-test.true c.requires).from_one

pub passes-requires-clause-there : goal.passes-requires-clause-there
passes-requires-clause-there c =
    let few = (at_row (IsNumbered c.args.count) c.args.rows.now c.loop-i.i c.loop-i-test.true c.requires).there in
    omega (arith, few, c.loop-i.invariant.count)

pub returns-then-first_unset-count : goal.returns-then-first_unset-count
returns-then-first_unset-count c =
    let long : length c.loop-i.seen.numbers.items ≡ c.args.count = omega (arith, c.loop-i.invariant.count, c.deref.ensures.len, ap length c.deref.ensures.value) in
    let P : List Bool → Type 0 = λ s. get_or s c.first_unset.result false ≡ false in
    let inside : c.first_unset.result < length c.deref.result.now = omega (arith, c.if-first_unset-count.true, c.loop-i.invariant.count, c.deref.ensures.len) in
    lacks_one c.args.rows.now c.loop-i.i c.args.count c.first_unset.result c.loop-i.seen.numbers.items c.loop-i-test.false c.loop-i.invariant.each c.loop-i.invariant.stands
    long c.if-first_unset-count.true (subst P c.deref.ensures.value (c.first_unset.ensures.unset inside))

pub returns : goal.returns
returns c =
    let long : length c.loop-i.seen.numbers.items ≡ c.args.count = omega (arith, c.loop-i.invariant.count, c.deref.ensures.len, ap length c.deref.ensures.value) in
    let P : List Bool → Type 0 = λ s. (k : ℕ) → k < c.args.count → get_or s k false ≡ true in
    have_one c.args.rows.now c.loop-i.i c.args.count c.loop-i.seen.numbers.items c.loop-i-test.false c.loop-i.invariant.each c.loop-i.invariant.stands long
    (subst P c.deref.ensures.value (λ k lt. c.first_unset.ensures.set_before k (omega arith) (omega (arith, lt, c.if-first_unset-count.false))))
