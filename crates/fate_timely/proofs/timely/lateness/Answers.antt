use Rattle.std.proofs.Common.{◌≡◌, ◌∙◌, ◌+◌, ◌*◌, ◌^◌, ℕ, List, Option, ap, sym, subst, arith}
use Rattle.fate_check.specs.declared.reading.Row.{Row}
use Rattle.fate_judge.proofs.Walking.{at_row, before_at, before_more, first_fails, one_more}
use Rattle.fate_timely.specs.declared.leaf.Leaf.{Leaf}
use Rattle.fate_timely.specs.Dues.{AreDues, UnitsAreUpTo, listed}
use Rattle.fate_timely.specs.Timely.{EndsInTime, StartsInTurn}
use Rattle.fate_timely.proofs.Listing.{lates_of}
use Rattle.fate_timely.proofs.timely.lateness.Goals as goal

pub passes-requires-clause-known : goal.passes-requires-clause-known
passes-requires-clause-known c =
    let rows = c.args.rows.now in let i = c.loop-i.i in
    (c.args.curves.now, before_at rows i, c.loop-i.invariant.stands, at_row StartsInTurn rows i c.loop-i-test.true c.requires.in_turn)

pub returns-then-not-passes-clause-overdue : goal.returns-then-not-passes-clause-overdue
returns-then-not-passes-clause-overdue c =
    let rows = c.args.rows.now in let i = c.loop-i.i in
    let f = c.passes.ensures.fails c.if-not-passes.true c.args.curves.now (before_at rows i) c.loop-i.invariant.stands
    (at_row StartsInTurn rows i c.loop-i-test.true c.requires.in_turn) in
    (f.0, f.1, first_fails (EndsInTime c.args.curves.now f.0) rows i c.loop-i-test.true (c.loop-i.invariant.each f.0 f.1) f.2)

pub loop-i-preserved : goal.loop-i-preserved
loop-i-preserved c =
    let rows = c.args.rows.now in let i = c.loop-i.i in let before = before_at rows i in
    let turn = at_row StartsInTurn rows i c.loop-i-test.true c.requires.in_turn in
    let P : List Row → Type 0 = λ b. AreDues c.args.curves.now b c.passes.new.self.leaves.items in
    let Q : ℕ → Type 0 = λ n. UnitsAreUpTo n c.passes.new.self.leaves.items in
    let more : i * 2 ^ 65 + 2 ^ 65 ≡ (i + 1) * 2 ^ 65 = omega arith in
    record {
      stands = subst P (sym (before_more rows i c.loop-i-test.true)) (c.passes.ensures.stands c.args.curves.now before c.loop-i.invariant.stands turn);
      few = subst Q more (c.passes.ensures.few (i * 2 ^ 65) c.loop-i.invariant.few);
      each = λ m e. one_more (EndsInTime c.args.curves.now m) rows i c.loop-i-test.true (c.loop-i.invariant.each m e)
          (c.passes.ensures.passes c.if-not-passes.false c.args.curves.now before c.loop-i.invariant.stands turn m e);
    }

pub returns-in-Ok-clause-late : goal.returns-in-Ok-clause-late
returns-in-Ok-clause-late c =
    c.in-Ok.ensures ∙ ap (λ (leaves : List (Option Leaf)). listed 0 leaves) c.deref.ensures.value
    ∙ lates_of c.args.curves.now c.args.rows.now c.loop-i.i c.loop-i.dues.leaves.items c.loop-i-test.false c.loop-i.invariant.stands
