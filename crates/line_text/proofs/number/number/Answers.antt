use Rattle.std.proofs.Common.{sym, ◌∙◌, arith}
use Rattle.std.proofs.lemmas.Bool.Decides.{nat_tests}
use Rattle.line_text.proofs.Digits.{digits_more, no_number, number_whole}
use Rattle.line_text.proofs.number.number.Goals as goal

pub returns-in_err-value : goal.returns-in_err-value
returns-in_err-value c =
    let none = no_number c.args.radix c.args.text.now c.loop-byte.byte-index c.loop-byte.value c.loop-byte-test.true (omega arith) c.loop-byte.invariant.value c.in_err-value.ensures in
    cc

pub loop-byte-preserved : goal.loop-byte-preserved
loop-byte-preserved c =
    let e = c.in_ok-value.ensures in
    let m = digits_more c.args.radix c.args.text.now c.loop-byte.byte-index c.loop-byte.value c.loop-byte-test.true c.loop-byte.invariant.digits c.loop-byte.invariant.value e.0.0 in
    record { digits = m.0; value = e.1 ∙ m.1; small = omega (arith, e.0.1, e.1) }

pub returns-else-is_empty : goal.returns-else-is_empty
returns-else-is_empty c =
    sym (number_whole c.args.radix c.args.text.now c.loop-byte.byte-index c.loop-byte.value c.loop-byte-test.false c.loop-byte.invariant.digits c.loop-byte.invariant.value c.loop-byte.invariant.small (grind (arith, nat_tests)))
