use Rattle.std.proofs.Common.{◌∙◌, ◌+◌, ◌*◌, ◌<◌, ℕ, ap, subst, arith}
use Rattle.std.specs.Char.{digit_value}
use Rattle.line_text.proofs.Digits.{digits_more}
use Rattle.fate_check.proofs.FrontLemmas.{fits_more, small_more}
use Rattle.fate_check.proofs.front.number_on.Goals as goal

pub overflow_mul-value : goal.overflow_mul-value
overflow_mul-value c =
    let fits = fits_more c.loop-digits.value c.loop-digits.digits c.loop-digits.invariant.small (omega (arith, c.loop-digits-test.true, c.loop-digits.invariant.few)) in
    omega (arith, fits)

pub overflow_add-value : goal.overflow_add-value
overflow_add-value c =
    let fits = fits_more c.loop-digits.value c.loop-digits.digits c.loop-digits.invariant.small (omega (arith, c.loop-digits-test.true, c.loop-digits.invariant.few)) in
    omega (arith, fits, c.from-in-loop-digits.ensures, c.in-Some.ensures.value.0, c.in-Some.ensures.value.1)

pub loop-digits-preserved : goal.loop-digits-preserved
loop-digits-preserved c =
    let d = c.in-Some.ensures.value in
    let P : ℕ → Type 0 = λ b. digit_value b < 10 in
    let inside = c.loop-digits-test.true in
    let m = digits_more 10 c.args.text.now c.loop-digits.digits c.loop-digits.value (omega (arith, inside, c.loop-digits.invariant.within)) c.loop-digits.invariant.digits c.loop-digits.invariant.value (subst P c.from.ensures d.0) in
    record {
      few = c.loop-digits.invariant.few;
      within = c.loop-digits.invariant.within;
      inside = omega (arith, inside);
      digits = m.0;
      value = ap (λ (x : ℕ). c.loop-digits.value * 10 + x) (c.from-in-loop-digits.ensures ∙ d.1 ∙ ap digit_value c.from.ensures) ∙ m.1;
      small = small_more c.loop-digits.value c.loop-digits.digits c.from-in-loop-digits.result c.loop-digits.invariant.small (omega (arith, c.from-in-loop-digits.ensures, d.0, d.1));
    }
