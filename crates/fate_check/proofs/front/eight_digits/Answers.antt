use Rattle.std.proofs.Common.{◌≡◌, ◌+◌, ◌*◌, ◌-◌, ◌&&◌, ℕ, subst, sym, arith}
use Rattle.std.proofs.lemmas.Bool.{and_parts}
use Rattle.fate_check.specs.Front.{WritesFirst}
use Rattle.fate_check.proofs.FrontLemmas.{DigitAt, eight, eight_stand, on_true}
use Rattle.fate_check.proofs.front.eight_digits.Goals as goal

pub returns : goal.returns
returns c =
    let text = c.args.text.now in
    let p7 = and_parts ((((((c.is_ascii_digit.result && c.is_ascii_digit-2.result) && c.is_ascii_digit-3.result) && c.is_ascii_digit-4.result) && c.is_ascii_digit-5.result) && c.is_ascii_digit-6.result) && c.is_ascii_digit-7.result) c.is_ascii_digit-8.result c.if-not-all.false in
    let p6 = and_parts (((((c.is_ascii_digit.result && c.is_ascii_digit-2.result) && c.is_ascii_digit-3.result) && c.is_ascii_digit-4.result) && c.is_ascii_digit-5.result) && c.is_ascii_digit-6.result) c.is_ascii_digit-7.result p7.0 in
    let p5 = and_parts ((((c.is_ascii_digit.result && c.is_ascii_digit-2.result) && c.is_ascii_digit-3.result) && c.is_ascii_digit-4.result) && c.is_ascii_digit-5.result) c.is_ascii_digit-6.result p6.0 in
    let p4 = and_parts (((c.is_ascii_digit.result && c.is_ascii_digit-2.result) && c.is_ascii_digit-3.result) && c.is_ascii_digit-4.result) c.is_ascii_digit-5.result p5.0 in
    let p3 = and_parts ((c.is_ascii_digit.result && c.is_ascii_digit-2.result) && c.is_ascii_digit-3.result) c.is_ascii_digit-4.result p4.0 in
    let p2 = and_parts (c.is_ascii_digit.result && c.is_ascii_digit-2.result) c.is_ascii_digit-3.result p3.0 in
    let p1 = and_parts c.is_ascii_digit.result c.is_ascii_digit-2.result p2.0 in
    let stands = eight_stand text (omega (arith, c.if-text-lt8.false)) (record {
      d0 = on_true c.is_ascii_digit.result (DigitAt text 0) c.is_ascii_digit.ensures.bound p1.0;
      d1 = on_true c.is_ascii_digit-2.result (DigitAt text 1) c.is_ascii_digit-2.ensures.bound p1.1;
      d2 = on_true c.is_ascii_digit-3.result (DigitAt text 2) c.is_ascii_digit-3.ensures.bound p2.1;
      d3 = on_true c.is_ascii_digit-4.result (DigitAt text 3) c.is_ascii_digit-4.ensures.bound p3.1;
      d4 = on_true c.is_ascii_digit-5.result (DigitAt text 4) c.is_ascii_digit-5.ensures.bound p4.1;
      d5 = on_true c.is_ascii_digit-6.result (DigitAt text 5) c.is_ascii_digit-6.ensures.bound p5.1;
      d6 = on_true c.is_ascii_digit-7.result (DigitAt text 6) c.is_ascii_digit-7.ensures.bound p6.1;
      d7 = on_true c.is_ascii_digit-8.result (DigitAt text 7) c.is_ascii_digit-8.ensures.bound p7.1;
    }) in
    let same : (c.pair.result * 100 + c.pair-2.result) * 10000 + (c.pair-3.result * 100 + c.pair-4.result) - 533333328 ≡ eight text - 533333328 =
    omega (arith, c.pair.ensures, c.pair-2.ensures, c.pair-3.ensures, c.pair-4.ensures) in
    let P : ℕ → Type 0 = λ n. WritesFirst text 8 n in
    subst P (sym same) stands
