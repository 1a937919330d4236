use Rattle.std.proofs.Common.{◌≤◌, ◌^◌, length, arith}
use Rattle.std.proofs.Math.Nat.{pow-le-pow_right}
use Rattle.line_text.proofs.Digits.{number-bound}
use Rattle.line_text.proofs.address.group.Goals as goal

pub overflow_cast-result : goal.overflow_cast-result
overflow_cast-result c =
    let bound = number-bound 16 c.args.text.now c.in_ok-value.value c.in_ok-value.ensures in
    let most : 16 ^ length c.args.text.now ≤ 16 ^ 4 = pow-le-pow_right (omega arith) c.if-text-le4.true in
    omega arith
