use Rattle.std.proofs.Common.{◌≡◌, ◌+◌, length, vec_len, arith}
use Rattle.line_text.proofs.Splitting.{counted_more}
use Rattle.line_text.proofs.word.add_word.Goals as goal

pub returns-in_ok-push-clause-indexes : goal.returns-in_ok-push-clause-indexes
returns-in_ok-push-clause-indexes c = λ h.
    let e = c.in_ok-push.ensures.items in
    let len : c.len.result ≡ vec_len c.args.found.now = c.len.ensures in
    let n : c.len.result + 1 ≡ 1 + length c.args.found.now.items = omega (arith, c.args.found.now.ok) in
    rw e (counted_more 1 c.args.found.now.items (record { index = c.len.result + 1; parts = c.args.parts }) h n)
