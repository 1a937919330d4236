use Rattle.std.proofs.Common.{◌≡◌, ◌≤◌, eqb, false, get_or, length, drop, max, arith}
use Rattle.std.proofs.lemmas.Bool.Decides.{nat_tests}
use Rattle.std.proofs.lemmas.List.{take_rest, length-drop}
use Rattle.line_text.specs.Lines.{continuation_len}
use Rattle.line_text.proofs.Passing.{line_len-step}
use Rattle.line_text.proofs.line.line_len.Goals as goal

pub loop-at-preserved : goal.loop-at-preserved
loop-at-preserved c =
    let text = c.args.text.now in
    let at = c.loop-at.at in
    let feed : eqb (get_or text at 0) 10 ≡ false = grind (arith, nat_tests) in
    let hash : eqb (get_or text at 0) 35 ≡ false = grind (arith, nat_tests) in
    let value = rw (take_rest text at) at c.continuation_len.ensures.value in
    let within = rw (take_rest text at) at c.continuation_len.ensures.within in
    let step : c.max-at.result ≡ max (continuation_len (drop at text)) 1 = rw (← value) c.max-at.ensures in
    let fits : continuation_len (drop at text) ≤ length (drop at text) = rw (← value) within in
    let e = line_len-step text at c.max-at.result c.loop-at-test.true feed hash fits step in
    let rest = length-drop at text in
    (omega arith, omega arith)
