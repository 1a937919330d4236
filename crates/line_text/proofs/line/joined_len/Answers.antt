use Rattle.std.proofs.Common.{◌≡◌, false, get_or, length, drop, max, ap, sym, ◌∙◌, arith}
use Rattle.std.proofs.lemmas.List.{take_rest, length-drop}
use Rattle.line_text.specs.Lines.{continuation_len, ends}
use Rattle.line_text.proofs.Passing.{joined-step}
use Rattle.line_text.proofs.line.joined_len.Goals as goal

pub loop-at-preserved : goal.loop-at-preserved
loop-at-preserved c =
    let line = c.args.line.now in
    let at = c.loop-at.at in
    let on : ends (get_or line at 0) ≡ false = sym c.ends_line.ensures ∙ c.if-not-ends_line.true in
    let value = rw (take_rest line at) at c.continuation_len.ensures.value in
    let within = rw (take_rest line at) at c.continuation_len.ensures.within in
    let step : c.max-at.result ≡ max (continuation_len (drop at line)) 1 = rw (← value) c.max-at.ensures in
    let e = rw (← step) at (ap length (joined-step line at c.loop-at-test.true on)) in
    let rest = length-drop at line in
    (omega arith, omega arith, omega arith)
