use Rattle.std.proofs.Common.{◌≡◌, ◌-◌, length, take, drop, refl, arith}
use Rattle.std.proofs.lemmas.List.{length-take}
use Rattle.conf_lines.specs.Texts.{statement_of, statements_of}
use Rattle.conf_lines.proofs.OneLine.{line_more}
use Rattle.conf_lines.proofs.statement.statements.Goals as goal

pub loop-line-init : goal.loop-line-init
unfolding statements_of
loop-line-init c =
    let whole : length c.args.text.now - 0 ≡ length c.args.text.now = omega arith in
    record {
      within = omega arith;
      numbered = omega arith;
      found = rw (c.new-found.ensures.items, whole) refl;
    }

pub loop-line-preserved : goal.loop-line-preserved
loop-line-preserved c =
    let text = c.args.text.now in
    let from = c.loop-line.from in
    let to = c.in-Some.line.to in
    let line = c.in-Some.ensures.line in
    let within = c.in-Some.ensures.within in
    let s : c.in_ok-statement.statement ≡ statement_of c.loop-line.number (take (to - from) (drop from text)) =
    rw (line.0, line.1) at c.in_ok-statement.ensures in
    let feeds = c.line_feeds-number.ensures.value in
    record {
      within = within.1;
      numbered = omega (arith, c.line_feeds-number.ensures.within, length-take (to - from) (drop from text), within.0, c.loop-line.invariant.numbered);
      found = rw feeds (line_more text from to c.loop-line.number c.loop-line.found.items c.add_statement.new.found.items (statements_of text) within.0 within.1 line.2
          c.loop-line.invariant.found (rw s at c.in_ok-add_statement.ensures));
    }
