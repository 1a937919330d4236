use Rattle.std.proofs.Common.{◌≡◌, ◌+◌, ◌-◌, [], false, get_or, take, drop, sym, ◌∙◌, arith}
use Rattle.std.proofs.lemmas.List.{take_rest, length-drop}
use Rattle.line_text.specs.Lines.{joined, ends}
use Rattle.line_text.specs.Words.{parts_of}
use Rattle.line_text.proofs.Splitting.{front_byte, front_blank, plain_more, span_more, joined-past, joined-stop, byte_kept, blank_kept, end_kept}
use Rattle.line_text.proofs.word.split.Goals as goal
use Rattle.line_text.proofs.word.split.Goals.{then-loop-at-test+else-not-ends_line, else-loop-at-test}

pub loop-at-preserved-then-blank-eq0 : goal.loop-at-preserved-then-blank-eq0
loop-at-preserved-then-blank-eq0 c =
    let line = c.args.line.now in
    let at = c.loop-at.at in
    let on : ends (get_or line at 0) ≡ false = sym c.ends_line.ensures ∙ c.if-not-ends_line.true in
    let value = rw (take_rest line at) at c.blank_len-blank.ensures.value in
    let f = front_byte line at c.blank_len-blank.result c.loop-at-test.true on value c.if-blank-eq0.true in
    let more = span_more line c.loop-at.start at c.loop-at.invariant.order c.loop-at-test.true in
    record {
      order = omega arith;
      within = omega arith;
      plain = rw more (plain_more _ _ c.loop-at.invariant.plain f.1);
      words = rw more (byte_kept (parts_of c.loop-at.found.items) _ (take (at - c.loop-at.start) (drop c.loop-at.start line)) _ _ _ c.loop-at.invariant.words f.2);
      counted = c.loop-at.invariant.counted;
    }

pub loop-at-preserved : goal.loop-at-preserved
loop-at-preserved c =
    let line = c.args.line.now in
    let at = c.loop-at.at in
    let on : ends (get_or line at 0) ≡ false = sym c.ends_line.ensures ∙ c.if-not-ends_line.true in
    let value = rw (take_rest line at) at c.blank_len-blank.ensures.value in
    let within = rw (take_rest line at) at c.blank_len-blank.ensures.within in
    let f = front_blank line at c.blank_len-blank.result c.loop-at-test.true on value c.if-blank-eq0.false in
    let none : at + c.blank_len-blank.result - (at + c.blank_len-blank.result) ≡ 0 = omega arith in
    record {
      order = omega arith;
      within = omega (arith, length-drop at line);
      plain = rw none tt;
      words = rw none (blank_kept (parts_of c.loop-at.found.items) _ _ (take (at - c.loop-at.start) (drop c.loop-at.start line)) _ _ f.1 c.loop-at.invariant.words f.3 c.loop-at.invariant.plain f.2 c.in_ok-add_word.ensures.words);
      counted = c.in_ok-add_word.ensures.indexes c.loop-at.invariant.counted;
    }

pub returns-clause-words : goal.returns-clause-words
returns-clause-words c =
    let line = c.args.line.now in
    let at = c.loop-at.at in
    let last : joined (drop at line) ≡ [] = elim c.loop-at-test.branch [
      | then-loop-at-test+else-not-ends_line w ↦ joined-stop line at w.loop-at-test.true (sym w.ends_line.ensures ∙ w.if-not-ends_line.false)
      | else-loop-at-test w ↦ joined-past line at w.loop-at-test.false
    ] in
    end_kept (parts_of c.loop-at.found.items) _ _ (take (at - c.loop-at.start) (drop c.loop-at.start line)) _ c.loop-at.invariant.words last c.loop-at.invariant.plain c.in_ok-add_word-2.ensures.words
