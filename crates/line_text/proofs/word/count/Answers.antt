use Rattle.std.proofs.Common.{◌≡◌, ◌+◌, ◌-◌, ◌≤◌, [], ℕ, false, cond, nat_lt, get_or, length, take, drop, sym, ◌∙◌, arith}
use Rattle.std.proofs.lemmas.List.{take_rest, length-drop}
use Rattle.std.proofs.lemmas.Bool.Decides.{nat_tests}
use Rattle.line_text.specs.Lines.{joined, ends}
use Rattle.line_text.specs.Words.{word_list}
use Rattle.line_text.proofs.Splitting.{front_byte, front_blank, plain_more, span_more, span_words, joined-past, joined-stop, count_byte_kept, count_blank_kept, count_end_kept}
use Rattle.line_text.proofs.word.count.Goals as goal
use Rattle.line_text.proofs.word.count.Goals.{then-loop-at-test+else-not-ends_line, else-loop-at-test}

at_most : (found start at : ℕ) → found ≤ start → start ≤ at → found + cond (nat_lt start at) 1 0 ≤ at
at_most found start at few order = grind (arith, nat_tests)

pub loop-at-preserved-then-blank-eq0 : goal.loop-at-preserved-then-blank-eq0
loop-at-preserved-then-blank-eq0 c =
    let line = c.args.line.now in
    let at = c.loop-at.at in
    let on : ends (get_or line at 0) ≡ false = sym c.ends_line.ensures ∙ c.if-not-ends_line.true in
    let value = rw (take_rest line at) at c.blank_len-blank.ensures.value in
    let f = front_byte line at c.blank_len-blank.result c.loop-at-test.true on value c.if-blank-eq0.true in
    let more = span_more line c.loop-at.start at c.loop-at.invariant.order c.loop-at-test.true in
    record {
      order = omega arith;
      within = omega arith;
      plain = rw more (plain_more _ _ c.loop-at.invariant.plain f.1);
      words = rw more (count_byte_kept c.loop-at.found _ (take (at - c.loop-at.start) (drop c.loop-at.start line)) _ _ _ c.loop-at.invariant.words f.2);
      few = omega arith;
    }

pub loop-at-preserved : goal.loop-at-preserved
loop-at-preserved c =
    let line = c.args.line.now in
    let at = c.loop-at.at in
    let on : ends (get_or line at 0) ≡ false = sym c.ends_line.ensures ∙ c.if-not-ends_line.true in
    let value = rw (take_rest line at) at c.blank_len-blank.ensures.value in
    let within = rw (take_rest line at) at c.blank_len-blank.ensures.within in
    let f = front_blank line at c.blank_len-blank.result c.loop-at-test.true on value c.if-blank-eq0.false in
    let span = take (at - c.loop-at.start) (drop c.loop-at.start line) in
    let none : at + c.blank_len-blank.result - (at + c.blank_len-blank.result) ≡ 0 = omega arith in
    let words = span_words line c.loop-at.start at c.loop-at.invariant.order c.loop-at.invariant.within in
    let one : c.one_if-found.result ≡ length (word_list span) = c.one_if-found.ensures ∙ sym words in
    let most : c.loop-at.found + c.one_if-found.result ≤ at = rw c.one_if-found.ensures (at_most c.loop-at.found c.loop-at.start at c.loop-at.invariant.few c.loop-at.invariant.order) in
    record {
      order = omega arith;
      within = omega (arith, length-drop at line);
      plain = rw none tt;
      words = rw (none, one) (count_blank_kept c.loop-at.found _ span _ _ f.1 c.loop-at.invariant.words f.3 c.loop-at.invariant.plain f.2);
      few = omega (arith, f.0);
    }

pub returns-clause-value : goal.returns-clause-value
returns-clause-value c =
    let line = c.args.line.now in
    let at = c.loop-at.at in
    let last : joined (drop at line) ≡ [] = elim c.loop-at-test.branch [
      | then-loop-at-test+else-not-ends_line w ↦ joined-stop line at w.loop-at-test.true (sym w.ends_line.ensures ∙ w.if-not-ends_line.false)
      | else-loop-at-test w ↦ joined-past line at w.loop-at-test.false
    ] in
    let span = take (at - c.loop-at.start) (drop c.loop-at.start line) in
    let words = span_words line c.loop-at.start at c.loop-at.invariant.order c.loop-at.invariant.within in
    let one : c.one_if.result ≡ length (word_list span) = c.one_if.ensures ∙ sym words in
    rw one (count_end_kept c.loop-at.found _ span _ c.loop-at.invariant.words last c.loop-at.invariant.plain)

pub returns-clause-within : goal.returns-clause-within
returns-clause-within c =
    let most : c.loop-at.found + c.one_if.result ≤ c.loop-at.at = rw c.one_if.ensures (at_most c.loop-at.found c.loop-at.start c.loop-at.at c.loop-at.invariant.few c.loop-at.invariant.order) in
    omega arith
