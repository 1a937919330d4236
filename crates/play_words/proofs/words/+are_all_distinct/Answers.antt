use Rattle.std.proofs.Common.{◌∙◌, ◌&&◌, ap, sym}
use Rattle.std.specs.Prelude.{not}
use Rattle.play_words.proofs.TextLemmas.{first_again, first_apart}
use Rattle.play_words.proofs.words.+are_all_distinct.Goals as goal

pub returns-then-not-contains : goal.returns-then-not-contains
returns-then-not-contains t c =
    sym (ap (λ b. not b && c.are_all_distinct.result) c.if-not-contains.true)
    ∙ first_apart c.args.names.now _ c.contains.result c.are_all_distinct.result (sym c.is_empty.ensures ∙ c.if-is_empty.false)
    c.contains.ensures.value c.are_all_distinct.ensures

pub returns-else-not-contains : goal.returns-else-not-contains
returns-else-not-contains t c =
    ap not c.if-not-contains.false
    ∙ first_again c.args.names.now _ c.contains.result (sym c.is_empty.ensures ∙ c.if-is_empty.false) c.contains.ensures.value c.if-not-contains.false
