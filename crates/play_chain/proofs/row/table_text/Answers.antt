-- The rows follow the head row.
use Rattle.std.proofs.Common.{◌∙◌, ◌++◌, ap, length, rules, List, ℕ}
use Rattle.play_chain.specs.Tables.{in_tables}
use Rattle.play_chain.proofs.TextLemmas.{from_head}
use Rattle.play_chain.proofs.row.table_text.Goals as goal

pub returns-in-Ok : goal.returns-in-Ok
returns-in-Ok c =
    from_head _ _ c.in-Ok.text.items (length c.args.firsts.now) (in_tables c.args.firsts.now c.args.seconds.now)
    (c.writer_over-writer.ensures.text ∙ c.in_ok-extend_from_slice.ensures.items
    ∙ ap (λ (bytes : List ℕ). bytes ++ c.path_header.result.now) c.new-text.ensures.items ∙ c.path_header.ensures)
    (search rules) c.in_ok-add_rows.ensures.text
