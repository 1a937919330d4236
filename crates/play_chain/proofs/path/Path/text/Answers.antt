use Rattle.std.proofs.Common.{◌∙◌, ◌++◌, List, length, ap}
use Rattle.play_chain.specs.declared.firsts.First.{First}
use Rattle.play_chain.specs.declared.seconds.Second.{Second}
use Rattle.play_chain.specs.Tables.{in_tables}
use Rattle.play_chain.specs.Text.{path_header, rows_below}
use Rattle.play_chain.proofs.TextLemmas.{text_is}
use Rattle.play_chain.proofs.path.Path.text.Goals as goal

pub returns-clause-paths : goal.returns-clause-paths
returns-clause-paths c = λ first second s.
    let t = c.args.self.now.firsts in
    c.in_ok-text.ensures
    ∙ ap (λ (rows : List First). path_header ++ rows_below (length rows) (in_tables rows c.deref-2.result.now)) c.deref.ensures.value
    ∙ ap (λ (rows : List Second). path_header ++ rows_below (length t.rows.items) (in_tables t.rows.items rows)) c.deref-2.ensures.value
    ∙ text_is t c.args.self.now.seconds first second s.table s.firsts.within
