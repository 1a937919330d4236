use Rattle.std.proofs.Common.{◌∙◌, List, ap}
use Rattle.conf_lines.specs.declared.statement.Statement.{Statement}
use Rattle.conf_tree.specs.Reading.{reading}
use Rattle.conf_laws.proofs.laws.texts_read_back.Goals as goal

pub returns : goal.returns
returns c = λ text interfaces h.
    let fit = c.configurations_fit.ensures text interfaces h in
    ap (λ (s : List Statement). reading s) (c.text_has_its_statements.ensures interfaces fit) ∙ c.statements_are_read.ensures interfaces fit
