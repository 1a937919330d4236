use Rattle.conf_tree.specs.Canonical.{canonical_lines}
use Rattle.conf_laws.proofs.CanonicalLines.{lines_are_legible}
use Rattle.conf_laws.proofs.Lines.{has_statements}
use Rattle.conf_laws.proofs.laws.text_has_its_statements.Goals as goal

pub returns : goal.returns
returns c = λ interfaces fit. has_statements (canonical_lines interfaces) (lines_are_legible interfaces fit)
