use Rattle.conf_lines.specs.Texts.{statements_of}
use Rattle.conf_laws.proofs.FitStatements.{configuration_fit}
use Rattle.conf_laws.proofs.laws.configurations_fit.Goals as goal

pub returns : goal.returns
returns c = λ text interfaces h. configuration_fit (statements_of text) interfaces (c.items_are_sound.ensures text) h
