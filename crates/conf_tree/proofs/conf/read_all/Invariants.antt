use Rattle.std.proofs.Common.{◌≡◌, drop}
use Rattle.conf_tree.specs.Reading.{reading_from}
use Rattle.conf_tree.proofs.conf.read_all.Given as goal

abbrev pub invariant-loop-statement : goal.invariant-loop-statement
invariant-loop-statement l = reading_from l.tree (drop l.statement-index l.statements) ≡ reading_from l.fn.tree l.statements
