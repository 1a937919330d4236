use Rattle.std.proofs.Common.{arith}
use Rattle.journal_laws.proofs.rows.worked_journals.Goals as goal

pub returns-clause-last_is_missing : goal.returns-clause-last_is_missing
returns-clause-last_is_missing c = λ x. omega (arith, x 3)

pub returns-clause-second_twice : goal.returns-clause-second_twice
returns-clause-second_twice c = λ x. omega (arith, x 2)
