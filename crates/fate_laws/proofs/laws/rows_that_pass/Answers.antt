use Rattle.fate_laws.proofs.Turns.{few, in_turn}
use Rattle.fate_laws.proofs.laws.rows_that_pass.Goals as goal

pub returns : goal.returns
returns c = record { in_turn = in_turn; few = few }
