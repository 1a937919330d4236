use Rattle.rio_precedence.proofs.Nearness.{near_red, near_rio}
use Rattle.rio_precedence.proofs.drop_laws.averages_are_near_the_exact_ones.Goals as goal

pub returns : goal.returns
returns c = record { red = near_red; rio = near_rio }
