use Rattle.rio_precedence.proofs.Rules.{red_drops, ecn_tells, rio_drops}
use Rattle.rio_precedence.proofs.drop_laws.of_enough_packets_one_is_dropped.Goals as goal

pub returns : goal.returns
returns c = record { red = red_drops; ecn = ecn_tells; rio = rio_drops }
