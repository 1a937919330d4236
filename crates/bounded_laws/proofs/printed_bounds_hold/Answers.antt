use Rattle.bounded_laws.proofs.Holding.{bound_holds, line_stands}
use Rattle.bounded_laws.proofs.printed_bounds_hold.Goals as goal

pub returns : goal.returns
returns c =
    record { lines = line_stands; plays = bound_holds c.configurations_fit.ensures c.interfaces_keep_their_promises.ensures.lawful }
