use Rattle.hfsc_order.proofs.Picks.{picks}
use Rattle.hfsc_order.proofs.share_picks_have_the_least_virtual_times.Goals as goal

pub returns : goal.returns
returns c = picks
