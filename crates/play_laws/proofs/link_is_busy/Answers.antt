use Rattle.play_laws.proofs.BusyLemmas.{is_busy}
use Rattle.play_laws.proofs.link_is_busy.Goals as goal

pub returns : goal.returns
returns c = record { busy = is_busy }
