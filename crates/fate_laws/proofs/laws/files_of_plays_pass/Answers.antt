use Rattle.fate_laws.proofs.Departing.{departures_pass}
use Rattle.fate_laws.proofs.Passing.{busy_passes, passes_all}
use Rattle.fate_laws.proofs.Timing.{timely_passes}
use Rattle.fate_laws.proofs.laws.files_of_plays_pass.Goals as goal

pub returns : goal.returns
returns c = record { rows = passes_all; busy = busy_passes; departures = departures_pass; timely = timely_passes }
