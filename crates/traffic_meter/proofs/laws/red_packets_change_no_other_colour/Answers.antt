use Rattle.traffic_meter.proofs.Red as red
use Rattle.traffic_meter.proofs.laws.red_packets_change_no_other_colour.Goals as goal

pub returns : goal.returns
returns c = red.changes_none
