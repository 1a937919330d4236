use Rattle.traffic_meter.proofs.Green as green
use Rattle.traffic_meter.proofs.laws.all_are_green_where_all_conform.Goals as goal

pub returns : goal.returns
returns c = green.where_conforming
