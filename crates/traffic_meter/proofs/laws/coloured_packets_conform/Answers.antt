use Rattle.traffic_meter.proofs.Conforming as conforming
use Rattle.traffic_meter.proofs.laws.coloured_packets_conform.Goals as goal

pub returns-clause-green : goal.returns-clause-green
returns-clause-green c = conforming.green

pub returns-clause-passed : goal.returns-clause-passed
returns-clause-passed c = conforming.passed
