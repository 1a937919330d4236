use Rattle.packet_heads.specs.Flow.{flow}
use Rattle.flow_filter.proofs.Everywhere.{control_matches}
use Rattle.flow_filter.proofs.Frames.{whole_addresses}
use Rattle.flow_filter.proofs.laws.control_takes_its_protocols.Goals as goal

pub returns : goal.returns
returns c = λ class frame all. control_matches class (flow frame) (whole_addresses frame all)
