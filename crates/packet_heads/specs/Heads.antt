-- What contracts see of a `FlowHeads`: the flow that it names, each address as its bytes.
use Rattle.packet_heads.specs.declared.heads.FlowHeads.{FlowHeads}
use Rattle.packet_heads.specs.declared.heads.FlowHeads.TheVariants.{V4, V6, Other}
use Rattle.packet_heads.specs.Flow as flow

abbrev pub flow_of : FlowHeads → flow.Flow
flow_of (V4 tos protocol source target ports) =
    flow.V4 (record { tos = tos; protocol = protocol; source = source.now; target = target.now; ports = ports })
flow_of (V6 tos protocol source target ports) =
    flow.V6 (record { tos = tos; protocol = protocol; source = source.now; target = target.now; ports = ports })
flow_of Other = flow.Other
