-- The addresses are parts of the packet, and that is a part of the frame.
use Rattle.packet_heads.proofs.Addresses.{addresses_of}
use Rattle.packet_heads.proofs.heads.flow_behind_tags.Goals as goal

pub returns-clause-parts : goal.returns-clause-parts
returns-clause-parts c = addresses_of c.args.frame.now c.two_at.result c.type_place-place.result _ c.type_place-place.ensures.value c.flow_by_type.ensures
