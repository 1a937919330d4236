-- A frame that is not tagged holds its packet from the fifteenth byte on.
use Rattle.std.proofs.Common.{◌∙◌, sym}
use Rattle.packet_heads.proofs.Addresses.{IsUntagged, untagged_addresses, untagged_flow}
use Rattle.packet_heads.proofs.heads.flow.Goals as goal

untagged : (c : goal.After-flow_4) → IsUntagged c.args.frame.now
untagged c = record { long = sym c.if-has_bytes.ensures; type = sym c.two_at.ensures ∙ c.if-two_at-eq-IPV4.true }

pub returns-then-two_at-eq-IPV4-clause-value : goal.returns-then-two_at-eq-IPV4-clause-value
returns-then-two_at-eq-IPV4-clause-value c = c.flow_4.ensures ∙ untagged_flow c.args.frame.now (untagged c)

pub returns-then-two_at-eq-IPV4-clause-parts : goal.returns-then-two_at-eq-IPV4-clause-parts
returns-then-two_at-eq-IPV4-clause-parts c = untagged_addresses c.args.frame.now _ (untagged c) c.flow_4.ensures
