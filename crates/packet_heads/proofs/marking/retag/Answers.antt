use Rattle.std.proofs.Common.{◌≡◌, ◌≤◌, ◌+◌, ℕ, List, length, arith, IsTrue}
use Rattle.std.proofs.lemmas.Bool.Decides.{nat_tests}
use Rattle.packet_heads.specs.Flow.{packet_place, has_bytes}
use Rattle.packet_heads.proofs.Frames.{whole_4, whole_6}
use Rattle.packet_heads.proofs.Retagging.{has_it_already, has_it_4, has_it_6}
use Rattle.packet_heads.proofs.marking.retag.Goals as goal

enough : (count place found : ℕ) (bytes : List ℕ) → found ≡ place → place + count ≤ length bytes → IsTrue (has_bytes count bytes found)
enough count place found bytes e h = grind (arith, nat_tests)

pub retag_4-requires-clause-head : goal.retag_4-requires-clause-head
retag_4-requires-clause-head c =
    enough 20 (packet_place c.args.frame.now) c.packet_place-place.result c.args.frame.now c.packet_place-place.ensures.value
    (whole_4 c.args.frame.now _ c.in-V4.ensures.value)

pub retag_6-requires-clause-head : goal.retag_6-requires-clause-head
retag_6-requires-clause-head c =
    enough 40 (packet_place c.args.frame.now) c.packet_place-place.result c.args.frame.now c.packet_place-place.ensures.value
    (whole_6 c.args.frame.now _ c.in-V6.ensures.value)

pub returns-else-old-tos-clause-value : goal.returns-else-old-tos-clause-value
returns-else-old-tos-clause-value c =
    has_it_already _ c.args.frame.now c.args.tos c.in-V4.ensures.value (has_it_4 _ c.args.tos c.if-old-tos.false)

pub returns-else-old-tos-2-clause-value : goal.returns-else-old-tos-2-clause-value
returns-else-old-tos-2-clause-value c =
    has_it_already _ c.args.frame.now c.args.tos c.in-V6.ensures.value (has_it_6 _ c.args.tos c.if-old-tos-2.false)
