use Rattle.packet_heads.proofs.Retagging.{are_bytes, retagged_differs, departing_differs}
use Rattle.packet_heads.proofs.laws.tos_alone_changes.Goals as goal

pub returns-clause-retagged : goal.returns-clause-retagged
returns-clause-retagged c = λ frame tos all h. retagged_differs frame tos (are_bytes frame all) h

pub returns-clause-departing : goal.returns-clause-departing
returns-clause-departing c = λ clear marked frame all. departing_differs clear marked frame (are_bytes frame all)
