-- The ends by which packets are timely are those of a history.
use Rattle.std.proofs.Common.{◌<◌, ◌∙◌, ℕ, List, [], ◌∷◌}
use Rattle.altq_model.specs.History.{Event, Offered, Sent}
use Rattle.altq_model.specs.Link.{HasLinkEnds}
use Rattle.hfsc_policy.proofs.Timely.{link_is}
use Rattle.interface_policy.specs.Promises.{AreTheirEnds}

pub their_ends : (rate : ℕ) (h : List Event) → 0 < rate → HasLinkEnds rate h → AreTheirEnds rate h
their_ends rate [] some e = tt
their_ends rate (Offered a w v ∷ h) some e = their_ends rate h some e
their_ends rate (Sent s ∷ h) some e = (e.1 ∙ (link_is rate (Sent s ∷ h) some).free, their_ends rate h some e.2)
