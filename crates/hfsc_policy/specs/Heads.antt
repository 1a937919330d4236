-- What is known of the packets of a history.
use Rattle.std.specs.Prelude.{◌≤◌, ◌+◌, ℕ, List, [], ◌∷◌}
use Rattle.play_base.specs.Units.{units}
use Rattle.altq_model.specs.History.{Arrival}
pub use Rattle.discipline.specs.Moments.{IsSized, longest}
use Rattle.hfsc_model.specs.Event.{HfscHistory, Enqueued, Sent}
use Rattle.hfsc_model.specs.Leaf.{leaf}
use Rattle.hfsc_model.specs.Timely.{IsHead}

-- no packet that arrives is empty or longer than the longest
abbrev pub AreSized : List Arrival → Type 0
AreSized [] = Unit {0}
AreSized (a ∷ rest) = IsSized a.len × AreSized rest

-- no packet that was kept is empty or too long, and each sending is of the head of its class and has its length
abbrev pub AreHeads : HfscHistory → Type 0
AreHeads [] = Unit {0}
AreHeads (Enqueued c at len ∷ h) = IsSized len × AreHeads h
AreHeads (Sent c len real start ∷ h) = IsHead (leaf h c).waiting len × AreHeads h

-- the packets kept, the packets sent, and the units sent
abbrev pub kept_in : HfscHistory → ℕ
kept_in [] = 0
kept_in (Enqueued c at len ∷ h) = kept_in h + 1
kept_in (Sent c len real start ∷ h) = kept_in h

abbrev pub sent_in : HfscHistory → ℕ
sent_in [] = 0
sent_in (Enqueued c at len ∷ h) = sent_in h
sent_in (Sent c len real start ∷ h) = sent_in h + 1

abbrev pub units_in : HfscHistory → ℕ
units_in [] = 0
units_in (Enqueued c at len ∷ h) = units_in h
units_in (Sent c len real start ∷ h) = units_in h + units len

abbrev pub AreWithin : HfscHistory → Type 0
AreWithin [] = Unit {0}
AreWithin (Enqueued c at len ∷ h) = (len ≤ longest) × AreWithin h
AreWithin (Sent c len real start ∷ h) = (len ≤ longest) × AreWithin h

-- at most 4,000,000 packets were kept, none longer than the longest, and no more sent
pub record AreFew (h : HfscHistory) : Type 0 where
  pub kept : kept_in h ≤ 4000000
  pub sent : sent_in h ≤ kept_in h
  pub within : AreWithin h
