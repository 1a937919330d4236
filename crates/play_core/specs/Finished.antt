-- A play that ended, and one that was cut off, with all that holds of them.
use Rattle.std.specs.Prelude.{ℕ, List, [], ◌∷◌}
use Rattle.altq_model.specs.Arrivals.{Captured, bare_arrivals}
use Rattle.altq_model.specs.Busy.{IsBusy}
use Rattle.altq_model.specs.History.{Event, Offered, Sent, LabelledEvent, unlabelled}
use Rattle.altq_model.specs.Laws.{KeepsLaws, IsInTime}
use Rattle.altq_model.specs.Play.{Policy, IsPlay}
use Rattle.play_laws.specs.Events.{EachFollows, HasLaws, IsWhole}
use Rattle.play_core.specs.declared.totals.Totals.{Totals}
use Rattle.play_core.specs.Ended.{IsCutOff}
use Rattle.play_core.specs.Totals.{AreTotals}

-- the newest event is an offer, or there is none
abbrev pub WasOffered : Event → Type 0
WasOffered (Offered a w v) = Unit {0}
WasOffered (Sent s) = ⊥

abbrev pub EndsWithOffer : List LabelledEvent → Type 0
EndsWithOffer [] = Unit {0}
EndsWithOffer (e ∷ g) = WasOffered e.what

-- the whole play of these arrivals: each has one fate, each class departs in order, no packet starts before it arrives, each end is
-- that of its run, each event is the one that the policy makes due, each start the least moment at which one may be, each sending ends
-- before the clock does; every arrival was offered, nothing waits, and these are the counts
pub record IsFinished (p : Policy) (rate seed : ℕ) (arrived : List Captured) (g : List LabelledEvent) (t : Totals) : Type 0 where
  pub play : IsPlay p rate seed (bare_arrivals arrived) g
  pub in_time : IsInTime g
  pub laws : KeepsLaws rate (bare_arrivals arrived) g
  pub whole : IsWhole (bare_arrivals arrived) g
  pub each : EachFollows p rate seed (bare_arrivals arrived) g
  pub busy : IsBusy p rate (unlabelled g)
  pub totals : AreTotals rate g t

-- the events of the play before a sending that would end too late, with what holds of the first events of a play
pub record IsStopped (p : Policy) (rate seed : ℕ) (arrived : List Captured) (g : List LabelledEvent) (t : Totals) : Type 0 where
  pub cut : IsCutOff p rate seed (bare_arrivals arrived) g
  pub laws : HasLaws p rate seed (bare_arrivals arrived) g
  pub busy : IsBusy p rate (unlabelled g)
  pub totals : AreTotals rate g t
