-- What a discipline and the clock of its link stand for, once packets were offered and sent.
use Rattle.std.specs.Prelude.{◌≡◌, ◌≤◌, ℕ, List}
use Rattle.altq_model.specs.History.{LabelledEvent, unlabelled, offered}
use Rattle.altq_model.specs.Lawful.{latest}
use Rattle.altq_model.specs.Link.{link}
use Rattle.discipline.specs.Moments.{StartsBefore, StartsBy}
use Rattle.link_clock.specs.Clock.{Clock}

-- a history of at most `most` offers, in which nothing came after `by` and nothing started at `before` or later; the clock is the
-- link's after it
pub record IsAt (stood : List LabelledEvent → Type 0) (clock : Clock) (most by before : ℕ) : Type 0 where
  pub told : List LabelledEvent
  pub stands : stood told
  pub link_is : link clock.rate (unlabelled told) ≡ clock.link
  pub few : offered (unlabelled told) ≤ most
  pub arrived : latest (unlabelled told) ≤ by
  pub started : StartsBy by (unlabelled told)
  pub earlier : StartsBefore before (unlabelled told)
