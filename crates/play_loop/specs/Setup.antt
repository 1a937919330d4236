-- What is played, and the texts of a play of it.
use Rattle.std.specs.Prelude.{◌<◌, ◌≤◌, ℕ, List}
use Rattle.altq_model.specs.declared.Placed.{Placed}
use Rattle.altq_model.specs.Arrivals.{Captured, arrivals_of}
use Rattle.altq_model.specs.Departures.{Dressing, departures}
use Rattle.altq_model.specs.History.{LabelledEvent, journal}
use Rattle.altq_model.specs.Lawful.{IsLawful, IsOneOf, IsSteady}
use Rattle.altq_model.specs.Play.{Policy}
use Rattle.discipline.specs.Laws.{AreDistinct}
use Rattle.play_text.specs.Texts.{fates}
use Rattle.capture_model.specs.Capture.{Record}
use Rattle.play_text.specs.Names.{HasClass, NameList, name_of}
use Rattle.play_text.specs.Statistics.{statistics}

-- an interface and a seed: the policy of its queues, where each frame is placed, the bytes with which each leaves, its classes and
-- their names, the rate of its link in bits per second, and the seed of the words
pub record Setup : Type 0 where
  pub policy : Policy
  pub place : List ℕ → Placed
  pub dress : Dressing
  pub names : NameList
  pub rate : ℕ
  pub seed : ℕ

abbrev pub setup_of : Policy → (List ℕ → Placed) → Dressing → NameList → (rate seed : ℕ) → Setup
setup_of policy place dress names rate seed =
    record { policy = policy; place = place; dress = dress; names = names; rate = rate; seed = seed }

-- the arrivals of a capture's records
abbrev pub arrivals_in : Setup → List Record → List Captured
arrivals_in x records = arrivals_of x.place records

-- the departures, the fates and the statistics of a history of these arrivals
abbrev pub departures_of : Setup → List Captured → List LabelledEvent → List ℕ
departures_of x arrived g = departures x.dress arrived g

abbrev pub fates_of : Setup → List Captured → List LabelledEvent → List ℕ
fates_of x arrived g = fates (name_of x.names) arrived (journal g)

abbrev pub statistics_of : Setup → List Captured → List LabelledEvent → List ℕ
statistics_of x arrived g = statistics x.names arrived (journal g)

-- what a discipline, a link and a classifier promise of a setup: each frame is placed in a class of the policy that has a name
pub record IsSound (x : Setup) : Type 0 where
  pub positive : 0 < x.rate
  pub lawful : IsLawful x.policy
  pub steady : IsSteady x.policy
  pub distinct : AreDistinct x.policy.classes
  pub held : (frame : List ℕ) → IsOneOf (x.place frame).class x.policy.classes
  pub precs : (frame : List ℕ) → (x.place frame).prec ≤ 2
  pub named : (frame : List ℕ) → HasClass x.names (x.place frame).class
