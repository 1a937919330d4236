-- How `chain` ends: what done means, when each failure of its own comes, what must come, and what it leaves beside its files.
use Rattle.std.specs.Prelude.{◌≡◌, ◌⊎◌, ℕ, List, Ok, Err, IsTrue}
use Rattle.altq_model.specs.Arrivals.{bare_arrivals}
use Rattle.altq_model.specs.History.{LabelledEvent}
use Rattle.altq_model.specs.Play.{IsPlay}
use Rattle.capture_model.specs.Capture.{End}
use Rattle.conf_tree.specs.declared.interface.Interface.{Interface}
use Rattle.file_plans.specs.declared.part.Part.TheVariants as part
use Rattle.file_plans.specs.End.{Untouched}
use Rattle.file_plans.specs.Parts.{part_number}
use Rattle.file_plans.specs.Plan.{written_place}
use Rattle.play_base.specs.View.{View}
use Rattle.play_loop.specs.Setup.{arrivals_in, departures_of}
use Rattle.run_inputs.specs.Says.{Given}
use Rattle.run_outcomes.specs.Faults.{ReadFailed, WriteFailed}
use Rattle.run_outcomes.specs.Outcome.{Outcome}
use Rattle.run_outcomes.specs.declared.outcome.CaptureStop.TheVariants as capture
use Rattle.run_outcomes.specs.declared.outcome.Done.{Done}
use Rattle.run_outcomes.specs.declared.outcome.Done.TheVariants as done
use Rattle.run_outcomes.specs.declared.outcome.Failure.{Failure}
use Rattle.run_outcomes.specs.declared.outcome.Failure.TheVariants as failure
use Rattle.run_outcomes.specs.declared.outcome.Link.TheVariants as link
use Rattle.command_form.specs.Ends.{CommandEnds}
use Rattle.command_form.specs.Form.{Within}
use Rattle.command_form.specs.Names.{Links}
use Rattle.interface_play.specs.Expected.{EndsLate, EndsWith, PlayExpects}
use Rattle.interface_play.specs.Failing.{FailsAs}
use Rattle.interface_play.specs.Fronts.{Fronts, IsFrontAt}
use Rattle.interface_play.specs.Played.{WasPlayed}
use Rattle.interface_play.specs.Setup.{setup_of}
use Rattle.interface_play.specs.Source.{Source}
use Rattle.play_command.specs.Headline.{sole_of, source_by}
use Rattle.chain_command.specs.Chained.{ArePlayed, HasChained, paths_of, sent_by}
use Rattle.chain_command.specs.Names.{IsGivenTwo, chain_command, seconds_of, sent_source}

-- where the files tell: P holds of what the first link plays
abbrev pub OfFirst : View → Links → (Source → Type 0) → Type 0
OfFirst old n P = IsTrue old.tells → IsGivenTwo old n (λ i j g. P (source_by i g))

-- where the files tell: the first play is whole, and P holds of what it sent
abbrev pub OfSecond : View → View → Links → (seed : ℕ) → (Source → Type 0) → Type 0
OfSecond old new n seed P = IsTrue old.tells
    → IsGivenTwo old n (λ i j g. (h : WasPlayed new (sole_of n.first) seed (source_by i g)) × P (sent_source j (sent_by h)))

abbrev pub ChainDone : View → View → Links → (seed : ℕ) → Done → Type 0
ChainDone old new n seed done.Done = (IsTrue old.tells → IsGivenTwo old n (HasChained new n seed)) × (new.said ≡ old.said)
ChainDone old new n seed other = ⊥

-- the opening of what the first link sent fails
abbrev pub FailsOpening : View → View → Links → (seed : ℕ) → Failure → Type 0
FailsOpening old new n seed f =
    (f ≡ failure.Read part.Departures) × ReadFailed old new (part_number part.Departures) × OfSecond old new n seed (λ s. Unit {0})

-- the paths cannot be written, behind both plays
abbrev pub FailsPath : View → View → Links → (seed : ℕ) → Failure → Type 0
FailsPath old new n seed f = (f ≡ failure.Write part.Path) × WriteFailed old new (part_number part.Path)
    × (IsTrue old.tells → IsGivenTwo old n (ArePlayed new n seed))

-- what ends a chain behind its inputs: the first play, the opening of what that sent, the second play, the paths
abbrev pub ChainOwn : View → View → Links → (seed : ℕ) → Failure → Type 0
ChainOwn old new n seed f =
    (Within 5 (chain_command n) old new × FailsAs (OfFirst old n) link.First (sole_of n.first) seed old new f)
    ⊎ (Within 5 (chain_command n) old new × FailsOpening old new n seed f)
    ⊎ (Within 9 (chain_command n) old new × FailsAs (OfSecond old new n seed) link.Second (seconds_of n) seed old new f)
    ⊎ FailsPath old new n seed f

-- the first play of what is given is whole, and P holds of what it sends
pub record PassesOn (seed : ℕ) (i j : Interface) (g : Given) (P : Source → Type 0) : Type 0 where
  pub first : EndsWith seed (source_by i g) End
  pub history : List LabelledEvent
  pub play : IsPlay (setup_of i seed).policy i.rate seed (bare_arrivals (arrivals_in (setup_of i seed) first.records)) history
  pub next : P (sent_source j (departures_of (setup_of i seed) (arrivals_in (setup_of i seed) first.records) history))

-- what must come of two plays
abbrev pub TwoExpect : (seed : ℕ) → Outcome → Interface → Interface → Given → Type 0
TwoExpect seed (Ok done.Done) i j g = PassesOn seed i j g (λ s. EndsWith seed s End)
TwoExpect seed (Ok other) i j g = ⊥
TwoExpect seed (Err (failure.Capture link.Second capture.Late)) i j g = PassesOn seed i j g (EndsLate seed)
TwoExpect seed (Err f) i j g = PlayExpects seed (source_by i g) link.First (Err f)

abbrev pub ChainExpected : View → Links → (seed : ℕ) → Outcome → Type 0
ChainExpected old n seed p = IsGivenTwo old n (TwoExpect seed p)

-- both plays are whole, and the paths hold a front of their text
pub record HasPathFront (old new : View) (n : Links) (seed : ℕ) (i j : Interface) (g : Given) : Type 0 where
  pub played : ArePlayed new n seed i j g
  pub front : IsFrontAt old new (written_place part.Path n.path) (paths_of played)

pub record ChainLeaves (old new : View) (n : Links) (seed : ℕ) : Type 0 where
  -- the first link's outputs hold fronts of the texts of its play
  pub first : IsTrue old.tells → (x : IsGivenTwo old n (λ i j g. Unit {0})) → Fronts old new (sole_of n.first) seed
      (source_by x.inputs.configured.found x.given)
  -- no more came to be than for that play; or it is whole, and the second link's outputs hold fronts of the texts of the play of what it sent
  pub second : Within 5 (chain_command n) old new ⊎ OfSecond old new n seed (Fronts old new (seconds_of n) seed)
  -- the paths come behind both plays
  pub path : IsTrue old.tells → Untouched old new (part_number part.Path) ⊎ IsGivenTwo old n (HasPathFront old new n seed)

-- A CHAIN ENDS SO, whatever comes of it
abbrev pub ChainEnds : View → View → Links → (seed : ℕ) → Outcome → Type 0
ChainEnds old new n seed o =
    CommandEnds (chain_command n) (ChainDone old new n seed) (ChainOwn old new n seed) (ChainExpected old n seed) (ChainLeaves old new n seed) old new o
