-- How `play` ends: what done means, when each failure of its own comes, what must come, and what it leaves beside its files.
use Rattle.std.specs.Prelude.{◌≡◌, ℕ, Some, IsTrue}
use Rattle.play_base.specs.View.{View}
use Rattle.run_inputs.specs.Says.{AreReady, Given, Inputs}
use Rattle.run_outcomes.specs.Outcome.{Outcome}
use Rattle.run_outcomes.specs.declared.outcome.Done.{Done}
use Rattle.run_outcomes.specs.declared.outcome.Done.TheVariants as done
use Rattle.run_outcomes.specs.declared.outcome.Failure.{Failure}
use Rattle.run_outcomes.specs.declared.outcome.Link.TheVariants as link
use Rattle.command_form.specs.Ends.{CommandEnds}
use Rattle.command_form.specs.Given.{IsGiven, OfGiven}
use Rattle.command_form.specs.Names.{Names}
use Rattle.interface_play.specs.Expected.{PlayExpects}
use Rattle.interface_play.specs.Failing.{FailsAs}
use Rattle.interface_play.specs.Fronts.{Fronts}
use Rattle.interface_play.specs.Source.{Source}
use Rattle.play_command.specs.Headline.{HasPlayed, play_command, sole_of, source_by}

-- where the files tell: P holds of what the inputs give to play
abbrev pub OfPlayed : View → Names → (Source → Type 0) → Type 0
OfPlayed old n P = OfGiven old (play_command n).asked (λ i g. P (source_by i g))

abbrev pub PlayDone : View → View → Names → (seed : ℕ) → Done → Type 0
PlayDone old new n seed done.Done = (IsTrue old.tells → HasPlayed old new n seed) × (new.said ≡ old.said)
PlayDone old new n seed other = ⊥

abbrev pub PlayOwn : View → View → Names → (seed : ℕ) → Failure → Type 0
PlayOwn old new n seed f = FailsAs (OfPlayed old n) link.Sole (sole_of n) seed old new f

abbrev pub PlayExpected : View → Names → (seed : ℕ) → Outcome → Type 0
PlayExpected old n seed p = IsGiven old (play_command n).asked (λ i g. PlayExpects seed (source_by i g) link.Sole p)

-- the outputs hold fronts of the texts of the play
abbrev pub PlayLeaves : View → View → Names → (seed : ℕ) → Type 0
PlayLeaves old new n seed = IsTrue old.tells → (i : Inputs) (g : Given) → AreReady old (play_command n).asked i → i.given ≡ Some g
    → Fronts old new (sole_of n) seed (source_by i.configured.found g)

-- A PLAY ENDS SO, whatever comes of it
abbrev pub PlayEnds : View → View → Names → (seed : ℕ) → Outcome → Type 0
PlayEnds old new n seed o =
    CommandEnds (play_command n) (PlayDone old new n seed) (PlayOwn old new n seed) (PlayExpected old n seed) (PlayLeaves old new n seed) old new o
