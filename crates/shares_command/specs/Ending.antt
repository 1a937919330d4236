-- How `shares` ends: as a play does, but for what is said of it.
use Rattle.std.specs.Prelude.{ℕ, IsTrue}
use Rattle.file_plans.specs.Parts.{printed}
use Rattle.play_base.specs.View.{View}
use Rattle.run_outcomes.specs.Faults.{WriteFailed}
use Rattle.run_outcomes.specs.Outcome.{Outcome}
use Rattle.run_outcomes.specs.declared.outcome.Done.{Done}
use Rattle.run_outcomes.specs.declared.outcome.Done.TheVariants as done
use Rattle.run_outcomes.specs.declared.outcome.Failure.{Failure}
use Rattle.run_outcomes.specs.declared.outcome.Failure.TheVariants as failure
use Rattle.command_form.specs.Ends.{CommandEnds}
use Rattle.command_form.specs.Names.{Names}
use Rattle.play_command.specs.Ending.{PlayExpected, PlayLeaves, PlayOwn}
use Rattle.play_command.specs.Headline.{HasPlayed, play_command}
use Rattle.shares_command.specs.Measured.{HasMeasured}

abbrev pub SharesDone : View → View → Names → (seed : ℕ) → Done → Type 0
SharesDone old new n seed done.Done = IsTrue old.tells → HasMeasured old new n seed
SharesDone old new n seed other = ⊥

-- the lines could not be said, behind a play that was done
abbrev pub SharesOwn : View → View → Names → (seed : ℕ) → Failure → Type 0
SharesOwn old new n seed failure.Unsaid = WriteFailed old new printed × (IsTrue old.tells → HasPlayed old new n seed)
SharesOwn old new n seed other = PlayOwn old new n seed other

-- SHARES END SO, whatever comes of it
abbrev pub SharesEnds : View → View → Names → (seed : ℕ) → Outcome → Type 0
SharesEnds old new n seed o =
    CommandEnds (play_command n) (SharesDone old new n seed) (SharesOwn old new n seed) (PlayExpected old n seed) (PlayLeaves old new n seed)
    old new o
