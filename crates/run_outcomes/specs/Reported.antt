-- What is printed of what came of a command.
use Rattle.std.specs.Prelude.{◌≡◌, ◌⊎◌, ◌++◌, ℕ, List, IsTrue, Ok, Err}
use Rattle.play_base.specs.View.{View, Everything, Keeps, NoneAppears}
use Rattle.file_plans.specs.Parts.{printed}
use Rattle.run_outcomes.specs.Faults.{WriteFailed}
use Rattle.run_outcomes.specs.Message.{message_of, out_of_memory}
use Rattle.run_outcomes.specs.Outcome.{Outcome}
use Rattle.run_outcomes.specs.declared.outcome.Failure.{Failure}
use Rattle.run_outcomes.specs.declared.outcome.Failure.TheVariants as failure

-- nothing changes but what was printed, and counts
pub record OnlySays (old new : View) : Type 0 where
  pub keeps : Keeps Everything Everything old new
  pub none : NoneAppears old new

-- exactly the text was printed, or nothing
abbrev pub SaysOrNot : View → View → List ℕ → Type 0
SaysOrNot old new text = IsTrue old.tells → (new.said ≡ old.said ++ text) ⊎ (new.said ≡ old.said)

-- exactly the text was printed, or nothing, and then the count of write faults of what is printed rose
abbrev pub SaysOrFails : View → View → List ℕ → Type 0
SaysOrFails old new text = IsTrue old.tells → (new.said ≡ old.said ++ text) ⊎ ((new.said ≡ old.said) × WriteFailed old new printed)

-- what is printed of a failure: its message, or nothing where that fails; where memory ran out, its message or nothing
abbrev pub HasMessage : View → View → Failure → Type 0
HasMessage old new failure.NoMemory = SaysOrNot old new out_of_memory
HasMessage old new other = SaysOrFails old new (message_of other)

-- and of what came of a command: of what is done nothing more than it says itself
abbrev pub IsReported : View → View → Outcome → Type 0
IsReported before new (Ok d) = new ≡ before
IsReported before new (Err f) = OnlySays before new × HasMessage before new f
