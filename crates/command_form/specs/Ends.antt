-- The form of every command, and how a run ends.
use Rattle.std.specs.Prelude.{◌≡◌, ◌⊎◌, ℕ, Ok, Err, OnErr, IsTrue}
use Rattle.play_base.specs.View.{View, SameCounts}
use Rattle.file_plans.specs.End.{FilesEnd}
use Rattle.play_words.specs.Kinds.{words_kind}
use Rattle.run_inputs.specs.Says.{AreStopped}
use Rattle.run_inputs.specs.declared.stop.Stop.{Stop}
use Rattle.run_outcomes.specs.Faults.{IsQuiet}
use Rattle.run_outcomes.specs.Outcome.{IsOr, Outcome, status_of}
use Rattle.run_outcomes.specs.Reported.{IsReported}
use Rattle.run_outcomes.specs.declared.outcome.Done.{Done}
use Rattle.run_outcomes.specs.declared.outcome.Failure.{Failure}
use Rattle.run_outcomes.specs.declared.outcome.Failure.TheVariants as failure
use Rattle.run_outcomes.specs.declared.status.Status.{Status}
use Rattle.command_form.specs.Form.{AreReadyWhereTold, Command, InputsFirst, StopsAt, stop_failure}

-- what came of a command: done says what D says, and no call met a fault; a failure is a stop of the inputs or, behind inputs that stop
-- nothing, one of the command's own; want of memory may come at any time
abbrev pub Comes : Command → (D : Done → Type 0) → (F : Failure → Type 0) → View → View → Outcome → Type 0
Comes x D F old new (Ok d) = D d × SameCounts old new
Comes x D F old new (Err failure.NoMemory) = Unit {0}
Comes x D F old new (Err f) = StopsAt x old new f ⊎ (AreReadyWhereTold old x.asked × F f)

-- what the files tell must come: the stop of inputs that say so; else what E says, where the command's own files and plays decide
abbrev pub Expects : Command → (E : Outcome → Type 0) → View → Outcome → Type 0
Expects x E old (Ok d) = E (Ok d)
Expects x E old (Err f) = ((s : Stop) × AreStopped old x.asked s × (f ≡ stop_failure x.link s)) ⊎ E (Err f)

-- A COMMAND ENDS SO, whatever comes of it: D is what done means, F when each failure of its own comes, E what must come, and L what it
-- leaves beside that. `said` is what it printed before its message
pub record CommandEnds (x : Command) (D : Done → Type 0) (F : Failure → Type 0) (E : Outcome → Type 0) (L : Type 0) (old new : View) (o : Outcome)
    : Type 0 where
  pub comes : Comes x D F old new o
  pub must : IsTrue old.tells → IsQuiet old new → (p : Outcome) → Expects x E old p → IsOr o p
  pub files : FilesEnd x.plan old new
  pub first : InputsFirst x old new
  pub leaves : L
  pub silent : OnErr o (new.said ≡ old.said)

-- A RUN ENDED SO: this came of its command, E held then of the files, and behind that no more was done than to print the message of a failure
pub record Ends (E : View → Outcome → Type 0) (new : View) (s : Status) : Type 0 where
  pub outcome : Outcome
  pub before : View
  pub ends : E before outcome
  pub message : IsReported before new outcome
  pub status : s ≡ status_of outcome

-- words that are refused: as that kind, or as want of memory; no file is touched
abbrev pub IsRefused : (kind : ℕ) → View → View → Outcome → Type 0
IsRefused kind old new (Ok d) = ⊥
IsRefused kind old new (Err (failure.Words fault)) = (words_kind fault ≡ kind) × (new ≡ old)
IsRefused kind old new (Err failure.NoMemory) = new ≡ old
IsRefused kind old new (Err other) = ⊥
