-- What is bounded, and what must be.
use Rattle.std.proofs.Common.{◌≡◌, ℕ, List, Ok, Err, refl, inl}
use Rattle.check_command.proofs.AnswerLaws.{check_reads, says_ready}
use Rattle.check_command.specs.Checking.{CheckOwn, check_command}
use Rattle.command_form.proofs.EndsLaws.{unread_ends}
use Rattle.play_base.specs.View.{View}
use Rattle.run_inputs.specs.Says.{AreReady, Inputs}
use Rattle.run_outcomes.specs.Outcome.{IsOr, Outcome}
use Rattle.run_outcomes.specs.declared.outcome.Done.{Done}
use Rattle.run_outcomes.specs.declared.outcome.Done.TheVariants as done
use Rattle.run_outcomes.specs.declared.outcome.Failure.TheVariants as failure
use Rattle.bound_command.specs.Bounding.{BoundDone, BoundEnds, BoundExpected}
use Rattle.bound_command.specs.Lines.{Burst}

pub bound_must : (u : View) (n i : List ℕ) (p : Outcome) → BoundExpected u n i p → IsOr (Ok done.Done) p
bound_must u n i (Ok done.Done) e = inl (inl refl)
bound_must u n i (Ok done.Exceeds) e = absurd e
bound_must u n i (Err f) e = absurd e

pub bound_is_done : (u : View) (n i : List ℕ) (p : Outcome) → BoundExpected u n i p → (d : Done) × (p ≡ Ok d)
bound_is_done u n i (Ok d) e = (d, refl)
bound_is_done u n i (Err f) e = absurd e

pub bound_ready : (u : View) (n i : List ℕ) (p : Outcome) → BoundExpected u n i p → (j : Inputs) × AreReady u (check_command n i).asked j
bound_ready u n i (Ok done.Done) e = says_ready u n i e.0 e.1
bound_ready u n i (Ok done.Exceeds) e = absurd e
bound_ready u n i (Err f) e = absurd e

pub bound_unread : (u : View) (n i : List ℕ) (b : Burst) → BoundEnds u u n i b (Err failure.NoMemory)
bound_unread u n i b = unread_ends (check_command n i) (BoundDone u u n i b) (CheckOwn u u) (BoundExpected u n i) (Unit {0}) (check_reads n i) u tt
