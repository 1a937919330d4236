-- The files that a play left, as they are verified.
use Rattle.std.specs.Prelude.{◌≡◌, ◌≢◌, ◌<◌, ◌⊎◌, ℕ, List, All, Some, Ok, Err}
use Rattle.file_plans.specs.Parts.{printed}
use Rattle.file_tests.specs.declared.Test.{Test}
use Rattle.play_base.specs.View.{View}
use Rattle.run_outcomes.specs.Faults.{IsQuiet, WriteFailed}
use Rattle.run_outcomes.specs.Outcome.{IsOr, IsOrMemory, Outcome}
use Rattle.run_outcomes.specs.declared.outcome.Done.TheVariants as done
use Rattle.run_outcomes.specs.declared.outcome.Failure.TheVariants as failure
use Rattle.run_outcomes.specs.declared.status.Status.{Status}
use Rattle.command_form.specs.Names.{GivenNames, Names}

-- the bytes that are told under a name are bytes
abbrev pub HoldsBytes : View → (name : List ℕ) → Type 0
HoldsBytes v name = (bytes : List ℕ) → v.bytes name ≡ Some bytes → All (λ b. b < 256) bytes

-- what is verified: the configuration, the interface and the arrivals of a play, as they were before it, and the departures and fates that
-- it left
pub record AreLeft (old new v : View) (n : Names) (m : GivenNames) : Type 0 where
  pub config : v.bytes m.config ≡ old.bytes n.config
  pub interface : m.interface ≡ n.interface
  pub arrivals : v.bytes m.arrivals ≡ old.bytes n.arrivals
  pub departures : v.bytes m.departures ≡ new.bytes n.departures
  pub fates : v.bytes m.fates ≡ new.bytes n.fates

-- the names of a play's words, to `verify`
abbrev pub inputs_played : Names → GivenNames
inputs_played n =
    record { config = n.config; interface = n.interface; arrivals = n.arrivals; departures = n.departures; fates = n.fates }

-- What comes of it is never that a test fails. Where no count of faults rises, but perhaps that of texts that could not be printed, the
-- files are verified, or memory runs out, or the answer could not be printed; and the last comes only where that count rose.
pub record IsVerification (old new : View) (o : Outcome) : Type 0 where
  pub never_refuted : (row : ℕ) (test : Test) → o ≢ Err (failure.Refuted row test)
  pub quiet : IsQuiet old new → IsOr o (Ok done.Done)
  pub verified : IsQuiet old new → (WriteFailed old new printed → ⊥) → IsOrMemory o (Ok done.Done)

-- Its status then never has code 10; and where no count of faults rises, it has code 0, or 8 where memory ran out.
pub record HasItsStatus (old new : View) (s : Status) : Type 0 where
  pub never_ten : s.code ≢ 10
  pub quiet : IsQuiet old new → (WriteFailed old new printed → ⊥) → (s.code ≡ 0) ⊎ (s.code ≡ 8)
