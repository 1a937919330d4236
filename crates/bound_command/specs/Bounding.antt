-- How `bound` ends: what it prints, when each failure comes, and what must come.
use Rattle.std.specs.Prelude.{◌≡◌, ◌++◌, ℕ, List, Ok, IsTrue}
use Rattle.check_command.specs.Checking.{CheckOwn, check_command}
use Rattle.command_form.specs.Ends.{CommandEnds}
use Rattle.play_base.specs.View.{View}
use Rattle.run_inputs.specs.Says.{Accepted, Configured, TextSays}
use Rattle.run_outcomes.specs.Outcome.{Outcome}
use Rattle.run_outcomes.specs.declared.outcome.Done.{Done}
use Rattle.run_outcomes.specs.declared.outcome.Done.TheVariants as done
use Rattle.bound_command.specs.Lines.{Burst, IsBoundText}

-- the configuration has the interface asked for, and of each of its leaves, in the order of the file, a line was printed
pub record HasBounded (old new : View) (config interface : List ℕ) (b : Burst) : Type 0 where
  pub configured : Configured
  pub configuration : TextSays old (check_command config interface).asked (Accepted configured)
  pub text : List ℕ
  pub bounded : IsBoundText configured.found b text
  pub said : new.said ≡ old.said ++ text

abbrev pub BoundDone : View → View → (config interface : List ℕ) → Burst → Done → Type 0
BoundDone old new config interface b done.Done = IsTrue old.tells → HasBounded old new config interface b
BoundDone old new config interface b other = ⊥

abbrev pub BoundExpected : View → (config interface : List ℕ) → Outcome → Type 0
BoundExpected old config interface (Ok done.Done) = (c : Configured) × TextSays old (check_command config interface).asked (Accepted c)
BoundExpected old config interface other = ⊥

-- IT ENDS SO, whatever comes of it: its files, its inputs and its own failure are those of `check`
abbrev pub BoundEnds : View → View → (config interface : List ℕ) → Burst → Outcome → Type 0
BoundEnds old new config interface b o =
    CommandEnds (check_command config interface) (BoundDone old new config interface b) (CheckOwn old new) (BoundExpected old config interface)
    (Unit {0}) old new o
