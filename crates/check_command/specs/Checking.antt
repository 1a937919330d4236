-- How `check` ends: what it prints, when each failure comes, and what must come.
use Rattle.std.specs.Prelude.{◌≡◌, ◌++◌, ℕ, List, None, Ok, Err, IsTrue}
use Rattle.admission.specs.declared.Fit.{Fit}
use Rattle.admission.specs.declared.Fit.TheVariants as fit
use Rattle.conf_tree.specs.Canonical.{canonical_text}
use Rattle.conf_tree.specs.declared.interface.Interface.{Interface}
use Rattle.file_plans.specs.Parts.{printed}
use Rattle.link_fit.specs.Curves.{IsFitOf}
use Rattle.link_fit.specs.Lines.{fit_line}
use Rattle.play_base.specs.View.{View}
use Rattle.run_inputs.specs.Says.{Accepted, Configured, TextSays}
use Rattle.run_outcomes.specs.Faults.{WriteFailed}
use Rattle.run_outcomes.specs.Outcome.{Outcome}
use Rattle.run_outcomes.specs.declared.outcome.Done.{Done}
use Rattle.run_outcomes.specs.declared.outcome.Done.TheVariants as done
use Rattle.run_outcomes.specs.declared.outcome.Failure.{Failure}
use Rattle.run_outcomes.specs.declared.outcome.Failure.TheVariants as failure
use Rattle.run_outcomes.specs.declared.outcome.Link.TheVariants as link
use Rattle.command_form.specs.Ends.{CommandEnds}
use Rattle.command_form.specs.Form.{Command}
use Rattle.command_form.specs.Plans.{check_plan}

-- a command that reads a configuration alone
abbrev pub check_command : (config interface : List ℕ) → Command
check_command config interface = record {
  plan = check_plan config;
  asked = record { config = config; interface = interface; next = None; arrivals = None };
  link = link.Sole;
}

abbrev pub done_by : Fit → Done
done_by fit.Fits = done.Done
done_by (fit.Exceeds at by) = done.Exceeds

-- the text of interfaces, and of how the curves of one of them fit its link; and what that is done as
pub record IsCheck (interfaces : List Interface) (found : Interface) (d : Done) (text : List ℕ) : Type 0 where
  pub by : Fit
  pub curves : IsFitOf found by
  pub told : d ≡ done_by by
  pub text_is : text ≡ canonical_text interfaces ++ fit_line by

-- the configuration has the interface asked for; its canonical text was printed, and in a last line how the real-time curves of the
-- interface fit its link
pub record HasChecked (old new : View) (config interface : List ℕ) (d : Done) : Type 0 where
  pub configured : Configured
  pub configuration : TextSays old (check_command config interface).asked (Accepted configured)
  pub text : List ℕ
  pub checked : IsCheck configured.interfaces configured.found d text
  pub said : new.said ≡ old.said ++ text

-- the one failure of its own: the answer could not be printed
abbrev pub CheckOwn : View → View → Failure → Type 0
CheckOwn old new failure.Unsaid = WriteFailed old new printed
CheckOwn old new other = ⊥

-- whether the curves fit
abbrev pub TellsFit : Done → Interface → Type 0
TellsFit d i = (f : Fit) × IsFitOf i f × (d ≡ done_by f)

abbrev pub CheckExpected : View → (config interface : List ℕ) → Outcome → Type 0
CheckExpected old config interface (Ok d) = (c : Configured) × TextSays old (check_command config interface).asked (Accepted c) × TellsFit d c.found
CheckExpected old config interface (Err f) = ⊥

-- A CHECK ENDS SO, whatever comes of it
abbrev pub CheckEnds : View → View → (config interface : List ℕ) → Outcome → Type 0
CheckEnds old new config interface o =
    CommandEnds (check_command config interface) (λ d. IsTrue old.tells → HasChecked old new config interface d) (CheckOwn old new)
    (CheckExpected old config interface) (Unit {0}) old new o
