-- What is said of a command's inputs where the files tell.
use Rattle.std.specs.Prelude.{◌≡◌, Some, IsTrue}
use Rattle.conf_tree.specs.declared.interface.Interface.{Interface}
use Rattle.play_base.specs.View.{View}
use Rattle.run_inputs.specs.Says.{AreReady, Asked, Given, Inputs}

-- the inputs are ready, with arrivals, and P holds of the interface and of what is given
pub record IsGiven (old : View) (a : Asked) (P : Interface → Given → Type 0) : Type 0 where
  pub inputs : Inputs
  pub ready : AreReady old a inputs
  pub given : Given
  pub is_given : inputs.given ≡ Some given
  pub holds : P inputs.configured.found given

abbrev pub OfGiven : View → Asked → (Interface → Given → Type 0) → Type 0
OfGiven old a P = IsTrue old.tells → IsGiven old a P
