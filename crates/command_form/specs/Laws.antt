-- What is so of every command, whatever it does behind its inputs.
use Rattle.std.specs.Prelude.{◌≡◌, ℕ, List, IsTrue}
use Rattle.play_base.specs.View.{View}
use Rattle.run_inputs.specs.Says.{AreStopped}
use Rattle.run_inputs.specs.declared.stop.Stop.{Stop}
use Rattle.command_form.specs.Form.{Command, InputsFirst, ReadsInputs}

-- where its inputs stop it every name keeps its bytes, whatever the status
abbrev pub StoppedInputsLeaveAll : Type 0
StoppedInputsLeaveAll = (x : Command) (old new : View) (s : Stop) → IsTrue old.tells → ReadsInputs x → InputsFirst x old new → AreStopped old x.asked s
    → (m : List ℕ) → new.bytes m ≡ old.bytes m
