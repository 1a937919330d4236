-- What stands when the marked file is created.
use Rattle.play_base.specs.View.{View}
use Rattle.run_inputs.specs.declared.inputs.Arrivals.{Arrivals}
use Rattle.run_inputs.specs.declared.inputs.ReadConf.{ReadConf}
use Rattle.run_inputs.specs.Had.{AreHad, HaveCome}
use Rattle.command_form.specs.Names.{MarkNames}
use Rattle.condition_command.specs.Conditioning.{condition_command}

-- the inputs are had, and nothing else was done
pub record HasInputs (u v : View) (n : MarkNames) (r : ReadConf) (x : Arrivals) : Type 0 where
  pub come : HaveCome (condition_command n).asked u v
  pub had : AreHad (condition_command n).asked n.arrivals u v r x
