-- The command `chain`, where its plays read and write, and what its inputs give.
use Rattle.std.specs.Prelude.{◌≡◌, ℕ, List, Some, false}
use Rattle.conf_tree.specs.declared.interface.Interface.{Interface}
use Rattle.play_base.specs.View.{View}
use Rattle.run_inputs.specs.Says.{AreReady, Given, Inputs}
use Rattle.run_outcomes.specs.declared.outcome.Link.TheVariants as link
use Rattle.command_form.specs.Form.{Command}
use Rattle.command_form.specs.Names.{Links}
use Rattle.command_form.specs.Plans.{chain_plan}
use Rattle.interface_play.specs.Source.{Places, Source, second_places}

abbrev pub chain_command : Links → Command
chain_command n = record {
  plan = chain_plan n;
  asked = record { config = n.first.config; interface = n.first.interface; next = Some n.next; arrivals = Some n.first.arrivals };
  link = link.First;
}

-- the second link reads what the first sent
abbrev pub seconds_of : Links → Places
seconds_of n = second_places n.first.departures n.departures n.fates n.stats

-- a capture that the first link sent, as it comes to the next interface
abbrev pub sent_source : Interface → (sent : List ℕ) → Source
sent_source j sent = record { interface = j; capture = sent; in_memory = false }

-- the inputs are ready, with a next interface and arrivals, and P holds of the two interfaces and of what is given
pub record IsGivenTwo (old : View) (n : Links) (P : Interface → Interface → Given → Type 0) : Type 0 where
  pub inputs : Inputs
  pub ready : AreReady old (chain_command n).asked inputs
  pub next : Interface
  pub is_next : inputs.configured.next ≡ Some next
  pub given : Given
  pub is_given : inputs.given ≡ Some given
  pub holds : P inputs.configured.found next given
