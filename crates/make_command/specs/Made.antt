-- What `make` does: it writes a generated capture as its arrivals, plays it, and says the summary of that.
use Rattle.std.specs.Prelude.{◌≡◌, ◌++◌, ℕ, List, false, None, Some, IsTrue}
use Rattle.conf_tree.specs.declared.interface.Interface.{Interface}
use Rattle.generated.specs.Packets.{generated_capture}
use Rattle.play_base.specs.View.{View}
use Rattle.play_core.specs.declared.totals.Totals.{Totals}
use Rattle.play_text.specs.Summary.{summary_text}
use Rattle.run_inputs.specs.Says.{Accepted, Configured, TextSays}
use Rattle.run_outcomes.specs.declared.outcome.Link.TheVariants as link
use Rattle.command_form.specs.Form.{Command}
use Rattle.command_form.specs.Names.{Names}
use Rattle.command_form.specs.Plans.{make_plan}
use Rattle.interface_play.specs.Played.{WasPlayed}
use Rattle.interface_play.specs.Source.{Source}
use Rattle.play_command.specs.Headline.{sole_of}

-- no arrivals are there before it
abbrev pub make_command : Names → Command
make_command n = record {
  plan = make_plan n;
  asked = record { config = n.config; interface = n.interface; next = None; arrivals = None };
  link = link.Sole;
}

-- the capture of the first `count` packets of the seed, as an interface plays it
abbrev pub source_made : (seed count : ℕ) → Interface → Source
source_made seed count i = record { interface = i; capture = generated_capture seed count; in_memory = false }

-- what is said of a play
abbrev pub summary_of : Totals → List ℕ
summary_of t = summary_text t.arrived t.sent t.dropped t.last_end

-- THE CAPTURE IS MADE AND PLAYED. The arrivals hold exactly it; departures, fates and statistics are those of its play
pub record WasMade (old new : View) (n : Names) (seed count : ℕ) : Type 0 where
  pub configured : Configured
  pub configuration : TextSays old (make_command n).asked (Accepted configured)
  pub arrivals : new.bytes n.arrivals ≡ Some (generated_capture seed count)
  pub played : WasPlayed new (sole_of n) seed (source_made seed count configured.found)

-- and exactly the summary of that was said
pub record HasMade (old new : View) (n : Names) (seed count : ℕ) : Type 0 where
  pub made : WasMade old new n seed count
  pub said : new.said ≡ old.said ++ summary_of made.played.totals

-- where the files tell: P holds of what is played
abbrev pub OfMade : View → Names → (seed count : ℕ) → (Source → Type 0) → Type 0
OfMade old n seed count P = IsTrue old.tells → (c : Configured) × TextSays old (make_command n).asked (Accepted c) × P (source_made seed count c.found)
