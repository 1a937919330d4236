-- What `play` does.
use Rattle.std.specs.Prelude.{◌≡◌, ℕ, List, None, Some}
use Rattle.arrivals_front.specs.Given.{ReadAs, is_pcapng}
use Rattle.conf_tree.specs.declared.interface.Interface.{Interface}
use Rattle.play_base.specs.View.{View}
use Rattle.run_inputs.specs.Says.{Accepted, Given, TextSays}
use Rattle.run_outcomes.specs.declared.outcome.Link.TheVariants as link
use Rattle.command_form.specs.Form.{Command}
use Rattle.command_form.specs.Names.{Names}
use Rattle.command_form.specs.Plans.{play_plan}
use Rattle.interface_play.specs.Played.{WasPlayed}
use Rattle.interface_play.specs.Source.{Places, Source, sole_places}

abbrev pub play_command : Names → Command
play_command n = record {
  plan = play_plan n;
  asked = record { config = n.config; interface = n.interface; next = None; arrivals = Some n.arrivals };
  link = link.Sole;
}

-- where it reads and writes
abbrev pub sole_of : Names → Places
sole_of n = sole_places n.arrivals n.departures n.fates n.stats

-- what is given to play
abbrev pub source_by : Interface → Given → Source
source_by i g = record { interface = i; capture = g.capture; in_memory = is_pcapng g.bytes }

-- THE HEADLINE. The configuration gives the interface, and the arrivals are given; departures, fates and statistics hold exactly the texts
-- of the play of what they read as, marked by the interface's conditioners, by the interface and the seed of the words. In that history
-- each arrival has one fate, each class departs in the order of arrival, no packet starts before it arrived, each end is that of its run,
-- each start is the least moment, not before the last end, at which a class may send, nothing waits at the end, and every packet ends
-- before the clock does. It keeps what the interface promises: of HFSC the due moments where the real-time curves fit the link, and that
-- the link never idles while a packet waits where no class has an upper limit; of CBQ the cap on a class that does not borrow.
pub record HasPlayed (old new : View) (n : Names) (seed : ℕ) : Type 0 where
  pub interface : Interface
  pub interfaces : List Interface
  pub given : Given
  pub configuration : TextSays old (play_command n).asked (Accepted (record { interfaces = interfaces; found = interface; next = None }))
  pub arrivals : old.bytes n.arrivals ≡ Some given.bytes
  pub read : ReadAs given.bytes given.capture
  pub played : WasPlayed new (sole_of n) seed (source_by interface given)
