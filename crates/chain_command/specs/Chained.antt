-- What a chain leaves that is done.
use Rattle.std.specs.Prelude.{◌≡◌, ◌≤◌, ◌-◌, ℕ, List, [], ◌∷◌, Contains, Some, false, slice_get}
use Rattle.std.specs.List.{flat_map}
use Rattle.altq_model.specs.Arrivals.{Captured, arrival}
use Rattle.altq_model.specs.declared.Fate.{Fate}
use Rattle.altq_model.specs.declared.Fate.TheVariants.{Dropped, Sent}
use Rattle.altq_model.specs.declared.Rule.{Rule}
use Rattle.altq_model.specs.History.{Decision, journal}
use Rattle.conf_tree.specs.declared.interface.Interface.{Interface}
use Rattle.play_base.specs.View.{View}
use Rattle.play_chain.specs.Text.{path_text}
use Rattle.play_loop.specs.KeptFates.{kept_fates}
use Rattle.play_loop.specs.Setup.{arrivals_in, departures_of}
use Rattle.run_inputs.specs.Says.{Given}
use Rattle.command_form.specs.Names.{Links}
use Rattle.interface_play.specs.Played.{WasPlayed}
use Rattle.interface_play.specs.Setup.{setup_of}
use Rattle.interface_play.specs.Source.{Places, Source}
use Rattle.play_command.specs.Headline.{sole_of, source_by}
use Rattle.chain_command.specs.Names.{seconds_of, sent_source}

-- the arrivals and the journal of a play, and what it sent as a capture
abbrev pub arrivals_of : {v : View} {w : Places} {seed : ℕ} {s : Source} → WasPlayed v w seed s → List Captured
arrivals_of {v} {w} {seed} {s} h = arrivals_in (setup_of s.interface seed) h.records

abbrev pub journal_of : {v : View} {w : Places} {seed : ℕ} {s : Source} → WasPlayed v w seed s → List Decision
journal_of h = journal h.history

abbrev pub sent_by : {v : View} {w : Places} {seed : ℕ} {s : Source} → WasPlayed v w seed s → List ℕ
sent_by {v} {w} {seed} {s} h = departures_of (setup_of s.interface seed) (arrivals_of h) h.history

-- BOTH PLAYS ARE WHOLE: the first of what is given, on the first interface; the second of what the first sent, on the next one, with the
-- words of the same seed from their beginning
pub record ArePlayed (v : View) (n : Links) (seed : ℕ) (i j : Interface) (g : Given) : Type 0 where
  pub first : WasPlayed v (sole_of n.first) seed (source_by i g)
  pub second : WasPlayed v (seconds_of n) seed (sent_source j (sent_by first))

-- the text of the paths of their packets
abbrev pub paths_of : {v : View} {n : Links} {seed : ℕ} {i j : Interface} {g : Given} → ArePlayed v n seed i j g → List ℕ
paths_of p = path_text (kept_fates (arrivals_of p.first) (journal_of p.first)) (journal_of p.second)

-- the ends of a journal's sendings, in its order: the k-th is that of packet k of the second play
abbrev pub ends_by : Fate → List ℕ
ends_by (Dropped reason) = []
ends_by (Sent start end rule) = end ∷ []

abbrev pub ends_of : List Decision → List ℕ
ends_of ds = flat_map (λ (d : Decision). ends_by d.1) ds

-- no arrival is later than its own stamp
abbrev pub NoneRaised : List Captured → Type 0
NoneRaised arrived = (n : ℕ) → (arrival arrived n).raised ≡ false

-- each sending of a second journal starts at the end of its packet's sending in the first, or later
abbrev pub StartsAfterFirst : (first second : List Decision) → Type 0
StartsAfterFirst first second = (k end start later : ℕ) (rule : Rule) → slice_get (ends_of first) (k - 1) ≡ Some end
    → Contains second (k, Sent start later rule) → end ≤ start

-- TWO LINKS IN A ROW. Both plays are whole. No arrival of the second is later than its stamp, and each packet starts on the second link at
-- its end on the first, or later. The paths are those of both journals.
pub record HasChained (v : View) (n : Links) (seed : ℕ) (i j : Interface) (g : Given) : Type 0 where
  pub played : ArePlayed v n seed i j g
  pub unraised : NoneRaised (arrivals_of played.second)
  pub after : StartsAfterFirst (journal_of played.first) (journal_of played.second)
  pub path : v.bytes n.path ≡ Some (paths_of played)
