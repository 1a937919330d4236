-- A play over files that goes on: what was decided so far, and what was written of it.
use Rattle.std.specs.Prelude.{◌≡◌, ◌+◌, ℕ, List, ◌++◌, None, Some, slice_get}
use Rattle.std.specs.declared.option.Option.{Option}
use Rattle.altq_model.specs.declared.Placed.{Placed}
use Rattle.altq_model.specs.Arrivals.{Captured, bare_arrivals}
use Rattle.altq_model.specs.Departures.{Dressing}
use Rattle.altq_model.specs.History.{Arrival, DrawnWords, LabelledEvent, unlabelled, offered, journal}
use Rattle.altq_model.specs.Lawful.{latest}
use Rattle.altq_model.specs.Play.{AreDue, due}
use Rattle.discipline.specs.View.{DisciplineView}
use Rattle.play_text.specs.Names.{NameList}
use Rattle.play_base.specs.View.{View}
use Rattle.play_core.specs.declared.state.Progress.{Progress}
use Rattle.play_core.specs.Ended.{IsBegun, IsCutOff}
use Rattle.play_core.specs.Finished.{EndsWithOffer}
use Rattle.play_core.specs.Going.{IsGoing, numbered}
use Rattle.play_core.specs.Turns.{IsNext, arrives, packet_of_lent}
use Rattle.play_loop.specs.declared.arriving.Arriving.{Arriving}
use Rattle.play_loop.specs.declared.ending.Due.{Due}
use Rattle.play_loop.specs.declared.ending.Due.TheVariants.{Made, Late}
use Rattle.play_loop.specs.declared.outputs.Outputs.{Outputs}
use Rattle.play_loop.specs.declared.kept.KeptFate.{KeptFate}
use Rattle.class_counts.specs.Counting.{HasCounted}
use Rattle.play_loop.specs.KeptFates.{kept_fates}
use Rattle.play_loop.specs.Outputs.{HasTexts, HasFronts}
use Rattle.class_counts.specs.Fit.{AreFit}
use Rattle.play_loop.specs.Reading.{arrival_of}
use Rattle.play_loop.specs.Setup.{IsSound, Setup, departures_of, fates_of}

-- how frames are placed and dressed, and how classes are named
pub record Classing : Type 0 where
  pub place : List ℕ → Placed
  pub dress : Dressing
  pub names : NameList

abbrev pub classing : (List ℕ → Placed) → Dressing → NameList → Classing
classing place dress names = record { place = place; dress = dress; names = names }

-- a setup with them
abbrev pub classed : Classing → Setup → Setup
classed c x = record x { place = c.place; dress = c.dress; names = c.names }

-- a moment of a play: what the discipline shows, the files, the outputs, what a keeper holds of what it was told, and how far the play has come
pub record Moment : Type 1 where
  pub shown : DisciplineView
  pub files : View
  pub outputs : Outputs
  pub told : List KeptFate → Type 0
  pub progress : Progress

abbrev pub moment : DisciplineView → View → Outputs → (List KeptFate → Type 0) → Progress → Moment
moment d v o told progress = record { shown = d; files = v; outputs = o; told = told; progress = progress }

abbrev pub Goes : Moment → List Captured → DrawnWords → List LabelledEvent → Type 0
Goes m arrived w g = IsGoing m.shown arrived w m.progress g

-- this setup is played at that moment, with words of this seed
pub record IsPlayedAt (x : Setup) (m : Moment) (seed : ℕ) : Type 0 where
  pub sound : IsSound x
  pub policy : m.shown.policy ≡ x.policy
  pub rate : m.progress.clock.rate ≡ x.rate
  pub seed_is : seed ≡ x.seed

-- the texts of these events were given to the outputs
abbrev pub HasGiven : Setup → View → Outputs → List Captured → List LabelledEvent → Type 0
HasGiven x v o arrived g = HasTexts v o (departures_of x arrived g) (fates_of x arrived g)

-- their texts, the counts of what arrived and was decided, and what was told of it
pub record AreWritten (x : Setup) (v : View) (o : Outputs) (told : List KeptFate → Type 0) (arrived : List Captured) (g : List LabelledEvent) : Type 0 where
  pub given : HasGiven x v o arrived g
  pub counted : HasCounted x.names arrived (journal g) o.counts.items
  pub was_told : told (kept_fates arrived (journal g))
  pub fit : AreFit x.place arrived

-- the first events of the play of what arrived so far, and what was written of them
pub record IsUnderway (x : Setup) (m : Moment) (arrived : List Captured) (w : DrawnWords) (g : List LabelledEvent) : Type 0 where
  pub setup : IsPlayedAt x m w.seed
  pub going : Goes m arrived w g
  pub written : AreWritten x m.files m.outputs m.told arrived g

-- the outputs hold fronts of the texts of these first events of the play
pub record IsBroken (x : Setup) (v : View) (o : Outputs) (arrived : List Captured) (g : List LabelledEvent) : Type 0 where
  pub begun : IsBegun x.policy x.rate x.seed (bare_arrivals arrived) g
  pub fronts : HasFronts v o (departures_of x arrived g) (fates_of x arrived g)

-- they are the first events whatever arrives later
abbrev pub StayDue : Setup → List Captured → List LabelledEvent → Type 0
StayDue x arrived g = (more : List Arrival) → AreDue x.policy x.rate x.seed (bare_arrivals arrived ++ more) g

-- every sending before the next arrival was made, or all where none is to come
pub record AreMade (x : Setup) (arrived : List Captured) (g : List LabelledEvent) (arrival : Option ℕ) : Type 0 where
  pub all : arrival ≡ None → due x.policy x.rate x.seed (bare_arrivals arrived) g ≡ None
  pub next : (a : Captured) → slice_get arrived (offered (unlabelled g)) ≡ Some a → IsNext x.policy x.rate x.seed arrived g a

abbrev pub DueIs : Due → Setup → List Captured → List LabelledEvent → (arrival : Option ℕ) → Type 0
DueIs Made x arrived g arrival = AreMade x arrived g arrival
DueIs Late x arrived g arrival = IsCutOff x.policy x.rate x.seed (bare_arrivals arrived) g

-- this arrival was read, is placed by its bytes and is the next to be offered
pub record IsNextArrival (place : List ℕ → Placed) (arrived : List Captured) (g : List LabelledEvent) (p : Arriving) : Type 0 where
  pub there : slice_get arrived (offered (unlabelled g)) ≡ Some (arrival_of place p)
  pub packet_is : packet_of_lent p.packet ≡ numbered (offered (unlabelled g) + 1) (arrival_of place p)
  pub placed_is : p.placed ≡ place p.packet.bytes.now

-- as many packets were offered, and none later
abbrev pub SameOffers : (before after : List LabelledEvent) → Type 0
SameOffers g k = (offered (unlabelled k) ≡ offered (unlabelled g)) × (latest (unlabelled k) ≡ latest (unlabelled g))

-- the next arrival was offered at `at`, or the next sending would end too late
abbrev pub OfferedIs : Due → Setup → List Captured → (at : ℕ) → (before after : List LabelledEvent) → Type 0
OfferedIs Made x arrived at g k = EndsWithOffer k × (offered (unlabelled k) ≡ offered (unlabelled g) + 1) × (latest (unlabelled k) ≡ at)
OfferedIs Late x arrived at g k = IsCutOff x.policy x.rate x.seed (bare_arrivals arrived) k × SameOffers g k

-- whatever play is underway, before an arrival: its sendings were made up to another moment
abbrev pub SendsTo : Classing → (from to : Moment) → (arrival : Option ℕ) → Due → Type 0
SendsTo c m n arrival d = (x : Setup) (arrived : List Captured) (w : DrawnWords) (g : List LabelledEvent) → IsUnderway (classed c x) m arrived w g
    → arrival ≡ arrives arrived g → (k : List LabelledEvent) × IsUnderway (classed c x) n arrived w k × SameOffers g k × DueIs d (classed c x) arrived k arrival

-- or a write failed among them
abbrev pub SendsBroken : Classing → Moment → View → (arrival : Option ℕ) → Type 0
SendsBroken c m v arrival = (x : Setup) (arrived : List Captured) (w : DrawnWords) (g : List LabelledEvent) → IsUnderway (classed c x) m arrived w g
    → arrival ≡ arrives arrived g → (k : List LabelledEvent) × IsBroken (classed c x) v m.outputs arrived k × SameOffers g k

-- this packet was offered, after the sendings before it
abbrev pub OffersTo : Classing → (from to : Moment) → (before after : DrawnWords) → Arriving → Due → Type 0
OffersTo c m n w v p d = (x : Setup) (arrived : List Captured) (g : List LabelledEvent) → IsUnderway (classed c x) m arrived w g
    → IsNextArrival c.place arrived g p
    → (k : List LabelledEvent) × IsUnderway (classed c x) n arrived v k × OfferedIs d (classed c x) arrived p.packet.at g k

-- or a write failed before, or of its fate
abbrev pub OffersBroken : Classing → Moment → View → DrawnWords → Arriving → Type 0
OffersBroken c m v w p = (x : Setup) (arrived : List Captured) (g : List LabelledEvent) → IsUnderway (classed c x) m arrived w g
    → IsNextArrival c.place arrived g p
    → (k : List LabelledEvent) × IsBroken (classed c x) v m.outputs arrived k × StayDue (classed c x) arrived k
