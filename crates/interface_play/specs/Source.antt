-- What a play reads, and where it writes.
use Rattle.std.specs.Prelude.{◌≡◌, ◌≢◌, ℕ, Bool, true, false, cond, List, [], ◌∷◌, Some, IsTrue}
use Rattle.conf_tree.specs.declared.interface.Interface.{Interface}
use Rattle.file_plans.specs.declared.part.Part.TheVariants as part
use Rattle.file_plans.specs.declared.plan.Way.TheVariants as way
use Rattle.file_plans.specs.Plan.{Place, number_of, place_of, read_place, written_place}
use Rattle.interface_marks.specs.Conditioners.{marked_in}
use Rattle.pcapng_files.specs.Fronts.{with_front}
use Rattle.play_base.specs.View.{View}
use Rattle.interface_play.specs.declared.play.Play.{Play}

-- what is played: an interface, the classic capture that comes to it, and whether that was in memory when the outputs were created
pub record Source : Type 0 where
  pub interface : Interface
  pub capture : List ℕ
  pub in_memory : Bool

-- the capture as it is played: with the marks of the interface's conditioners
abbrev pub played_of : Source → List ℕ
played_of s = marked_in s.interface s.capture

-- where it is read, and where the outputs are written
pub record Places : Type 0 where
  pub arrivals : Place
  pub departures : Place
  pub fates : Place
  pub stats : Place

-- of `play`, `shares`, `make` and the first link of `chain`; of its second link
abbrev pub sole_places : (arrivals departures fates stats : List ℕ) → Places
sole_places arrivals departures fates stats = record {
  arrivals = read_place part.Arrivals arrivals;
  departures = written_place part.Departures departures;
  fates = written_place part.Fates fates;
  stats = written_place part.Statistics stats;
}

abbrev pub second_places : (arrivals departures fates stats : List ℕ) → Places
second_places arrivals departures fates stats = record {
  arrivals = read_place part.Departures arrivals;
  departures = written_place part.SecondDepartures departures;
  fates = written_place part.SecondFates fates;
  stats = written_place part.SecondStatistics stats;
}

-- the outputs, in the order in which they are created
abbrev pub outputs_at : Places → List Place
outputs_at w = w.departures ∷ w.fates ∷ w.stats ∷ []

abbrev pub places_in : Play → Places
places_in p = record { arrivals = place_of p.arrivals; departures = place_of p.departures; fates = place_of p.fates; stats = place_of p.stats }

-- the outputs are created; no two of the four files have one name, and no two outputs are one part
pub record AreSeparate (w : Places) : Type 0 where
  pub departures : w.departures.way ≡ way.Written
  pub fates : w.fates.way ≡ way.Written
  pub stats : w.stats.way ≡ way.Written
  pub arrivals_departures : w.arrivals.name ≢ w.departures.name
  pub arrivals_fates : w.arrivals.name ≢ w.fates.name
  pub arrivals_stats : w.arrivals.name ≢ w.stats.name
  pub departures_fates : w.departures.name ≢ w.fates.name
  pub departures_stats : w.departures.name ≢ w.stats.name
  pub fates_stats : w.fates.name ≢ w.stats.name
  pub departures_are_no_fates : number_of w.departures ≢ number_of w.fates
  pub departures_are_no_stats : number_of w.departures ≢ number_of w.stats
  pub fates_are_no_stats : number_of w.fates ≢ number_of w.stats

-- what stands in front, and behind it what the file has left where that follows, is this capture
pub record IsSource (v : View) (p : Play) (s : Source) : Type 0 where
  pub interface : s.interface ≡ p.interface.now
  pub in_memory : s.in_memory ≡ cond p.given.now.rest false true
  pub capture : with_front true p.given.now.rest p.given.now.front.items (v.left p.file) ≡ Some s.capture

-- where the files tell, P holds of the source of a play
abbrev pub OfSource : View → Play → (Source → Type 0) → Type 0
OfSource v p P = IsTrue v.tells → (s : Source) → IsSource v p s → P s
