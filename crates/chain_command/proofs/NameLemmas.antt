-- The places of a chain, and which names are those of none of them.
use Rattle.std.proofs.Common.{◌≢◌, ◌++◌, ℕ, List, [], ◌∷◌, refl, sym}
use Rattle.std.specs.Prelude.{IsTrue}
use Rattle.std.specs.List.{AllByRecursion}
use Rattle.file_plans.specs.Plan.{IsOther, Place, read_place, written_place}
use Rattle.file_plans.specs.declared.part.Part.TheVariants as part
use Rattle.play_base.specs.View.{View}
use Rattle.play_words.specs.Words.{AreAllDistinct}
use Rattle.command_form.specs.Form.{ReadsInputs}
use Rattle.command_form.specs.Names.{Links}
use Rattle.interface_play.specs.Source.{Places, outputs_at}
use Rattle.play_command.specs.Headline.{sole_of}
use Rattle.chain_command.specs.Names.{chain_command, seconds_of}

abbrev pub names_in : Links → List (List ℕ)
names_in n =
    n.first.config ∷ n.first.arrivals ∷ n.first.departures ∷ n.first.fates ∷ n.first.stats ∷ n.departures ∷ n.fates ∷ n.stats ∷ n.path ∷ []

abbrev pub names_at : Places → List (List ℕ)
names_at w = w.departures.name ∷ w.fates.name ∷ w.stats.name ∷ []

-- the places of each step, and those up to the end of one
abbrev pub inputs_at : Links → List Place
inputs_at n = read_place part.Configuration n.first.config ∷ read_place part.Arrivals n.first.arrivals ∷ []

abbrev pub sent_at : Links → List Place
sent_at n = read_place part.Departures n.first.departures ∷ []

abbrev pub path_at : Links → Place
path_at n = written_place part.Path n.path

abbrev pub five : Links → List Place
five n = inputs_at n ++ outputs_at (sole_of n.first)

abbrev pub six : Links → List Place
six n = five n ++ sent_at n

abbrev pub nine : Links → List Place
nine n = six n ++ outputs_at (seconds_of n)

-- the plan of a chain begins with its inputs
pub chain_reads : (n : Links) → ReadsInputs (chain_command n)
chain_reads n = record {
  rest = outputs_at (sole_of n.first) ++ sent_at n ++ outputs_at (seconds_of n) ++ path_at n ∷ [];
  plan = refl;
  few = λ u v f. (f, (tt, (tt, (tt, (tt, (tt, (tt, (tt, (tt, (tt, tt))))))))));
}

-- these names are those of none of the places
abbrev pub AreOthers : View → List Place → List (List ℕ) → Type 0
AreOthers v es names = AllByRecursion (IsOther v es) names

module _ (n : Links) (d : AreAllDistinct (names_in n)) (v : View) (t : IsTrue v.tells) where
  pub others_first : IsOther v (outputs_at (sole_of n.first)) n.first.config
  others_first = ((t, d.0.1.0), ((t, d.0.1.1.0), ((t, d.0.1.1.1.0), tt)))

  pub others_second : AreOthers v (outputs_at (seconds_of n)) (n.first.config ∷ n.first.arrivals ∷ names_at (sole_of n.first))
  others_second = assumption (t, d)

  pub others_path : AreOthers v (path_at n ∷ []) (n.first.config ∷ n.first.arrivals ∷ names_at (sole_of n.first))
      × AreOthers v (path_at n ∷ []) (names_at (seconds_of n))
  others_path = assumption (t, d)

  pub others_before : AreOthers v (six n) (names_at (seconds_of n))
  others_before = (
    before d.1.1.0.1.1.0 d.1.1.1.0.1.0 d.1.1.1.1.0.0,
    (
      before d.1.1.0.1.1.1.0 d.1.1.1.0.1.1.0 d.1.1.1.1.0.1.0,
      (before d.1.1.0.1.1.1.1.0 d.1.1.1.0.1.1.1.0 d.1.1.1.1.0.1.1.0, tt),
    ),
  )
    where
      before : {m : List ℕ} → n.first.departures ≢ m → n.first.fates ≢ m → n.first.stats ≢ m → IsOther v (six n) m
      before x y z = (tt, (tt, ((t, λ e. x (sym e)), ((t, λ e. y (sym e)), ((t, λ e. z (sym e)), (tt, tt))))))
