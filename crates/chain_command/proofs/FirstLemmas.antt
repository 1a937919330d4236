-- The first play of a chain, of what its inputs give.
use Rattle.std.proofs.Common.{◌≡◌, ◌∙◌, ℕ, Bool, true, false, cond, Option, List, [], ◌∷◌, None, Some, ap, sym, refl, inl, inr, arith}
use Rattle.std.specs.Prelude.{IsTrue, option_map}
use Rattle.std.specs.declared.result.Result.{Result}
use Rattle.arrivals_front.specs.Given.{is_pcapng}
use Rattle.command_form.specs.Names.{Links}
use Rattle.command_form.proofs.HadLaws.{given_of, inputs_of, ready_told}
use Rattle.conf_tree.specs.declared.interface.Interface.{Interface}
use Rattle.file_plans.specs.Plan.{Place}
use Rattle.interface_play.specs.declared.play.Play.{Play}
use Rattle.interface_play.specs.Ended.{HasEnded, IsBehind, OnlyPlays}
use Rattle.interface_play.specs.Setup.{Untold}
use Rattle.interface_play.specs.Source.{Source, places_in}
use Rattle.play_base.specs.View.{View, SameCounts}
use Rattle.play_command.specs.Headline.{sole_of, source_by}
use Rattle.play_core.specs.declared.totals.Totals.{Totals}
use Rattle.play_loop.specs.declared.fault.PlayFault.{PlayFault}
use Rattle.play_loop.specs.declared.kept.KeptFate.{KeptFate}
use Rattle.play_words.specs.Words.{AreAllDistinct}
use Rattle.run_inputs.specs.declared.inputs.Arrivals.{Arrivals}
use Rattle.run_inputs.specs.declared.inputs.ReadConf.{ReadConf}
use Rattle.run_inputs.specs.Had.{AreHad, HaveCome}
use Rattle.run_inputs.specs.Says.{AreReady, Asked, Given, Inputs}
use Rattle.run_inputs.proofs.OneThing.{one_ready}
use Rattle.chain_command.specs.Names.{IsGivenTwo, chain_command}
use Rattle.chain_command.proofs.EndedLemmas.{Behind, Ended, ended_at}
use Rattle.chain_command.proofs.NameLemmas.{inputs_at, names_in}

pub same_some : {A : Type 0} (x y : A) → Some x ≡ Some y → x ≡ y
same_some x y h = cc

pub next_is : (j : Interface) (c : Option Interface) → Some (Some j) ≡ option_map (λ (i : Interface). Some i) c → c ≡ Some j
next_is j None h = absurd (cc)
next_is j (Some i) h = cc

abbrev pub asked_of : Links → Asked
asked_of n = (chain_command n).asked

-- A CHAIN WHOSE INPUTS ARE HAD, with both interfaces: its files before it and once they were had, and what was read of them
pub record Run : Type 0 where
  pub before : View
  pub ready : View
  pub links : Links
  pub conf : ReadConf
  pub arrivals : Arrivals
  pub next : Interface
  pub seed : ℕ
  pub distinct : AreAllDistinct (names_in links)
  pub come : HaveCome (asked_of links) before ready
  pub had : AreHad (asked_of links) links.first.arrivals before ready conf arrivals
  pub counts : SameCounts before ready
  pub is_next : had.configured.next ≡ Some next

module _ (s : Run) where
  -- what is given, and what the first link plays of it
  abbrev pub given_at : IsTrue s.before.tells → Given
  given_at t = given_of s.before s.ready s.links.first.arrivals s.arrivals (s.had.given t)

  abbrev pub source_first : IsTrue s.before.tells → Source
  source_first t = source_by s.had.configured.found (given_at t)

  abbrev inputs_had : IsTrue s.before.tells → Inputs
  inputs_had t = inputs_of s.before s.ready s.links.first.arrivals s.arrivals s.had.configured (s.had.given t)

  ready_had : (t : IsTrue s.before.tells) → AreReady s.before (asked_of s.links) (inputs_had t)
  ready_had t = ready_told s.before s.ready (asked_of s.links) s.links.first.arrivals s.conf s.arrivals refl s.had t

  -- what holds of both interfaces and of what is given holds of the inputs, and the other way
  pub is_two : {P : Interface → Interface → Given → Type 0} → (t : IsTrue s.before.tells) → P s.had.configured.found s.next (given_at t)
      → IsGivenTwo s.before s.links P
  is_two t p =
      record { inputs = inputs_had t; ready = ready_had t; next = s.next; is_next = s.is_next; given = given_at t; is_given = refl; holds = p }

  pub of_two : (P : Interface → Interface → Given → Type 0) → (t : IsTrue s.before.tells) → IsGivenTwo s.before s.links P
      → P s.had.configured.found s.next (given_at t)
  of_two P t y =
      let same : y.inputs ≡ inputs_had t = one_ready s.before (asked_of s.links) y.inputs (inputs_had t) y.ready (ready_had t) in
      let g : y.given ≡ given_at t = same_some _ _ (sym y.is_given ∙ ap (λ (o : Inputs). o.given) same) in
      let k : y.next ≡ s.next = same_some _ _ (sym y.is_next ∙ ap (λ (o : Inputs). o.configured.next) same ∙ s.is_next) in
      rw (ap (λ (o : Inputs). o.configured.found) same, k, g) at y.holds

  abbrev pub input_files : List ℕ
  input_files = s.conf.file ∷ s.arrivals.file ∷ []

  first_behind : Behind s.before s.ready (sole_of s.links.first) s.arrivals.file (inputs_at s.links) input_files
  first_behind = record {
    came = s.had.came;
    among = inr (inl refl);
    counts = s.counts;
    parts = λ k m h. omega (arith, m, h);
    names = λ t. ((tt, (tt, tt)), ((tt, (tt, tt)), ((tt, (tt, tt)), tt)));
  }

  in_memory : (g : Bool) (rest : Bool) → (rest ≡ true → g ≡ false) → (rest ≡ false → g ≡ true) → g ≡ cond rest false true
  in_memory g true c p = c refl
  in_memory g false c p = p refl

  -- so it ended
  abbrev pub FirstEnded : (kept : List KeptFate → Type 0) (v : View) → Result Totals PlayFault → Type 0
  FirstEnded kept v r =
      Ended kept s.before s.ready v (sole_of s.links.first) s.seed s.arrivals.file (inputs_at s.links) input_files source_first r

  pub first_ended : {kept : List KeptFate → Type 0} {v : View} {r : Result Totals PlayFault} (p : Play) → s.had.configured.found ≡ p.interface.now
      → p.given.now ≡ s.arrivals.given → p.file ≡ s.arrivals.file → p.seed ≡ s.seed → places_in p ≡ sole_of s.links.first → OnlyPlays s.ready v p
      → ((u : View) (es : List Place) (fs : List ℕ) → IsBehind u s.ready es fs p → HasEnded Untold kept u s.ready v es fs p r) → FirstEnded kept v r
  first_ended p interface given file seed places =
      ended_at first_behind (record {
        places = places;
        seeded = seed;
        reads = file;
        is = λ t.
            let g = s.had.given t in
            record {
              interface = interface;
              in_memory = rw given (in_memory (is_pcapng g.given) s.arrivals.given.rest (λ e. (g.follows.classic e).0) g.follows.pcapng);
              capture = rw (given, file) g.follows.left;
            };
      })
