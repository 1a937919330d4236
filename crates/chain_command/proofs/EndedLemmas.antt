-- How a play of a chain ended, told of its link.
use Rattle.std.proofs.Common.{◌≡◌, ◌≢◌, ◌∙◌, ◌++◌, ℕ, List, None, Some, sym, subst}
use Rattle.std.specs.Prelude.{IfErr, IfOk, IsTrue, OnOk}
use Rattle.std.specs.List.{AllByRecursion}
use Rattle.std.specs.declared.result.Result.{Result}
use Rattle.std.proofs.lemmas.Result.{IfOk-weaker, MatchResult-weaker}
use Rattle.arrivals_source.specs.Counted.{IsNoLonger}
use Rattle.file_plans.specs.Came.{Came, CameAlong, IsAmong}
use Rattle.file_plans.specs.Plan.{HasPart, IsOther, Place, number_of}
use Rattle.interface_play.proofs.FailingLaws.{fails_by}
use Rattle.interface_play.specs.declared.play.Play.{Play}
use Rattle.interface_play.specs.Ended.{HasEnded, IsBehind, OnlyPlays}
use Rattle.interface_play.specs.Expected.{CameAsExpected}
use Rattle.interface_play.specs.Failing.{PlayFails}
use Rattle.interface_play.specs.Fronts.{Fronts}
use Rattle.interface_play.specs.Played.{IsDone, WasPlayed}
use Rattle.interface_play.specs.Setup.{Untold}
use Rattle.interface_play.specs.Source.{IsSource, OfSource, Places, Source, outputs_at, places_in}
use Rattle.play_base.specs.View.{View, Keeps, SameCounts}
use Rattle.play_core.specs.declared.totals.Totals.{Totals}
use Rattle.play_loop.specs.declared.fault.PlayFault.{PlayFault}
use Rattle.play_loop.specs.declared.kept.KeptFate.{KeptFate}
use Rattle.run_outcomes.specs.Faults.{IsQuiet}
use Rattle.chain_command.proofs.NameLemmas.{AreOthers, names_at}

-- these files came to be before a play at these places, that which it reads among them, without a fault; none has the part of an output, and
-- no output's name was written
pub record Behind (before old : View) (w : Places) (file : ℕ) (places : List Place) (files : List ℕ) : Type 0 where
  pub came : Came places files before old
  pub among : IsAmong file files
  pub counts : SameCounts before old
  pub parts : (k : ℕ) → HasPart (outputs_at w) k → HasPart places k → ⊥
  pub names : IsTrue before.tells → AreOthers before places (names_at w)

-- this is that play, by this seed, of this source where the files tell
pub record PlaysAt (before old : View) (w : Places) (seed file : ℕ) (source : IsTrue before.tells → Source) (p : Play) : Type 0 where
  pub places : places_in p ≡ w
  pub seeded : p.seed ≡ seed
  pub reads : p.file ≡ file
  pub is : (t : IsTrue before.tells) → IsSource old p (source t)

-- so it ended
pub record Ended (kept : List KeptFate → Type 0) (before old new : View) (w : Places) (seed file : ℕ) (places : List Place) (files : List ℕ)
    (source : IsTrue before.tells → Source) (r : Result Totals PlayFault) : Type 0 where
  pub done : IfOk r (λ totals. (t : IsTrue before.tells) → IsDone Untold kept new w seed totals (source t))
  pub fails : IfErr r (PlayFails (λ P. (t : IsTrue before.tells) → P (source t)) w seed before new)
  pub fronts : (t : IsTrue before.tells) → Fronts before new w seed (source t)
  pub must : IsQuiet before new → (t : IsTrue before.tells) → CameAsExpected w seed r (source t)
  pub along : CameAlong (places ++ outputs_at w) before new
  pub came : OnOk r ((outputs : List ℕ) × Came (places ++ outputs_at w) (files ++ outputs) before new)
  pub counts : OnOk r (SameCounts before new)
  pub keeps : Keeps (IsOther old (outputs_at w)) (λ f. (f ≢ file) × IsOther old (outputs_at w) (old.name f)) old new
  pub took : IsNoLonger old new file
  pub only : (f q : ℕ) → old.part f ≡ None → new.part f ≡ Some q → HasPart (outputs_at w) q
  pub said : new.said ≡ old.said

pub ended_at : {kept : List KeptFate → Type 0} {before old new : View} {w : Places} {seed file : ℕ} {places : List Place} {files : List ℕ}
    {source : IsTrue before.tells → Source} {r : Result Totals PlayFault} {p : Play} → Behind before old w file places files
    → PlaysAt before old w seed file source p → OnlyPlays old new p
    → ((u : View) (es : List Place) (fs : List ℕ) → IsBehind u old es fs p → HasEnded Untold kept u old new es fs p r)
    → Ended kept before old new w seed file places files source r
ended_at {kept} {before} {old} {new} {w} {seed} {file} {places} {files} {source} {r} {p} b q o ended =
    let names : (t : IsTrue before.tells) → AreOthers before places (names_at (places_in p)) =
    λ t. subst (λ (z : Places). AreOthers before places (names_at z)) (sym q.places) (b.names t) in
    let h = ended before places files (record {
      came = b.came;
      among = subst (λ (f : ℕ). IsAmong f files) (sym q.reads) b.among;
      counts = b.counts;
      parts = λ e m k. b.parts (number_of e) (subst (λ (z : Places). HasPart (outputs_at z) (number_of e)) q.places m) k;
      departures = λ t. (names t).0;
      fates = λ t. (names t).1.0;
      stats = λ t. (names t).1.1.0;
    }) in
    let of : (P : Source → Type 0) → OfSource old p P → (t : IsTrue before.tells) → P (source t) =
    λ P x t. x (b.came.keeps.tells ∙ t) (source t) (q.is t) in
    rw (← q.places, ← q.seeded, ← q.reads) (record {
      done = IfOk-weaker r _ _ (λ totals x. of _ x) h.done;
      fails = MatchResult-weaker r h.fails (λ totals x. x) (λ fault x. fails_by (OfSource old p) _ (places_in p) p.seed before new fault of x);
      fronts = of _ h.fronts;
      must = λ k. of _ (h.must k);
      along = h.along;
      came = h.came;
      counts = h.counts;
      keeps = o.keeps;
      took = o.took;
      only = o.only;
      said = o.said;
    })

-- what was played is played where its outputs keep their bytes
abbrev pub played_on : {v w : View} {p : Places} {seed : ℕ} {s : Source} {N : List ℕ → Type 0} {F : ℕ → Type 0} → Keeps N F v w
    → AllByRecursion N (names_at p) → WasPlayed v p seed s → WasPlayed w p seed s
played_on k n h = record {
  records = h.records;
  history = h.history;
  totals = h.totals;
  capture = h.capture;
  play = h.play;
  texts = record { departures = k.bytes _ n.0 ∙ h.texts.departures; fates = k.bytes _ n.1.0 ∙ h.texts.fates };
  stats = k.bytes _ n.1.1.0 ∙ h.stats;
  reads = h.reads;
  promises = h.promises;
}
