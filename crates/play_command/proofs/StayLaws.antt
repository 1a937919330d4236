-- What a play left stays so where calls that follow touch none of its outputs.
use Rattle.std.proofs.Common.{◌≡◌, ◌∙◌, ◌⊎◌, ℕ, List, [], Some, Ok, Err, IsTrue, sym, refl, inl, inr}
use Rattle.std.specs.declared.result.Result.{Result}
use Rattle.altq_model.specs.History.{LabelledEvent}
use Rattle.capture_model.specs.Capture.{Record}
use Rattle.command_form.proofs.FirstLaws.{was_there}
use Rattle.file_plans.specs.End.{Untouched}
use Rattle.file_plans.specs.Came.{CameAlong}
use Rattle.file_plans.specs.Plan.{HasPart, Place, number_of}
use Rattle.file_plans.proofs.CameLaws.{came_works, none_some}
use Rattle.file_plans.proofs.EndLaws.{came_some}
use Rattle.interface_play.specs.declared.play.Play.{Play}
use Rattle.interface_play.specs.Ended.{HasEnded, IsBehind}
use Rattle.interface_play.specs.Fronts.{Fronts, HasFronts, HasStatsFront, HeadsFirst, IsFrontAt, RowsWait, TookFirst}
use Rattle.interface_play.specs.Played.{IsDone}
use Rattle.interface_play.specs.Source.{Places, Source, outputs_at, places_in}
use Rattle.interface_play.proofs.FrontLaws.{fronts_none}
use Rattle.interface_play.proofs.NewLemmas.{part_of}
use Rattle.play_base.specs.View.{View, Everything, Keeps}
use Rattle.play_base.proofs.ViewLaws.{keeps_fewer, keeps_refl, rose_before}
use Rattle.play_core.specs.declared.totals.Totals.{Totals}
use Rattle.play_loop.specs.declared.fault.PlayFault.{PlayFault}
use Rattle.play_loop.specs.declared.fault.PlayFault.TheVariants as fault
use Rattle.play_loop.specs.declared.kept.KeptFate.{KeptFate}
use Rattle.play_loop.specs.Setup.{Setup}
use Rattle.run_outcomes.specs.Faults.{IsQuiet}
use Rattle.run_outcomes.specs.Reported.{OnlySays}

-- the place's name keeps its bytes, and no other file of its part comes to be
pub record Stays (v w : View) (e : Place) : Type 0 where
  pub bytes : w.bytes e.name ≡ v.bytes e.name
  pub part : (f p : ℕ) → v.part f ≡ Some p → w.part f ≡ Some p
  pub none : Untouched v w (number_of e)

pub record AllStay (v w : View) (p : Places) : Type 0 where
  pub departures : Stays v w p.departures
  pub fates : Stays v w p.fates
  pub stats : Stays v w p.stats

-- the outputs do where their names keep their bytes, and no file of their parts comes to be
module _ {N : List ℕ → Type 0} {F : ℕ → Type 0} {v w : View} (k : Keeps N F v w) (p : Places) (none : (e : Place) → HasPart (outputs_at p) (number_of e) → Untouched v w (number_of e)) where
  one_stays : (e : Place) → N e.name → HasPart (outputs_at p) (number_of e) → Stays v w e
  one_stays e m h = record { bytes = k.bytes e.name m; part = k.part; none = none e h }

  pub all_stay : N p.departures.name → N p.fates.name → N p.stats.name → AllStay v w p
  all_stay d f s = record {
    departures = one_stays p.departures d (inl refl);
    fates = one_stays p.fates f (inr (inl refl));
    stats = one_stays p.stats s (inr (inr (inl refl)));
  }

-- nothing was done
pub says_nothing : (v : View) → OnlySays v v
says_nothing v = record { keeps = keeps_refl Everything Everything v; none = λ f e. e }

-- BEHIND WHAT ONLY SAYS SOMETHING everything stays, and the faults and the files are as they were
module _ {v w : View} (o : OnlySays v w) where
  pub says_stay : (p : Places) → AllStay v w p
  says_stay p = all_stay o.keeps p (λ e h f fresh k. none_some (number_of e) (sym (o.none f fresh) ∙ k)) tt tt tt

  pub quiet_before : (u : View) → IsQuiet u w → IsQuiet u v
  quiet_before u q part l =
      let x = q part l in
      (λ r. x.0 (rose_before _ _ _ r (o.keeps.later.read part)), λ m r. x.1 m (rose_before _ _ _ r (o.keeps.later.write part)))

  pub along_after : {es : List Place} {u : View} → CameAlong es u v → CameAlong es u w
  along_after x = record {
    front = x.front;
    rest = x.rest;
    split = x.split;
    files = x.files;
    came =
        came_works x.front x.files _ v w x.came
        (record { keeps = keeps_fewer Everything _ Everything _ v w (λ m _. tt) (λ f _. tt) o.keeps; none = o.none });
  }

-- so do fronts, and what is done
module _ (u v w : View) (p : Places) (k : AllStay v w p) where
  untouched_on : (e : Place) → Stays v w e → Untouched u v (number_of e) → Untouched u w (number_of e)
  untouched_on e s x = λ f fresh h. x f fresh (was_there v w (number_of e) f s.part s.none h)

  front_on : (e : Place) (text : List ℕ) → Stays v w e → IsFrontAt u v e text → IsFrontAt u w e text
  front_on e text s (inl x) = inl (untouched_on e s x.0, s.bytes ∙ x.1)
  front_on e text s (inr x) = inr (x.0, x.1, s.bytes ∙ x.2, x.3)

  stats_on : (x : Setup) (records : List Record) → HasStatsFront u v p x records → HasStatsFront u w p x records
  stats_on x records (inl h) = inl (front_on p.stats [] k.stats h)
  stats_on x records (inr h) = inr (
    h.0,
    h.1,
    record { departures = k.departures.bytes ∙ h.2.departures; fates = k.fates.bytes ∙ h.2.fates },
    front_on p.stats _ k.stats h.3,
  )

  heads_on : (s : Source) → OnlySays v w → HeadsFirst u v p s → HeadsFirst u w p s
  heads_on s o (inl x) = inl ((x.0.0, k.departures.bytes ∙ x.0.1), (x.1.0, k.fates.bytes ∙ x.1.1))
  heads_on s o (inr x) = inr (rows x.0, λ memory. few (x.1 memory))
    where
      rows : RowsWait u v p → RowsWait u w p
      rows (inl y) = inl (front_on p.fates [] k.fates y)
      rows (inr y) = inr (y.0, k.departures.bytes ∙ y.1)

      few : Untouched u v (number_of p.departures) ⊎ TookFirst u v p s → Untouched u w (number_of p.departures) ⊎ TookFirst u w p s
      few (inl y) = inl (untouched_on p.departures k.departures y)
      few (inr y) = inr (record {
        file = y.file;
        fresh = y.fresh;
        part = o.keeps.part y.file _ y.part;
        took = record { rest = y.took.rest; left = o.keeps.left y.file _ y.part tt ∙ y.took.left; within = y.took.within };
      })

  texts_on : (x : Setup) (records : List Record) → HasFronts u v p x records → HasFronts u w p x records
  texts_on x records y = record {
    history = y.history;
    begun = y.begun;
    departures = front_on p.departures _ k.departures y.departures;
    fates = front_on p.fates _ k.fates y.fates;
    stats = stats_on _ records y.stats;
  }

pub fronts_on : {u v w : View} {p : Places} {seed : ℕ} {s : Source} → OnlySays v w → Fronts u v p seed s → Fronts u w p seed s
fronts_on {u} {v} {w} {p} {s = s} o h =
    let k = says_stay o p in
    record { heads = heads_on u v w p k s o h.heads; texts = λ records last reads is_last. texts_on u v w p k _ records (h.texts records last reads is_last) }

pub done_on : {stood : List LabelledEvent → Type 0} {kept : List KeptFate → Type 0} {v w : View} {p : Places} {seed : ℕ} {totals : Totals} {s : Source}
    → AllStay v w p → IsDone stood kept v p seed totals s → IsDone stood kept w p seed totals s
done_on k d =
    let h = d.played in
    record {
      played = record {
        records = h.records;
        history = h.history;
        totals = h.totals;
        capture = h.capture;
        play = h.play;
        texts = record { departures = k.departures.bytes ∙ h.texts.departures; fates = k.fates.bytes ∙ h.texts.fates };
        stats = k.stats.bytes ∙ h.stats;
        reads = h.reads;
        promises = h.promises;
      };
      totals = d.totals;
      stands = d.stands;
      told = d.told;
    }

-- nothing was created
pub unbegun_fronts : (u v : View) (p : Places) (seed : ℕ) (s : Source) → AllStay u v p → Fronts u v p seed s
unbegun_fronts u v p seed s k =
    fronts_none u v p seed s (k.departures.none, k.departures.bytes) (k.fates.none, k.fates.bytes) (k.stats.none, k.stats.bytes)

-- a play that did not begin
module _ {u a : View} {places : List Place} {files : List ℕ} {p : Play} (b : IsBehind u a places files p) where
  behind_stays : IsTrue u.tells → AllStay u a (places_in p)
  behind_stays t =
      all_stay b.came.keeps (places_in p)
      (λ e m f fresh k. b.parts e m (part_of u a places files f (number_of e) b.came.are (b.came.only f (number_of e) fresh k) k)) (b.departures t)
      (b.fates t) (b.stats t)

  pub unbegun_ends : {stood : List LabelledEvent → Type 0} {kept : List KeptFate → Type 0} → HasEnded stood kept u a a places files p (Err fault.NoMemory)
  unbegun_ends = record {
    done = tt;
    fails = tt;
    fronts = λ t s is. unbegun_fronts u a (places_in p) p.seed s (behind_stays (sym b.came.keeps.tells ∙ t));
    must = λ q t s is link o x. inr refl;
    along = came_some places (outputs_at (places_in p)) files u a b.came;
    came = tt;
    counts = tt;
  }

-- less is said of the histories and of what was kept
module _ {stood told : List LabelledEvent → Type 0} {kept more : List KeptFate → Type 0} {u a v : View} {places : List Place} {files : List ℕ} {p : Play} where
  pub done_as : {totals : Totals} → ((h : List LabelledEvent) → stood h → told h) → ((k : List KeptFate) → kept k → more k)
      → HasEnded stood kept u a v places files p (Ok totals) → HasEnded told more u a v places files p (Ok totals)
  done_as m n e = record {
    done = λ t s is.
        let d = e.done t s is in
        record { played = d.played; totals = d.totals; stands = (d.stands.0, m d.stands.0 d.stands.1, d.stands.2); told = n _ d.told };
    fails = tt;
    fronts = e.fronts;
    must = e.must;
    along = e.along;
    came = e.came;
    counts = e.counts;
  }

  pub failed_so : {f : PlayFault} → HasEnded stood kept u a v places files p (Err f) → HasEnded told more u a v places files p (Err f)
  failed_so e = record { done = tt; fails = e.fails; fronts = e.fronts; must = e.must; along = e.along; came = tt; counts = tt }

  -- and memory may run out behind it
  pub memory_behind : {r : Result Totals PlayFault} → HasEnded stood kept u a v places files p r
      → HasEnded told more u a v places files p (Err fault.NoMemory)
  memory_behind e =
      record { done = tt; fails = tt; fronts = e.fronts; must = λ q t s is link o x. inr refl; along = e.along; came = tt; counts = tt }
