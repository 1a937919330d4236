-- How a play ended.
use Rattle.std.proofs.Common.{◌≡◌, ◌≢◌, ◌≤◌, ◌+◌, ◌++◌, ◌∙◌, ◌⊎◌, ℕ, List, [], ◌∷◌, length, length-append, Ok, Err, None, Some, ap, sym, refl, subst, inl, inr, arith}
use Rattle.std.specs.Prelude.{Bool, IfOk, IsTrue, OnOk, Option, false, true}
use Rattle.std.specs.declared.result.Result.{Result}
use Rattle.altq_model.specs.History.{LabelledEvent}
use Rattle.arrivals_source.specs.Chosen.{first_of, is_streamed}
use Rattle.arrivals_source.specs.Counted.{IsNoLonger}
use Rattle.arrivals_source.specs.declared.way.Way.{Way}
use Rattle.arrivals_source.specs.declared.way.Way.TheVariants.{AsGiven, Converted, Marked, MarkedConverted}
use Rattle.file_plans.specs.Came.{AreEmpty, Came, CameAlong, IsAmong, IsOf}
use Rattle.file_plans.specs.End.{Untouched}
use Rattle.file_plans.specs.Plan.{HasPart, IsOther, Place, number_of}
use Rattle.file_plans.proofs.AlongLaws.{empty_holds, names_apart, other_at}
use Rattle.file_plans.proofs.CameLaws.{came_more, came_none, came_works, none_some, of_fresh, other_first, other_later, other_second, other_where_told, same_part, there_or_not, written_all}
use Rattle.file_plans.proofs.EndLaws.{came_all, came_some, came_then}
use Rattle.frame_classes.specs.Frames.{Classes}
use Rattle.pcapng_files.specs.Fronts.{with_front}
use Rattle.play_base.specs.View.{View, SameCounts}
use Rattle.play_base.proofs.ViewLaws.{is_some_of, later_trans, rose_later, same_trans}
use Rattle.play_core.specs.declared.totals.Totals.{Totals}
use Rattle.play_loop.specs.declared.fault.Opened.{Opened}
use Rattle.play_loop.specs.declared.fault.Output.TheVariants as output
use Rattle.play_loop.specs.declared.fault.PlayFault.{PlayFault}
use Rattle.play_loop.specs.declared.fault.PlayFault.TheVariants as play
use Rattle.play_loop.specs.declared.kept.KeptFate.{KeptFate}
use Rattle.play_loop.specs.Kept.{IsNoOutput}
use Rattle.play_loop.specs.Played.{AreReady}
use Rattle.play_loop.specs.Setup.{Setup}
use Rattle.play_loop.specs.Told.{HasDecided}
use Rattle.run_outcomes.specs.Faults.{IsQuiet}
use Rattle.interface_play.specs.declared.play.Play.{Play}
use Rattle.interface_play.specs.Ended.{HasEnded, IsBehind, OnlyPlays}
use Rattle.interface_play.specs.Expected.{CameAsExpected}
use Rattle.interface_play.specs.Failing.{PlayFails}
use Rattle.interface_play.specs.Fronts.{Fronts, IsFrontAt, TookFirst}
use Rattle.interface_play.specs.Laws.{HaveLaws}
use Rattle.interface_play.specs.Setup.{IsConfigured, Untold}
use Rattle.interface_play.specs.Source.{AreSeparate, IsSource, OfSource, Places, Source, outputs_at, places_in}
use Rattle.interface_play.specs.Steps.{AreBare, CameThrough, IsBareAt, IsUncreated, memory_fault, told_as}
use Rattle.interface_play.proofs.EndLemmas.{done_as_expected, fails_as_expected}
use Rattle.interface_play.proofs.FailingLaws.{fails_by}
use Rattle.interface_play.proofs.FrontLaws.{played_fronts}
use Rattle.interface_play.proofs.NewLemmas.{has_first, part_of, untouched_by, untouched_then}
use Rattle.interface_play.proofs.SeeingLemmas.{CameIn, Run}
use Rattle.interface_play.proofs.StepLemmas.{Steps, done_of, fails_of, fronts_of, opened_in, rest_of}

-- a failure is as it must be
expected : (before old new : View) (p : Play) (f : PlayFault) → HaveLaws → IsConfigured p.interface.now
    → PlayFails (OfSource old p) (places_in p) p.seed before new f → IsQuiet before new → OfSource old p (CameAsExpected (places_in p) p.seed (Err f))
expected before old new p f laws configured fails q = λ t s h.
    fails_as_expected before new (places_in p) p.seed s laws (subst IsConfigured (sym h.interface) configured) q f
    (fails_by (OfSource old p) (λ P. P s) (places_in p) p.seed before new f (λ P x. x t s h) fails)

-- it failed
pub failed : (stood : List LabelledEvent → Type 0) (kept : List KeptFate → Type 0) (before old new : View) (places : List Place) (files : List ℕ) (p : Play)
    (f : PlayFault) → HaveLaws → IsConfigured p.interface.now → PlayFails (OfSource old p) (places_in p) p.seed before new f
    → OfSource old p (Fronts before new (places_in p) p.seed) → CameAlong (places ++ outputs_at (places_in p)) before new
    → HasEnded stood kept before old new places files p (Err f)
failed stood kept before old new places files p f laws configured fails fronts along = record {
  done = tt;
  fails = fails;
  fronts = fronts;
  must = λ q. expected before old new p f laws configured fails q;
  along = along;
  came = tt;
  counts = tt;
}

-- an output that is bare holds a front of every text
front_bare : (before old new : View) (places : List Place) (files : List ℕ) (e : Place) (text : List ℕ) → Came places files before old
    → (HasPart places (number_of e) → ⊥) → IsOther before places e.name → IsTrue old.tells
    → ((f p : ℕ) → old.part f ≡ Some p → new.part f ≡ Some p) → IsBareAt old new e → IsFrontAt before new e text
front_bare before old new places files e text came none other t part bare = by (bare t)
  where
    by : (Untouched old new (number_of e) × (new.bytes e.name ≡ old.bytes e.name)) ⊎ (new.bytes e.name ≡ Some []) → IsFrontAt before new e text
    by (inl h) = inl (
      untouched_then before old new (number_of e) part (untouched_by before old places files (number_of e) came none) h.0,
      h.1 ∙ came.keeps.bytes e.name other,
    )
    by (inr h) = inr ([], text, h, refl)

-- a play may begin: its arrivals are there, and of a classic capture at most four bytes were taken
pub record Starts (old : View) (p : Play) : Type 0 where
  pub separate : AreSeparate (places_in p)
  pub there : old.part p.file ≡ Some (number_of (places_in p).arrivals)
  pub named : IsTrue old.tells → old.name p.file ≡ p.arrivals.name.now
  pub few : p.given.now.rest ≡ true → length p.given.now.front.items ≤ 4

-- the arrivals have another name than the outputs
arrivals_other : (old : View) (p : Play) → Starts old p → IsTrue old.tells → IsOther old (outputs_at (places_in p)) (old.name p.file)
arrivals_other old p s t =
    let w = places_in p in
    let a = s.separate in
    subst (λ (m : List ℕ). IsOther old (outputs_at w) m) (sym (s.named t))
    (other_where_told old p.arrivals.name.now (outputs_at w) t
    (written_all w.departures.way _ a.arrivals_departures, (written_all w.fates.way _ a.arrivals_fates, (written_all w.stats.way _ a.arrivals_stats, tt))))

-- so they keep what they have left while outputs come to be
module _ (old new : View) (p : Play) (s : Starts old p) (along : CameAlong (outputs_at (places_in p)) old new) where
  within : (n : List ℕ) → IsOther old (outputs_at (places_in p)) n → IsOther old along.front n
  within n h = other_first old n along.front along.rest (subst (λ (es : List Place). IsOther old es n) along.split h)

  pub still_left : IsTrue old.tells → new.left p.file ≡ old.left p.file
  still_left t = along.came.keeps.left p.file (number_of (places_in p).arrivals) s.there (within (old.name p.file) (arrivals_other old p s t))

-- the bytes behind those that stand in front
own_left : (rest : Bool) (front capture : List ℕ) (left : Option (List ℕ)) → rest ≡ true → with_front true rest front left ≡ Some capture
    → (own : List ℕ) × (left ≡ Some own) × (length capture ≡ length front + length own)
own_left true front capture None r e = absurd (cc)
own_left true front capture (Some own) r e =
    let same : front ++ own ≡ capture = cc in (own, refl, ap (λ (l : List ℕ). length l) (sym same) ∙ length-append front own)
own_left false front capture left r e = absurd (cc)

-- nothing was created
pub none_bare : (w : Places) (v : View) → AreBare w v v
none_bare w v = record { departures = λ t. inl (none, refl); fates = λ t. inl (none, refl); stats = λ t. inl (none, refl) }
  where
    none : {part : ℕ} → Untouched v v part
    none {part} f fresh e = none_some part (sym fresh ∙ e)

-- its outputs did not all come to be, or there was no memory behind them
module _ (before old new : View) (places : List Place) (files : List ℕ) (p : Play) (b : IsBehind before old places files p) (starts : Starts old p)
    (along : CameAlong (outputs_at (places_in p)) old new) (bare : AreBare (places_in p) old new) where
  abbrev At : Places
  At = places_in p

  kept_part : (f q : ℕ) → old.part f ≡ Some q → new.part f ≡ Some q
  kept_part = along.came.keeps.part

  front_of : (e : Place) (text : List ℕ) → HasPart (outputs_at At) (number_of e) → (IsTrue before.tells → IsOther before places e.name) → IsTrue old.tells
      → IsBareAt old new e → IsFrontAt before new e text
  front_of e text of other t x =
      front_bare before old new places files e text b.came (b.parts e of) (other (sym b.came.keeps.tells ∙ t)) t kept_part x

  took_first : IsTrue old.tells → (s : Source) → IsSource old p s → s.in_memory ≡ false → TookFirst before new At s
  took_first t s h memory =
      let rest = rest_of p.given.now.rest (sym h.in_memory ∙ memory) in
      let few = starts.few rest in
      let y = own_left p.given.now.rest p.given.now.front.items s.capture (old.left p.file) rest h.capture in
      let size = y.2 in
      record {
        file = p.file;
        fresh = of_fresh before old places files p.file b.came.are b.among;
        part = kept_part p.file (number_of At.arrivals) starts.there;
        took = record { rest = y.0; left = still_left old new p starts along t ∙ y.1; within = omega (arith, few, size) };
      }

  fronts_bare : OfSource old p (Fronts before new At p.seed)
  fronts_bare = λ t s h. record {
    heads = inr (inl (front_of At.fates [] (inr (inl refl)) b.fates t bare.fates), λ memory. inr (took_first t s h memory));
    texts = λ records last reads is_last. record {
      history = [];
      begun = record { events = tt; in_time = tt };
      departures = front_of At.departures _ (inl refl) b.departures t bare.departures;
      fates = front_of At.fates _ (inr (inl refl)) b.fates t bare.fates;
      stats = inl (front_of At.stats [] (inr (inr (inl refl))) b.stats t bare.stats);
    };
  }

  fails_bare : (f : PlayFault) → IsUncreated At old new f → PlayFails (OfSource old p) At p.seed before new f
  fails_bare (play.Write output.Departures) x = rose_later _ _ _ (b.came.keeps.later.write (number_of At.departures)) x
  fails_bare (play.Write output.Fates) x = rose_later _ _ _ (b.came.keeps.later.write (number_of At.fates)) x
  fails_bare (play.Write output.Statistics) x = (
    rose_later _ _ _ (b.came.keeps.later.write (number_of At.stats)) x.0,
    inl (untouched_then before old new (number_of At.stats) kept_part
        (untouched_by before old places files (number_of At.stats) b.came (b.parts At.stats (inr (inr (inl refl))))) x.1),
  )
  fails_bare (play.Capture d) x = absurd x
  fails_bare play.Read x = absurd x
  fails_bare (play.Limit l) x = absurd x
  fails_bare play.NoMemory x = tt

  pub uncreated : (stood : List LabelledEvent → Type 0) (kept : List KeptFate → Type 0) (f : PlayFault) → HaveLaws → IsConfigured p.interface.now
      → IsUncreated At old new f → HasEnded stood kept before old new places files p (Err f)
  uncreated stood kept f laws configured x =
      failed stood kept before old new places files p f laws configured (fails_bare f x) fronts_bare
      (came_then places (outputs_at At) files before old new b.came along)

-- no output came to be at all
pub unbuilt : (before old : View) (places : List Place) (files : List ℕ) (p : Play) (stood : List LabelledEvent → Type 0) (kept : List KeptFate → Type 0)
    → HaveLaws → IsConfigured p.interface.now → Starts old p → IsBehind before old places files p → HasEnded stood kept before old old places files p (Err play.NoMemory)
unbuilt before old places files p stood kept laws configured starts b =
    uncreated before old old places files p b starts (came_some [] (outputs_at (places_in p)) [] old old (came_none old)) (none_bare (places_in p) old) stood kept play.NoMemory
    laws configured tt

-- so the loop may begin
pub ready_of : (old created : View) (p : Play) (o : Opened) → Starts old p → Came (outputs_at (places_in p)) (o.departures ∷ o.fates ∷ o.stats ∷ []) old created
    → (IsTrue old.tells → AreEmpty created (outputs_at (places_in p))) → o.arrivals ≡ p.file → length o.first.now ≤ 4 → AreReady created o
ready_of old created p o starts came empty is few =
    let w = places_in p in
    let s = starts.separate in
    let outs = outputs_at w in
    let fs : List ℕ = o.departures ∷ o.fates ∷ o.stats ∷ [] in
    record {
      arrivals = is_some_of _ (number_of w.arrivals) (ap created.part is ∙ came.keeps.part p.file (number_of w.arrivals) starts.there);
      few = omega (arith, few);
      empty = record {
        departures = empty_holds outs fs 0 w.departures old created refl s.departures came empty;
        fates = empty_holds outs fs 1 w.fates old created refl s.fates came empty;
        apart = names_apart outs fs 0 1 w.departures w.fates old created refl refl s.departures_fates came;
      };
      from_departures = λ t. beside t w.departures o.departures came.are.0 s.arrivals_departures;
      from_fates = λ t. beside t w.fates o.fates came.are.1.0 s.arrivals_fates;
      stats = empty_holds outs fs 2 w.stats old created refl s.stats came empty;
      departures_from_stats = names_apart outs fs 0 2 w.departures w.stats old created refl refl s.departures_stats came;
      fates_from_stats = names_apart outs fs 1 2 w.fates w.stats old created refl refl s.fates_stats came;
    }
  where
    beside : IsTrue created.tells → (e : Place) (file : ℕ) → IsOf old created e file → p.arrivals.name.now ≢ e.name
        → created.name o.arrivals ≡ created.name file → ⊥
    beside t e file of other h =
        let told : IsTrue old.tells = sym came.keeps.tells ∙ t in
        other (sym (starts.named told) ∙ sym (came.keeps.name p.file _ starts.there) ∙ ap created.name (sym is) ∙ h ∙ of.name told)

-- a name that is no output's is that of no file of an output
no_output : (r : Run) → Steps r → (n : List ℕ) → IsOther r.old (outputs_at (places_in r.play)) n → IsNoOutput r.created r.opened n
no_output r s n h =
    let w = places_in r.play in
    let d = other_at r.old (outputs_at w) 0 w.departures n refl s.separate.departures h in
    let f = other_at r.old (outputs_at w) 1 w.fates n refl s.separate.fates h in
    let z = other_at r.old (outputs_at w) 2 w.stats n refl s.separate.stats h in (
      (λ e. d.1 (e ∙ s.came.are.0.name d.0)),
      (λ e. f.1 (e ∙ s.came.are.1.0.name f.0)),
      (λ e. z.1 (e ∙ s.came.are.1.1.0.name z.0)),
    )

-- what a play leaves of the files that stood when it began
pub only_plays : (r : Run) → Steps r → IsNoLonger r.old r.after r.play.file → OnlyPlays r.old r.after r.play
only_plays r s took =
    let outs = outputs_at (places_in r.play) in
    let P : List ℕ → Type 0 = λ m. IsNoOutput r.created r.opened m in
    record {
      keeps = record {
        tells = s.played.tells ∙ s.came.keeps.tells;
        bytes = λ n h. s.played.bytes n (no_output r s n h) ∙ s.came.keeps.bytes n h;
        left = λ f p at h.
            s.played.left f p (s.came.keeps.part f p at)
            ((λ e. h.0 (e ∙ s.arrivals)), subst P (sym (s.came.keeps.name f p at)) (no_output r s (r.old.name f) h.1)) ∙ s.came.keeps.left f p at h.1;
        part = λ f p at. s.played.part f p (s.came.keeps.part f p at);
        name = λ f p at. s.played.name f p (s.came.keeps.part f p at) ∙ s.came.keeps.name f p at;
        later = later_trans r.old r.created r.after s.came.keeps.later s.played.later;
      };
      took = took;
      only = λ f q fresh e. by f q fresh e (there_or_not (r.created.part f));
      said = s.said;
    }
  where
    by : (f q : ℕ) → r.old.part f ≡ None → r.after.part f ≡ Some q → (r.created.part f ≡ None) ⊎ ((k : ℕ) × (r.created.part f ≡ Some k))
        → HasPart (outputs_at (places_in r.play)) q
    by f q fresh e (inl none) = absurd (none_some q (sym (s.none f none) ∙ e))
    by f q fresh e (inr k) =
        let same : k.0 ≡ q = same_part k.0 q (sym (s.played.part f k.0 k.1) ∙ e) in
        part_of r.old r.created (outputs_at (places_in r.play)) (opened_in r) f q s.came.are (s.came.only f k.0 fresh k.1)
        (k.1 ∙ ap (λ (n : ℕ). Some n) same)

-- so it is where only outputs came to be
pub only_created : (old new : View) (p : Play) → Starts old p → CameAlong (outputs_at (places_in p)) old new → new.said ≡ old.said → OnlyPlays old new p
only_created old new p starts along said =
    let k = along.came.keeps in
    record {
      keeps = record {
        tells = k.tells;
        bytes = λ n h. k.bytes n (within old new p starts along n h);
        left = λ f q at h. k.left f q at (within old new p starts along (old.name f) h.1);
        part = k.part;
        name = k.name;
        later = k.later;
      };
      only = λ f q fresh e. has_first q along.front along.rest (outputs_at (places_in p)) along.split (part_of old new along.front along.files f q along.came.are (along.came.only f q fresh e) e);
      took = λ t all at. (all, still_left old new p starts along t ∙ at, omega arith);
      said = said;
    }

among_both : (f : ℕ) (fs gs : List ℕ) → IsAmong f fs → IsAmong f (fs ++ gs)
among_both f [] gs h = absurd h
among_both f (g ∷ fs) gs (inl h) = inl h
among_both f (g ∷ fs) gs (inr h) = inr (among_both f fs gs h)

module _ (r : Run) (s : Steps r) (before : View) (places : List Place) (files : List ℕ) (b : IsBehind before r.old places files r.play) where
  all_came : Came (places ++ outputs_at (places_in r.play)) (files ++ opened_in r) before r.after
  all_came =
      let outs = outputs_at (places_in r.play) in
      let came = came_more places outs files (opened_in r) before r.old r.created b.came s.came in
      let P : List ℕ → Type 0 = λ m. IsOther r.created (places ++ outs) m in
      came_works (places ++ outs) (files ++ opened_in r) before r.created r.after came (record {
        keeps = record {
          tells = s.played.tells;
          bytes = λ n h. s.played.bytes n (beside n h);
          left = λ f p at h.
              s.played.left f p at
              ((λ e. h.1 (among_both f files (opened_in r) (subst (λ (g : ℕ). IsAmong g files) (sym (e ∙ s.arrivals)) b.among))), beside (r.created.name f) h.0);
          part = s.played.part;
          name = s.played.name;
          later = s.played.later;
        };
        none = s.none;
      })
    where
      beside : (n : List ℕ) → IsOther r.created (places ++ outputs_at (places_in r.play)) n → IsNoOutput r.created r.opened n
      beside n h =
          no_output r s n
          (other_later r.created r.old n (outputs_at (places_in r.play)) (sym s.came.keeps.tells) (other_second r.created n places (outputs_at (places_in r.play)) h))

  failed_so : (stood : List LabelledEvent → Type 0) (kept told : List KeptFate → Type 0) (fault f : PlayFault) → CameIn r stood told (Err fault)
      → PlayFails (OfSource r.old r.play) (places_in r.play) r.play.seed before r.after f → HasEnded stood kept before r.old r.after places files r.play (Err f)
  failed_so stood kept told fault f came fails =
      failed stood kept before r.old r.after places files r.play f s.laws s.configured fails (fronts_of r s before places files b fault came.1 came.2 came.3)
      (came_all _ _ before r.after all_came)

  -- it was played, or it was but for a fault
  pub ended : (stood : List LabelledEvent → Type 0) (kept : List KeptFate → Type 0) (rest : Bool) (o : Result Totals PlayFault) → r.play.given.now.rest ≡ rest
      → SameCounts r.old r.created → OnOk o (SameCounts r.created r.after) → CameIn r stood kept o
      → HasEnded stood kept before r.old r.after places files r.play (told_as rest o)
  ended stood kept rest (Ok totals) is created counts came =
      let done = done_of r s stood kept totals came.0 in
      record {
        done = done;
        fails = tt;
        fronts = λ t z h. played_fronts before r.after (places_in r.play) r.play.seed z (done t z h).played;
        must = λ q t z h. done_as_expected r.after (places_in r.play) r.play.seed z totals (done t z h).played;
        along = came_all _ _ before r.after all_came;
        came = (opened_in r, all_came);
        counts = same_trans before r.old r.after b.counts (same_trans r.old r.created r.after created counts);
      }
  ended stood kept true (Err fault) is created counts came =
      failed_so stood kept kept fault fault came (fails_of r s before places files b fault came.0 came.2 (λ e. is))
  ended stood kept false (Err fault) is created counts came = by fault came
    where
      by : (f : PlayFault) → CameIn r stood kept (Err f) → HasEnded stood kept before r.old r.after places files r.play (Err (memory_fault f))
      by play.Read x = failed_so stood kept kept play.Read play.NoMemory x tt
      by (play.Capture d) x = failed_so stood kept kept (play.Capture d) (play.Capture d) x (fails_of r s before places files b (play.Capture d) x.0 x.2 (λ e. absurd (cc)))
      by (play.Write o) x = failed_so stood kept kept (play.Write o) (play.Write o) x (fails_of r s before places files b (play.Write o) x.0 x.2 (λ e. absurd (cc)))
      by (play.Limit l) x = failed_so stood kept kept (play.Limit l) (play.Limit l) x (fails_of r s before places files b (play.Limit l) x.0 x.2 (λ e. absurd (cc)))
      by play.NoMemory x = failed_so stood kept kept play.NoMemory play.NoMemory x tt

-- whatever the files tell, of a play that is done
pub decided_as : {x : Setup} {stood : List LabelledEvent → Type 0} {kept : List KeptFate → Type 0} {p : Play} {o : Opened} {old new : View} (rest : Bool)
    (r : Result Totals PlayFault) → CameThrough x stood kept p o r old new → IfOk (told_as rest r) (HasDecided x kept)
decided_as rest (Ok totals) c = c.came.1
decided_as true (Err fault) c = tt
decided_as false (Err fault) c = tt

first_few : (way : Way Classes) (rest : Bool) (front : List ℕ) → is_streamed way ≡ rest → (rest ≡ true → length front ≤ 4) → length (first_of way front) ≤ 4
first_few AsGiven rest front e few = few (sym e)
first_few Converted rest front e few = omega arith
first_few (Marked m) rest front e few = omega arith
first_few (MarkedConverted m) rest front e few = omega arith

pub few_first : (way : Way Classes) (rest : Bool) (front first : List ℕ) → is_streamed way ≡ rest → (rest ≡ true → length front ≤ 4) → first ≡ first_of way front
    → length first ≤ 4
few_first way rest front first e few is = subst (λ (l : List ℕ). length l ≤ 4) (sym is) (first_few way rest front e few)

pub no_longer_since : (old created after : View) (file : ℕ) → created.tells ≡ old.tells → (IsTrue old.tells → created.left file ≡ old.left file)
    → IsNoLonger created after file → IsNoLonger old after file
no_longer_since old created after file same left x = λ t all at. x (same ∙ t) all (left t ∙ at)

-- whatever discipline played it
pub ended_untold : (stood : List LabelledEvent → Type 0) (kept : List KeptFate → Type 0) (before old new : View) (places : List Place) (files : List ℕ) (p : Play)
    (o : Result Totals PlayFault) → HasEnded stood kept before old new places files p o → HasEnded Untold kept before old new places files p o
ended_untold stood kept before old new places files p (Ok totals) x = record {
  done = λ t s h.
      let d = x.done t s h in
      record { played = d.played; totals = d.totals; stands = (d.played.history, tt, refl); told = d.told };
  fails = tt;
  fronts = x.fronts;
  must = x.must;
  along = x.along;
  came = x.came;
  counts = x.counts;
}
ended_untold stood kept before old new places files p (Err fault) x = record {
  done = tt;
  fails = x.fails;
  fronts = x.fronts;
  must = x.must;
  along = x.along;
  came = tt;
  counts = tt;
}
