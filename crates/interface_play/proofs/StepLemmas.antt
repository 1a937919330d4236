-- From the files of a play to the names of its places.
use Rattle.std.proofs.Common.{◌≡◌, ◌++◌, ◌∙◌, ◌⊎◌, ℕ, List, [], ◌∷◌, None, Some, ap, sym, refl, subst, inl, inr}
use Rattle.std.specs.Prelude.{Bool, IsTrue, cond, false, true}
use Rattle.altq_model.specs.History.{LabelledEvent}
use Rattle.capture_model.specs.Capture.{Record, Step, End, Fault, Limit, Reads, IsLast}
use Rattle.capture_model.specs.Header.{capture_header}
use Rattle.file_plans.specs.Came.{Came, IsOf}
use Rattle.file_plans.specs.Plan.{Place, number_of}
use Rattle.file_plans.proofs.CameLaws.{of_fresh}
use Rattle.interface_marks.specs.Conditioners.{marked_in}
use Rattle.pcap_files.proofs.ReadingLaws.{one_reading}
use Rattle.play_base.specs.Holds.{HoldsAt}
use Rattle.play_base.specs.View.{View, Later, NoneAppears, Rose}
use Rattle.play_base.proofs.ViewLaws.{later_trans, rose_later}
use Rattle.play_core.specs.declared.totals.Totals.{Totals}
use Rattle.play_text.specs.Texts.{fates_header}
use Rattle.play_loop.specs.declared.fault.Limit.TheVariants as limit
use Rattle.play_loop.specs.declared.fault.Output.TheVariants as output
use Rattle.play_loop.specs.declared.fault.PlayFault.{PlayFault}
use Rattle.play_loop.specs.declared.fault.PlayFault.TheVariants as play
use Rattle.play_loop.specs.declared.kept.KeptFate.{KeptFate}
use Rattle.play_loop.specs.Kept.{KeepsPlayed}
use Rattle.play_loop.specs.Played as loop
use Rattle.play_loop.specs.Setup.{arrivals_in}
use Rattle.interface_play.specs.Ended.{IsBehind}
use Rattle.interface_play.specs.Failing.{HasOffered, HasWholeTexts, IsCutShort, IsLate, IsOffered, PlayFails}
use Rattle.interface_play.specs.Fronts.{BeginsWith, Fronts, HasStatsFront, HeadsFirst, IsFrontAt, RowsWait}
use Rattle.interface_play.specs.Laws.{HaveLaws}
use Rattle.interface_play.specs.Played.{HoldTexts, IsDone, WasPlayed}
use Rattle.interface_play.specs.Setup.{IsConfigured, Untold}
use Rattle.interface_play.specs.Source.{AreSeparate, OfSource, Places, outputs_at, places_in}
use Rattle.interface_play.proofs.Cited.{promises_kept}
use Rattle.interface_play.proofs.SeeingLemmas.{Explained, FrontsOf, HeadsIn, IsGiven, LateIn, OffersOf, Run, Sees, ShortIn, StatsBegun, StatsLeft, StatsOf, ToldOf, TookFirst, of_source, setup_in, source_in}

abbrev pub opened_in : Run → List ℕ
opened_in r = r.opened.departures ∷ r.opened.fates ∷ r.opened.stats ∷ []

-- the outputs came to be, and then it was played
pub record Steps (r : Run) : Type 0 where
  pub separate : AreSeparate (places_in r.play)
  pub came : Came (outputs_at (places_in r.play)) (opened_in r) r.old r.created
  pub arrivals : r.opened.arrivals ≡ r.play.file
  pub there : r.old.part r.play.file ≡ Some (number_of (places_in r.play).arrivals)
  pub played : KeepsPlayed r.opened r.created r.after
  pub none : NoneAppears r.created r.after
  pub said : r.after.said ≡ r.old.said
  pub laws : HaveLaws
  pub configured : IsConfigured r.play.interface.now

-- what a file of the play holds stands under its name
at_name : (r : Run) (e : Place) (file : ℕ) → KeepsPlayed r.opened r.created r.after → IsOf r.old r.created e file → IsTrue r.old.tells
    → r.after.bytes e.name ≡ r.after.bytes (r.after.name file)
at_name r e file k of t = ap r.after.bytes (sym (k.name file (number_of e) of.part ∙ of.name t))

held_at : (r : Run) (e : Place) (file : ℕ) (text : List ℕ) → KeepsPlayed r.opened r.created r.after → IsOf r.old r.created e file → r.created.tells ≡ r.old.tells
    → IsTrue r.old.tells → HoldsAt r.after file text → r.after.bytes e.name ≡ Some text
held_at r e file text k of same t h = at_name r e file k of t ∙ h.bytes (k.tells ∙ same ∙ t)

front_at : (a c : View) (e : Place) (text written rest : List ℕ) → c.bytes e.name ≡ Some written → written ++ rest ≡ text → IsFrontAt a c e text
front_at a c e text written rest at s = inr (written, rest, at, s)

-- the statistics after a fault are empty, or a front
begins : (r : Run) (f : PlayFault) → StatsLeft r f → StatsBegun r
begins r (play.Write output.Departures) h = inl h
begins r (play.Write output.Fates) h = inl h
begins r (play.Write output.Statistics) h = inr h
begins r play.NoMemory h = h
begins r (play.Capture damage) h = inl h
begins r play.Read h = inl h
begins r (play.Limit limit) h = inl h

pub rest_of : (rest : Bool) → cond rest false true ≡ false → rest ≡ true
rest_of true e = refl
rest_of false e = absurd (cc)

module _ (r : Run) (s : Steps r) where
  abbrev At : Places
  At = places_in r.play

  departures_held : (text : List ℕ) → IsTrue r.old.tells → HoldsAt r.after r.opened.departures text → r.after.bytes At.departures.name ≡ Some text
  departures_held text t h = held_at r At.departures r.opened.departures text s.played s.came.are.0 s.came.keeps.tells t h

  fates_held : (text : List ℕ) → IsTrue r.old.tells → HoldsAt r.after r.opened.fates text → r.after.bytes At.fates.name ≡ Some text
  fates_held text t h = held_at r At.fates r.opened.fates text s.played s.came.are.1.0 s.came.keeps.tells t h

  stats_held : (text : List ℕ) → IsTrue r.old.tells → HoldsAt r.after r.opened.stats text → r.after.bytes At.stats.name ≡ Some text
  stats_held text t h = held_at r At.stats r.opened.stats text s.played s.came.are.1.1.0 s.came.keeps.tells t h

  texts_of : (records : List Record) (g : List LabelledEvent) → IsTrue r.old.tells
      → loop.HoldTexts r.after r.opened (setup_in r) (arrivals_in (setup_in r) records) g → HoldTexts r.after At (setup_in r) records g
  texts_of records g t h = record { departures = departures_held _ t h.departures; fates = fates_held _ t h.fates }

  -- it was played, and what was kept of it
  pub done_of : (stood : List LabelledEvent → Type 0) (kept : List KeptFate → Type 0) (totals : Totals)
      → Sees r (ToldOf (setup_in r) stood kept r.after r.opened totals) → OfSource r.old r.play (IsDone stood kept r.after At r.play.seed totals)
  done_of stood kept totals p = of_source r (IsDone stood kept r.after At r.play.seed totals) (λ t capture e.
      let x = p t capture e in
      let y = x.2.played in
      let was : WasPlayed r.after At r.play.seed (source_in r capture) = record {
        records = x.0;
        history = y.history;
        totals = totals;
        capture = x.1;
        play = y.play;
        texts = texts_of x.0 y.history t y.texts;
        stats = stats_held _ t y.stats;
        reads = y.reads;
        promises = promises_kept s.laws r.play.interface.now s.configured r.play.seed (marked_in r.play.interface.now capture) x.0 End x.1 y.history y.play.play.events;
      } in
      record { played = was; totals = refl; stands = y.stands; told = x.2.told })

  stats_front : (before : View) (capture : List ℕ) (records : List Record) (last : Step) → IsTrue r.old.tells → IsGiven r capture
      → Reads (marked_in r.play.interface.now capture) records last → IsLast last → StatsBegun r → HasStatsFront before r.after At (setup_in r) records
  stats_front before capture records last t e reads is_last (inl h) = inl (front_at before r.after At.stats [] [] [] (stats_held [] t h) refl)
  stats_front before capture records last t e reads is_last (inr h) =
      let y = h t capture e in
      let z = y.2 in
      let one = one_reading (marked_in r.play.interface.now capture) y.0 records End last y.1 tt reads is_last in
      let P : List Record → Type 0 = λ q. HasStatsFront before r.after At (setup_in r) q in
      subst P one.0
      (inr (
        z.history,
        z.play,
        texts_of y.0 z.history t z.texts,
        front_at before r.after At.stats _ z.stats.written z.stats.rest (stats_held _ t z.stats.holds) z.stats.split,
      ))

  -- all complete records were offered
  has_offered : (records : List Record) → loop.HasOffered (setup_in r) Untold r.after r.opened records → HoldsAt r.after r.opened.stats [] → IsTrue r.old.tells
      → HasOffered r.after At (setup_in r) records
  has_offered records z q t = record {
    history = z.history;
    begun = z.begun;
    all = z.all;
    last = z.last;
    texts = texts_of records z.history t z.texts;
    stats = stats_held [] t q;
  }

  offered_of : (last : Step) → Sees r (OffersOf (setup_in r) r.after r.opened last) → HoldsAt r.after r.opened.stats []
      → OfSource r.old r.play (λ z. IsOffered r.after At r.play.seed z last)
  offered_of last x q = of_source r (λ z. IsOffered r.after At r.play.seed z last) (λ t capture e.
      let y = x t capture e in record { records = y.0; reads = y.1; decided = has_offered y.0 y.2 q t })

  -- behind the files that came to be before it
  module _ (before : View) (places : List Place) (files : List ℕ) (b : IsBehind before r.old places files r.play) where
    fresh : before.part r.opened.arrivals ≡ None
    fresh = ap before.part s.arrivals ∙ of_fresh before r.old places files r.play.file b.came.are b.among

    part : r.after.part r.opened.arrivals ≡ Some (number_of At.arrivals)
    part =
        ap r.after.part s.arrivals
        ∙ s.played.part r.play.file (number_of At.arrivals) (s.came.keeps.part r.play.file (number_of At.arrivals) s.there)

    -- fronts of the texts stand, the heads first
    begins_at : (e : Place) (file : ℕ) (front : List ℕ) → IsOf r.old r.created e file → IsTrue r.old.tells → loop.BeginsWith r.after file front
        → BeginsWith r.after e front
    begins_at e file front of t x = (x.0, at_name r e file s.played of t ∙ x.1)

    heads_first : (capture : List ℕ) → IsTrue r.old.tells → IsGiven r capture → HeadsIn r → HeadsFirst before r.after At (source_in r capture)
    heads_first capture t e h = by (h t)
      where
        of : IsOf r.old r.created At.departures r.opened.departures
        of = s.came.are.0

        rows : loop.RowsWait r.after r.opened.departures r.opened.fates → RowsWait before r.after At
        rows (inl x) = inl (front_at before r.after At.fates [] [] [] (at_name r At.fates r.opened.fates s.played s.came.are.1.0 t ∙ x) refl)
        rows (inr x) = inr (begins_at At.departures r.opened.departures capture_header of t x)

        by : loop.HaveHeads r.after r.opened.departures r.opened.fates ⊎ (loop.RowsWait r.after r.opened.departures r.opened.fates × TookFirst r)
            → HeadsFirst before r.after At (source_in r capture)
        by (inl x) = inl (
          begins_at At.departures r.opened.departures capture_header of t x.0,
          begins_at At.fates r.opened.fates fates_header s.came.are.1.0 t x.1,
        )
        by (inr x) = inr (
          rows x.0,
          λ memory. inr (record { file = r.opened.arrivals; fresh = fresh; part = part; took = x.1 (rest_of r.play.given.now.rest memory) capture e }),
        )

    pub fronts_of : (fault : PlayFault) → Sees r (FrontsOf (setup_in r) r.after r.opened) → StatsLeft r fault → HeadsIn r
        → OfSource r.old r.play (Fronts before r.after At r.play.seed)
    fronts_of fault f q h = of_source r (Fronts before r.after At r.play.seed) (λ t capture e. record {
      heads = heads_first capture t e h;
      texts = λ records last reads is_last.
          let x = f t capture e records last reads is_last in
          record {
            history = x.history;
            begun = x.begun;
            departures = front_at before r.after At.departures _ x.texts.departures.written x.texts.departures.rest
                (departures_held _ t x.texts.departures.holds) x.texts.departures.split;
            fates = front_at before r.after At.fates _ x.texts.fates.written x.texts.fates.rest (fates_held _ t x.texts.fates.holds) x.texts.fates.split;
            stats = stats_front before capture records last t e reads is_last (begins r fault q);
          };
    })

    -- a read of the arrivals failed
    short_of : r.play.given.now.rest ≡ true → Sees r (ShortIn r) → HoldsAt r.after r.opened.stats []
        → OfSource r.old r.play (IsCutShort before r.after At r.play.seed)
    short_of rest x q = of_source r (IsCutShort before r.after At r.play.seed) (λ t capture e.
        let y = x t capture e in
        record {
          read_on = ap (λ (k : Bool). cond k false true) rest;
          records = y.0;
          file = r.opened.arrivals;
          fresh = fresh;
          part = part;
          taken = y.1;
          decided = has_offered y.0 y.2 q t;
        })

    late_of : Sees r (LateIn r) → HoldsAt r.after r.opened.stats [] → OfSource r.old r.play (IsLate before r.after At r.play.seed)
    late_of x q = of_source r (IsLate before r.after At r.play.seed) (λ t capture e.
        let z = x t capture e in
        record {
          records = z.records;
          last = z.last;
          history = z.history;
          totals = z.totals;
          reads = z.reads;
          is_last = z.is_last;
          early = record { cut = z.play.cut; before = z.before };
          play = z.play;
          texts = texts_of z.records z.history t z.texts;
          stats = stats_held [] t q;
          file = r.opened.arrivals;
          fresh = fresh;
          part = part;
          streams = λ memory. z.streams (rest_of r.play.given.now.rest memory);
        })

    -- the statistics could not be written behind the rest
    whole_texts_of : Sees r (StatsOf (setup_in r) r.after r.opened) → OfSource r.old r.play (HasWholeTexts r.after At r.play.seed)
    whole_texts_of x = of_source r (HasWholeTexts r.after At r.play.seed) (λ t capture e.
        let y = x t capture e in
        let z = y.2 in
        record { records = y.0; history = z.history; capture = y.1; play = z.play; texts = texts_of y.0 z.history t z.texts })

    abbrev Earlier : Later before r.created
    Earlier = later_trans before r.old r.created b.came.keeps.later s.came.keeps.later

    rose : (e : Place) (file : ℕ) → IsOf r.old r.created e file → ((p : ℕ) → r.created.part file ≡ Some p → Rose (r.created.write_faults p) (r.after.write_faults p))
        → Rose (before.write_faults (number_of e)) (r.after.write_faults (number_of e))
    rose e file of x = rose_later _ _ _ (Earlier.write (number_of e)) (x (number_of e) of.part)

    pub fails_of : (f : PlayFault) → Explained r f → StatsLeft r f → (f ≡ play.Read → r.play.given.now.rest ≡ true)
        → PlayFails (OfSource r.old r.play) At r.play.seed before r.after f
    fails_of (play.Capture d) x q m = offered_of (Fault d) x q
    fails_of play.Read x q m = (
      rose_later _ _ _ (Earlier.read (number_of At.arrivals))
          (x.0 (number_of At.arrivals) (ap r.created.part s.arrivals ∙ s.came.keeps.part r.play.file (number_of At.arrivals) s.there)),
      short_of (m refl) (x.1 (m refl)) q,
    )
    fails_of (play.Write output.Departures) x q m = rose At.departures r.opened.departures s.came.are.0 x
    fails_of (play.Write output.Fates) x q m = rose At.fates r.opened.fates s.came.are.1.0 x
    fails_of (play.Write output.Statistics) x q m = (rose At.stats r.opened.stats s.came.are.1.1.0 x, inr (whole_texts_of q))
    fails_of (play.Limit limit.Capture) x q m = offered_of Limit x q
    fails_of (play.Limit limit.Clock) x q m = late_of x q
    fails_of play.NoMemory x q m = tt
