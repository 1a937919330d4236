-- A play whose records were run, and whose texts were written whole: what its capture answers.
use Rattle.std.proofs.Common.{◌≡◌, ◌++◌, ◌∙◌, ℕ, List, [], None, Some, ap, sym, subst, inl}
use Rattle.std.specs.Prelude.{IsSome, IsTrue}
use Rattle.altq_model.specs.Arrivals.{Captured, bare_arrivals}
use Rattle.altq_model.specs.Departures.{KeepsLength}
use Rattle.altq_model.specs.History.{DrawnWords, LabelledEvent, journal}
use Rattle.altq_model.specs.Lawful.{AreHeld}
use Rattle.altq_model.specs.Play.{due}
use Rattle.capture_model.specs.Capture.{End, IsLast, Reads, Record, Step, outcome}
use Rattle.capture_model.specs.Header.{capture_header}
use Rattle.pcap_files.specs.declared.fault.CaptureFault.{CaptureFault}
use Rattle.pcap_files.specs.declared.fault.CaptureFault.TheVariants as capture
use Rattle.pcap_files.specs.declared.reader.Reader.{Reader}
use Rattle.pcap_files.specs.Ahead.{TookSome}
use Rattle.pcap_files.specs.Reading.{Represents}
use Rattle.pcap_files.proofs.WritingLemmas.{reads_written}
use Rattle.play_base.specs.Holds.{Apart}
use Rattle.play_base.specs.View.{View, ReadFault, SameCounts}
use Rattle.play_base.proofs.HoldsLaws.{apart_kept}
use Rattle.play_base.proofs.ViewLaws.{still_there}
use Rattle.play_laws.specs.Events.{HasLaws}
use Rattle.play_laws.proofs.SizeLemmas.{departed_within, reads_sized}
use Rattle.play_text.specs.Texts.{fates_header}
use Rattle.play_core.specs.Finished.{IsFinished}
use Rattle.play_core.specs.Totals.{AreTotals}
use Rattle.play_core.proofs.ReadLemmas.{finished}
use Rattle.play_loop.specs.declared.outputs.Tally.{Tally}
use Rattle.play_loop.specs.declared.ending.Ending.{Ending}
use Rattle.play_loop.specs.declared.ending.Ending.TheVariants as ending
use Rattle.play_loop.specs.declared.fault.Limit.TheVariants as limit
use Rattle.play_loop.specs.declared.fault.Opened.{Opened}
use Rattle.play_loop.specs.declared.fault.PlayFault.{PlayFault}
use Rattle.play_loop.specs.declared.fault.PlayFault.TheVariants as play
use Rattle.play_loop.specs.Answers.{IsAnswer, IsBrokenOff, IsWhole, answer_of}
use Rattle.class_counts.specs.Counting.{HasCounted}
use Rattle.play_loop.specs.declared.outputs.Outputs.{Outputs}
use Rattle.play_loop.specs.Ending.{HasBroken, HasRun, IsClean, capture_fault}
use Rattle.play_loop.specs.Kept.{OnlyWrote}
use Rattle.play_loop.specs.KeptFates.{kept_fates}
use Rattle.play_loop.specs.Outputs.{AreOpened, FrontsAre, IsBeforeStats, IsWriteCause, TextsAre}
use Rattle.play_loop.specs.Played.{AreEmpty, AreReady, Explains, Fronts, HaveHeads, HeadsFirst, HoldTexts, OfArrivals}
use Rattle.play_loop.specs.Reading.{CanRead, StartsOn}
use Rattle.play_loop.specs.Setup.{IsSound, Setup, departures_of, fates_of}
use Rattle.play_loop.specs.Underway.{IsUnderway, Moment}
use Rattle.play_loop.proofs.KeptLemmas.{HasPlayedOn, by_cause, only_files}
use Rattle.play_loop.proofs.OutputLemmas.{fronts_files, have_heads, texts_kept, there_same}
use Rattle.play_loop.proofs.PlayLemmas.{Offered, cut_all, cut_later, explains_capture, found, fronts_first, hold_all, left_kept, offered_all, ready_left, whole_front}
use Rattle.play_loop.proofs.TextLemmas.{fit_held}
use Rattle.play_loop.proofs.TurnLemmas.{begun_of, from_setup, going_laws, on, promised, to_setup, under_countable}

-- none of these faults is one of the statistics
fault_before : (f : CaptureFault) → IsBeforeStats (capture_fault f)
fault_before (capture.Damage d) = tt
fault_before capture.Limit = tt
fault_before capture.Read = tt
fault_before capture.NoMemory = tt

-- a write that failed
pub broken_off : {x : Setup} {stood : List LabelledEvent → Type 0} (u v : View) (o : Opened) (f : PlayFault) → IsWriteCause o.departures o.fates u v f → Fronts x u v o
    → HeadsFirst u v o → IsBrokenOff x stood u v o f
broken_off {x} {stood} u v o f h front heads = record {
  why = by_cause (λ q. Explains x stood u v o q) u v f h (λ y. y) (λ y. y) tt;
  front = front;
  heads = heads;
  before_stats = by_cause IsBeforeStats u v f h (λ _. tt) (λ _. tt) tt;
}

-- or a record that was not read, before any was
pub broken_at_start : {x : Setup} {stood : List LabelledEvent → Type 0} (u v : View) (o : Opened) (f : CaptureFault) → Offered x stood u v o f
    → (f ≡ capture.Read → ReadFault u v o.arrivals) → Fronts x u v o → HeadsFirst u v o → IsBrokenOff x stood u v o (capture_fault f)
broken_at_start {x} {stood} u v o f h r front heads =
    record { why = explains_capture x stood u v o f h r; front = front; heads = heads; before_stats = fault_before f }

-- the arrivals are still there and apart from the outputs
record StayReady (v : View) (o : Opened) : Type 0 where
  arrivals : IsSome (v.part o.arrivals)
  from_departures : Apart v o.arrivals o.departures
  from_fates : Apart v o.arrivals o.fates

stay_ready : {u v : View} {o : Opened} → AreReady u o → HasPlayedOn o u v → StayReady v o
stay_ready r k = record {
  arrivals = still_there _ _ _ _ _ k.keeps r.arrivals;
  from_departures = apart_kept _ _ _ _ _ _ r.arrivals r.empty.departures.there r.from_departures k.keeps;
  from_fates = apart_kept _ _ _ _ _ _ r.arrivals r.empty.fates.there r.from_fates k.keeps;
}

-- a reader of the opened arrivals
pub can_read : {u v : View} {o : Opened} {p : Outputs} {r : Reader} → AreReady u o → HasPlayedOn o u v → AreOpened p o → r.file ≡ o.arrivals → r.fault ≡ None → CanRead v r p
can_read {v = v} {o} {r = r} ready k a e sound =
    let s = stay_ready ready k in
    record { there = there_same v.part o.arrivals r.file e s.arrivals; sound = sound; from_departures = rw (e, a.departures) s.from_departures; from_fates = rw (e, a.fates) s.from_fates }

pub started : {u v w : View} {o : Opened} (r : Reader) → AreReady u o → OnlyWrote o.departures o.fates u v → TookSome v w o.arrivals
    → ((rest : List ℕ) → v.left o.arrivals ≡ Some rest → Represents w r (o.first.now ++ rest) []) → OfArrivals u o (StartsOn w r)
started r ready x y stands = λ t rest l. (y.1.keeps.tells ∙ x.keeps.tells ∙ t, stands rest (ready_left ready t x ∙ l))

-- both heads were written before it
pub heads_started : {u v w : View} (o : Opened) → AreReady u o → OnlyWrote o.departures o.fates u v
    → (AreEmpty u o.departures o.fates → TextsAre v o.departures o.fates [] [] capture_header fates_header) → TookSome v w o.arrivals
    → IsTrue u.tells → HaveHeads w o.departures o.fates
heads_started o ready x wrote y t = have_heads (texts_kept (wrote ready.empty) y.1.keeps) (y.1.keeps.tells ∙ x.keeps.tells ∙ t)

-- the writes at the end leave what the arrivals have left
pub close_left : {u v w : View} {o : Opened} {p : Outputs} → AreReady u o → HasPlayedOn o u v → AreOpened p o → OnlyWrote p.departures p.fates v w → IsTrue u.tells
    → w.left o.arrivals ≡ v.left o.arrivals
close_left {v = v} {w} {o} ready k a x t =
    let s = stay_ready ready k in
    left_kept v w o.arrivals o.departures o.fates s.arrivals s.from_departures s.from_fates (k.keeps.tells ∙ t) (only_files a.departures a.fates x)

-- a play of these arrivals that was broken in the middle
pub broken_front : {x : Setup} {told : List ℕ → Type 0} (u : View) {v : View} {o : Opened} {p : Outputs} → IsSound x → HasBroken x told v p → AreOpened p o → OfArrivals u o told → Fronts x u v o
broken_front {x} {told} u {v} {o} sound b a tells =
    fronts_first x told u v o b.arrived b.events sound tells b.first b.broken.begun (fronts_files a.departures a.fates b.broken.fronts)

-- a play over the opened files, from one view to another, whose records were run and whose texts were then written whole
pub record HasClosed (x : Setup) (told : List ℕ → Type 0) (m : Moment) (r : Reader) (w : DrawnWords) (u v : View) (o : Opened) (e : Ending) : Type 0 where
  pub run : HasRun x told m r w e
  pub texts : HoldTexts v o x run.arrived run.events
  pub tells : OfArrivals u o told
  pub file : r.file ≡ o.arrivals
  pub left : IsTrue u.tells → v.left o.arrivals ≡ m.files.left o.arrivals
  pub read : e ≡ ending.Cut capture.Read → ReadFault u v o.arrivals
  pub clean : IsClean e → SameCounts u v
  pub heads : IsTrue u.tells → HaveHeads v o.departures o.fates

-- every event was made
whole_play : {x : Setup} {m : Moment} {w : DrawnWords} {arrived : List Captured} {g : List LabelledEvent} → IsUnderway x m arrived w g
    → due x.policy x.rate x.seed (bare_arrivals arrived) g ≡ None → IsFinished x.policy x.rate x.seed arrived g m.progress.totals
whole_play {x} {m} {arrived = arrived} {g} u d =
    to_setup u.setup (λ p rate seed. IsFinished p rate seed arrived g m.progress.totals)
    (finished (record { promised = promised u.setup; going = u.going })
    (from_setup u.setup (λ p rate seed. AreHeld p (bare_arrivals arrived)) (fit_held x.policy x.place arrived u.setup.sound.held u.written.fit))
    (from_setup u.setup (λ p rate seed. due p rate seed (bare_arrivals arrived) g ≡ None) d))

-- what holds of the arrivals and the events of a whole play
record IsWritten (x : Setup) (m : Moment) (v : View) (o : Opened) (t : Tally) (arrived : List Captured) (g : List LabelledEvent) : Type 0 where
  play : IsFinished x.policy x.rate x.seed arrived g t.totals
  texts : HoldTexts v o x arrived g
  counted : HasCounted x.names arrived (journal g) t.counts.items
  was_told : m.told (kept_fates arrived (journal g))
  laws : HasLaws x.policy x.rate x.seed (bare_arrivals arrived) g

module _ {x : Setup} {told : List ℕ → Type 0} {m : Moment} {r : Reader} {w : DrawnWords} {u v : View} {o : Opened} where
  closed_front : {e : Ending} → HasClosed x told m r w u v o e → Fronts x u v o
  closed_front h =
      let y = h.run in
      let whole : FrontsAre v o.departures o.fates (departures_of x y.arrived y.events) (fates_of x y.arrived y.events) = record {
        departures = whole_front h.texts.departures;
        fates = whole_front h.texts.fates;
      } in
      fronts_first x told u v o y.arrived y.events y.under.setup.sound h.tells y.first (begun_of (on y.under)) whole

  answers_whole : (t : Tally) → HasClosed x told m r w u v o ending.Whole → KeepsLength x.dress → t.totals ≡ m.progress.totals → t.counts.items ≡ m.outputs.counts.items
      → IsWhole x m.shown.represents m.told u v o t
  answers_whole t h k totals counts =
      let y = h.run in
      let going = y.under.going in
      let ends : IsFinished x.policy x.rate x.seed y.arrived y.events t.totals = rw totals (whole_play y.under y.ends.done) in
      let counted : HasCounted x.names y.arrived (journal y.events) t.counts.items = rw counts y.under.written.counted in
      let W : List Captured → Type 0 = λ a. IsWritten x m v o t a y.events in
      record {
        done = λ tells rest l.
            let all = y.ends.all (o.first.now ++ rest) (h.tells tells rest l) in
            let written = subst W all.arrivals (record { play = ends; texts = h.texts; counted = counted; was_told = y.under.written.was_told; laws = going_laws (on y.under) }) in (
              all.records,
              all.reads,
              record {
                history = y.events;
                play = written.play;
                texts = written.texts;
                counted = written.counted;
                reads = reads_written _ (departed_within x.dress x.place all.records x.policy x.rate x.seed y.events k (reads_sized (o.first.now ++ rest) all.records End all.reads) written.laws going.begun.in_time);
                stands = (going.recorded, going.represents, going.same);
                was_told = written.was_told;
              },
            );
        decided = record { arrived = y.arrived; history = y.events; play = ends; told = y.under.written.was_told };
        countable = rw counts (under_countable y.under);
        no_fault = h.clean tt;
        heads = h.heads;
      }

  answers_cut : (f : CaptureFault) → HasClosed x told m r w u v o (ending.Cut f) → IsBrokenOff x m.shown.represents u v o (capture_fault f)
  answers_cut f h =
      let y = h.run in
      let going = y.under.going in
      record {
        why = explains_capture x m.shown.represents u v o f
            (λ t rest l.
            let q = y.ends.faulty (o.first.now ++ rest) (h.tells t rest l) in (
              q.records,
              cut_later f m.files v r.file o.arrivals (o.first.now ++ rest) q.records (h.left t) h.file q.reads,
              offered_all y.arrived y.events q.arrivals (begun_of (on y.under)) y.ends.offers y.ends.last h.texts (going.recorded, going.represents, going.same),
            ))
            (λ q. h.read (ap {B = Ending} (λ (k : CaptureFault). ending.Cut k) q));
        front = closed_front h;
        heads = λ t. inl (h.heads t);
        before_stats = fault_before f;
      }

  answers_late : HasClosed x told m r w u v o ending.Late → ((bytes : List ℕ) → Reads bytes (outcome bytes).records (outcome bytes).last)
      → ((bytes : List ℕ) → IsLast (outcome bytes).last) → IsBrokenOff x m.shown.represents u v o (play.Limit limit.Clock)
  answers_late h reads is_last =
      let y = h.run in
      let going = y.under.going in
      let sound = y.under.setup.sound in
      let d = y.ends in
      let totals = to_setup y.under.setup (λ p rate seed. AreTotals rate y.events m.progress.totals) going.totals in
      record {
        why = λ t rest l.
            let bytes : List ℕ = o.first.now ++ rest in
            let all : List Record = (outcome bytes).records in
            let last : Step = (outcome bytes).last in
            let tells = h.tells t rest l in
            let f = d.first bytes tells all last (reads bytes) (is_last bytes) in
            let left = h.left t ∙ ap m.files.left (sym h.file) in
            let at = found x.place m.files v r o.arrivals bytes all last y.arrived _ (reads bytes) (is_last bytes) left (d.ahead bytes tells) in (
              all,
              (
                last,
                reads bytes,
                is_last bytes,
                record {
                  history = y.events;
                  totals = m.progress.totals;
                  play = cut_all x all y.arrived f.0 y.events m.progress.totals sound d.cut f.1 f.2 totals;
                  texts = hold_all x all y.arrived f.0 y.events sound f.1 d.cut.begun.events h.texts;
                  stands = (going.recorded, going.represents, going.same);
                  before = at.before;
                  streams = at.streams;
                },
              ),
            );
        front = closed_front h;
        heads = λ t. inl (h.heads t);
        before_stats = tt;
      }

  -- what the play of a capture answers, by how its events ended
  pub closed_answer : (e : Ending) (t : Tally) → HasClosed x told m r w u v o e → KeepsLength x.dress → ((bytes : List ℕ) → Reads bytes (outcome bytes).records (outcome bytes).last)
      → ((bytes : List ℕ) → IsLast (outcome bytes).last) → t.totals ≡ m.progress.totals → t.counts.items ≡ m.outputs.counts.items → IsAnswer x m.shown.represents m.told u v o (answer_of e t)
  closed_answer ending.Whole t h k reads is_last totals counts = answers_whole t h k totals counts
  closed_answer (ending.Cut f) t h k reads is_last totals counts = answers_cut f h
  closed_answer ending.Late t h k reads is_last totals counts = answers_late h reads is_last
