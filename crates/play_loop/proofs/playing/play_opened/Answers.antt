-- Each end of the play of a capture: before it, at an output, and after its records.
use Rattle.std.proofs.Common.{◌∙◌, inl, inr, ℕ, [], Err, refl, ap, sym, subst, arith}
use Rattle.std.specs.Prelude.{IsTrue, Result}
use Rattle.capture_model.specs.Header.{capture_header}
use Rattle.pcap_files.specs.declared.fault.CaptureFault.{CaptureFault}
use Rattle.pcap_files.specs.declared.reader.Reader.{Reader}
use Rattle.play_base.specs.View.{View}
use Rattle.play_base.proofs.ViewLaws.{same_trans as same_counts}
use Rattle.play_text.specs.Names.{NameList}
use Rattle.play_text.specs.Texts.{fates_header}
use Rattle.play_loop.specs.declared.outputs.Tally.{Tally}
use Rattle.play_loop.specs.declared.fault.PlayFault.{PlayFault}
use Rattle.play_loop.specs.Answers.{IsBrokenOff}
use Rattle.play_loop.specs.Ending.{HasBroken, HasRun}
use Rattle.play_loop.specs.Kept.{OnlyWrote}
use Rattle.play_loop.specs.Outputs.{AreOpened, TextsAre}
use Rattle.play_loop.specs.Played.{HaveHeads, OfArrivals}
use Rattle.play_loop.specs.Reading.{StartsOn}
use Rattle.play_loop.specs.Setup.{IsSound, Setup, setup_of}
use Rattle.play_loop.specs.Underway.{Moment, moment}
use Rattle.play_loop.proofs.CloseLemmas.{broken_at_start, broken_front, broken_off, can_read, close_left, closed_answer, heads_started, started}
use Rattle.play_loop.proofs.KeptLemmas.{HasPlayedOn, cause_since, close_played, heads_on, heads_played, opened_same, records_played, start_played}
use Rattle.play_loop.proofs.OutputLemmas.{fronts_of_texts, texts_kept}
use Rattle.play_loop.proofs.PlayLemmas.{head_fault, head_holds, head_texts, held_by, offered_all, read_before, ready_left, stopped_heads}
use Rattle.play_loop.proofs.RecordLemmas.{read_since}
use Rattle.play_loop.proofs.TurnLemmas.{begun_of, on}
use Rattle.play_loop.proofs.playing.play_opened.Given.{Over}
use Rattle.play_loop.proofs.playing.play_opened.Goals.{After-start, In-Ok-begin, In-Ok-play_records}
use Rattle.play_loop.proofs.playing.play_opened.Goals as goal

-- what is played
abbrev setup : (g : Over) → g.row.D.Denot → g.row.C.Denot → NameList → (rate seed : ℕ) → Setup
setup g d k names rate seed = setup_of (g.D.Discipline.view d).policy (g.C.Classify.placed k) (g.C.Classify.dressed k) names rate seed

pub returns-in-Err-clause-broken : goal.returns-in-Err-clause-broken
returns-in-Err-clause-broken g c =
    broken_off _ _ c.args.opened.now c.in-Err.fault c.in-Err.ensures.why (λ t rest l records last r s. stopped_heads (c.in-Err.ensures.stopped c.requires.ready.empty))
    (λ t. inr (c.in-Err.ensures.rows c.requires.ready.empty t, ready_left c.requires.ready t c.in-Err.ensures.others))

pub returns-in-Err-clause-others : goal.returns-in-Err-clause-others
returns-in-Err-clause-others g c = heads_played c.args.opened.now c.in-Err.ensures.others

-- once the arrivals are begun, the heads stand
heads : (g : Over) (c : After-start g) → TextsAre (g.F.Files.view c.start.new.files) c.args.opened.now.departures c.args.opened.now.fates [] [] capture_header fates_header
heads g c = texts_kept (c.in-Ok.ensures.wrote c.requires.ready.empty) c.start.ensures.some.1.keeps

begun : (g : Over) (c : After-start g) → HasPlayedOn c.args.opened.now (g.F.Files.view c.args.files.now) (g.F.Files.view c.start.new.files)
begun g c = start_played c.args.opened.now c.requires.ready c.in-Ok.ensures.others c.start.ensures.some

stand : (g : Over) (c : After-start g) → IsTrue (g.F.Files.view c.args.files.now).tells → HaveHeads (g.F.Files.view c.start.new.files) c.args.opened.now.departures c.args.opened.now.fates
stand g c = heads_started c.args.opened.now c.requires.ready c.in-Ok.ensures.others c.in-Ok.ensures.wrote c.start.ensures.some

pub returns-in-Err-start-clause-broken : goal.returns-in-Err-start-clause-broken
returns-in-Err-start-clause-broken g c =
    let x : Setup = setup g c.args.discipline.now c.args.classify.now c.args.names.now c.args.rate c.args.words.now.seed in
    let to = (goal.at.returns-in-Err-start-clause-broken g c).After-start in
    let P : PlayFault → Type 0 = λ f. IsBrokenOff x (g.D.Discipline.view c.args.discipline.now).represents (g.F.Files.view c.args.files.now) (g.F.Files.view c.start.new.files) c.args.opened.now f in
    let error : CaptureFault → Result Reader CaptureFault = λ f. Err f in
    subst P (sym c.capture_fault.ensures)
    (broken_at_start _ _ c.args.opened.now c.in-Err-start.fault
    (λ t rest l.
    let left = ready_left c.requires.ready t c.in-Ok.ensures.others ∙ l in (
      [],
      head_fault c.in-Err-start.fault (g.F.Files.view c.start.new.files) c.args.opened.now.arrivals _ (c.in-Err-start.ensures.damaged rest left)
          (λ q. c.in-Err-start.ensures.cut (ap error q) rest left),
      offered_all [] [] refl (record { events = tt; in_time = tt }) refl tt (head_holds (heads g to)) ([], c.requires.new, refl),
    ))
    (λ q. read_since (g.F.Files.view c.start.new.files) (heads_played c.args.opened.now c.in-Ok.ensures.others) refl refl (inl (c.in-Err-start.ensures.read (ap error q))))
    (λ t rest l records last r s. stopped_heads (fronts_of_texts (heads g to))) (λ t. inl (stand g to t)))

pub returns-in-Err-start-clause-others : goal.returns-in-Err-start-clause-others
returns-in-Err-start-clause-others g c = begun g (goal.at.returns-in-Err-start-clause-others g c).After-start

pub returns-in_default-clause-broken : goal.returns-in_default-clause-broken
returns-in_default-clause-broken g c =
    let to = (goal.at.returns-in_default-clause-broken g c).After-start in
    record { why = tt; front = λ t rest l records last r s. stopped_heads (fronts_of_texts (heads g to)); heads = λ t. inl (stand g to t); before_stats = tt }

pub returns-in_default-clause-others : goal.returns-in_default-clause-others
returns-in_default-clause-others g c = begun g (goal.at.returns-in_default-clause-others g c).After-start

pub play_records-requires-clause-reads : goal.play_records-requires-clause-reads
play_records-requires-clause-reads g c =
    can_read c.requires.ready (begun g (goal.at.play_records-requires-clause-reads g c).After-start) c.requires.opened c.in-Ok-start.ensures.file c.in-Ok-start.ensures.sound

pub play_records-requires-clause-under : goal.play_records-requires-clause-under
play_records-requires-clause-under g c =
    let S : ℕ → Type 0 = λ k. IsSound (setup g c.args.discipline.now c.args.classify.now c.args.names.now k c.args.words.now.seed) in
    record {
      setup = record { sound = subst S (sym c.in-Ok-begin.ensures.rate) c.requires.sound; policy = refl; rate = refl; seed_is = refl };
      going = c.in-Ok-begin.ensures.going [] c.args.words.now c.requires.fresh tt (omega arith);
      written = record {
        given = head_texts (setup g c.args.discipline.now c.args.classify.now c.args.names.now c.args.rate c.args.words.now.seed) c.requires.opened c.requires.no_records c.requires.no_rows (heads g (goal.at.play_records-requires-clause-under g c).After-start);
        counted = c.requires.none;
        was_told = c.requires.begun;
        fit = tt;
      };
    }

-- the reader stands for the arrivals
tells : (g : Over) (c : In-Ok-begin g) → OfArrivals (g.F.Files.view c.args.files.now) c.args.opened.now (StartsOn (g.F.Files.view c.start.new.files) c.in-Ok-start.reader)
tells g c = started c.in-Ok-start.reader c.requires.ready c.in-Ok.ensures.others c.start.ensures.some c.in-Ok-start.ensures.stands

pub returns-in-Err-play_records-clause-broken : goal.returns-in-Err-play_records-clause-broken
returns-in-Err-play_records-clause-broken g c =
    let R : ℕ → Type 0 = λ k. HasBroken (setup g c.args.discipline.now c.args.classify.now c.args.names.now k c.args.words.now.seed) (StartsOn (g.F.Files.view c.start.new.files) c.in-Ok-start.reader) (g.F.Files.view c.play_records.new.files) c.args.outputs.now in
    let files = c.requires.opened in
    let to = (goal.at.returns-in-Err-play_records-clause-broken g c).After-start in
    let y = c.in-Err-play_records.ensures in
    broken_off _ _ c.args.opened.now c.in-Err-play_records.fault
    (cause_since (g.F.Files.view c.play_records.new.files) c.in-Err-play_records.fault (begun g to).keeps files.departures files.fates y.why)
    (broken_front (g.F.Files.view c.args.files.now) c.requires.sound (subst R c.in-Ok-begin.ensures.rate y.broken) files (tells g (goal.at.returns-in-Err-play_records-clause-broken g c).In-Ok-begin))
    (λ t. inl (heads_on _ _ _ c.args.opened.now.departures c.args.opened.now.fates c.requires.ready.empty (begun g to).keeps y.others.keeps y.others.grows t (stand g to t)))

pub returns-in-Err-play_records-clause-others : goal.returns-in-Err-play_records-clause-others
returns-in-Err-play_records-clause-others g c =
    records_played c.args.opened.now c.args.outputs.now c.requires.ready c.requires.opened c.in-Ok-start.ensures.file
    (begun g (goal.at.returns-in-Err-play_records-clause-others g c).After-start) c.in-Err-play_records.ensures.others

-- once the records were played
module _ (g : Over) (c : In-Ok-play_records g) where
  abbrev then : Moment
  then = moment (g.D.Discipline.view c.play_records.new.discipline) (g.F.Files.view c.play_records.new.files) c.play_records.new.outputs (g.K.Keeper.told c.play_records.new.keeper) c.play_records.new.progress

  opened : AreOpened c.play_records.new.outputs c.args.opened.now
  opened = opened_same c.requires.opened c.in-Ok-play_records.ensures.same

  run : HasRun (setup g c.args.discipline.now c.args.classify.now c.args.names.now c.args.rate c.args.words.now.seed) (StartsOn (g.F.Files.view c.start.new.files) c.in-Ok-start.reader) then c.play_records.new.reader c.play_records.new.words c.in-Ok-play_records.ending
  run =
      let R : ℕ → Type 0 = λ k. HasRun (setup g c.args.discipline.now c.args.classify.now c.args.names.now k c.args.words.now.seed) (StartsOn (g.F.Files.view c.start.new.files) c.in-Ok-start.reader) then c.play_records.new.reader c.play_records.new.words c.in-Ok-play_records.ending in
      subst R c.in-Ok-begin.ensures.rate c.in-Ok-play_records.ensures.ended

  before : HasPlayedOn c.args.opened.now (g.F.Files.view c.args.files.now) (g.F.Files.view c.start.new.files)
  before = start_played c.args.opened.now c.requires.ready c.in-Ok.ensures.others c.start.ensures.some

  played : HasPlayedOn c.args.opened.now (g.F.Files.view c.args.files.now) (g.F.Files.view c.play_records.new.files)
  played = records_played c.args.opened.now c.args.outputs.now c.requires.ready c.requires.opened c.in-Ok-start.ensures.file before c.in-Ok-play_records.ensures.others

  -- the heads stand, and behind what only writes
  still : (w : View) → OnlyWrote c.play_records.new.outputs.departures c.play_records.new.outputs.fates (g.F.Files.view c.play_records.new.files) w
      → IsTrue (g.F.Files.view c.args.files.now).tells → HaveHeads w c.args.opened.now.departures c.args.opened.now.fates
  still w x t =
      let o = c.args.opened.now in
      let y = c.in-Ok-play_records.ensures.others in
      heads_on _ _ w o.departures o.fates c.requires.ready.empty played.keeps x.keeps x.grows t
      (heads_on _ _ _ o.departures o.fates c.requires.ready.empty before.keeps y.keeps y.grows t
      (heads_started o c.requires.ready c.in-Ok.ensures.others c.in-Ok.ensures.wrote c.start.ensures.some t))

pub returns-in-Err-finish-clause-broken : goal.returns-in-Err-finish-clause-broken
returns-in-Err-finish-clause-broken g c =
    let to = (goal.at.returns-in-Err-finish-clause-broken g c).In-Ok-play_records in
    let y = run g to in
    let files = opened g to in
    broken_off _ _ c.args.opened.now c.in-Err-finish.fault
    (cause_since (g.F.Files.view c.finish.new.files) c.in-Err-finish.fault (played g to).keeps files.departures files.fates c.in-Err-finish.ensures.why)
    (broken_front (g.F.Files.view c.args.files.now) c.requires.sound
    (record {
      arrived = y.arrived;
      events = y.events;
      broken = record { begun = begun_of (on y.under); fronts = c.in-Err-finish.ensures.stopped _ _ y.under.written.given };
      first = y.first;
    }) files (tells g (goal.at.returns-in-Err-finish-clause-broken g c).In-Ok-begin))
    (λ t. inl (still g to (g.F.Files.view c.finish.new.files) c.in-Err-finish.ensures.others t))

pub returns-in-Err-finish-clause-others : goal.returns-in-Err-finish-clause-others
returns-in-Err-finish-clause-others g c =
    let to = (goal.at.returns-in-Err-finish-clause-others g c).In-Ok-play_records in
    close_played c.args.opened.now c.play_records.new.outputs c.requires.ready (opened g to) (played g to) c.in-Err-finish.ensures.others

pub returns-clause-ended : goal.returns-clause-ended
returns-clause-ended g c =
    let to = (goal.at.returns-clause-ended g c).In-Ok-play_records in
    let y = run g to in
    let files = opened g to in
    let tally : Tally = record { totals = c.totals.result; counts = c.finish.new.outputs.counts } in
    closed_answer c.in-Ok-play_records.ending tally
    (record {
      run = y;
      texts = record {
        departures = held_by files.departures (c.in-Ok-finish.ensures.departures_whole _ _ y.under.written.given);
        fates = held_by files.fates (c.in-Ok-finish.ensures.fates_whole _ _ y.under.written.given);
      };
      tells = tells g (goal.at.returns-clause-ended g c).In-Ok-begin;
      file = c.in-Ok-play_records.ensures.file ∙ c.in-Ok-start.ensures.file;
      left = close_left c.requires.ready (played g to) files c.in-Ok-finish.ensures.others;
      read = λ q. read_before c.args.opened.now.arrivals (g.F.Files.view c.args.files.now) c.in-Ok-finish.ensures.others
          (read_since (g.F.Files.view c.play_records.new.files) (begun g (goal.at.returns-clause-ended g c).After-start) c.in-Ok-start.ensures.file refl (inl (c.in-Ok-play_records.ensures.read q)));
      clean = λ q. same_counts _ _ _ (same_counts _ _ _ (same_counts _ _ _ c.in-Ok.ensures.no_fault c.in-Ok-start.ensures.counts) (c.in-Ok-play_records.ensures.no_fault q))
          c.in-Ok-finish.ensures.no_fault;
      heads = still g to (g.F.Files.view c.finish.new.files) c.in-Ok-finish.ensures.others;
    })
    (g.met.C.Classify.lengths c.args.classify.now)
    c.every_file_has_a_reading.ensures.reads c.every_file_has_a_reading.ensures.last c.totals.ensures c.finish.ensures.counts

pub returns-clause-others : goal.returns-clause-others
returns-clause-others g c =
    let to = (goal.at.returns-clause-others g c).In-Ok-play_records in
    close_played c.args.opened.now c.play_records.new.outputs c.requires.ready (opened g to) (played g to) c.in-Ok-finish.ensures.others
