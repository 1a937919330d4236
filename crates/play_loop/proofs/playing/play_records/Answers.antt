-- Each record is read, played and left behind; the texts follow.
use Rattle.std.proofs.Common.{◌≡◌, ◌++◌, ◌∙◌, inl, inr, ℕ, List, [], ◌∷◌, None, Err, refl, ap, subst, arith}
use Rattle.std.specs.Prelude.{Result}
use Rattle.std.specs.declared.option.Option.{Option}
use Rattle.altq_model.specs.Arrivals.{Captured, bare_arrival, bare_arrivals}
use Rattle.altq_model.specs.History.{LabelledEvent}
use Rattle.discipline.proofs.ViewLaws.{kind_refl, kind_trans}
use Rattle.pcap_files.specs.declared.fault.CaptureFault.{CaptureFault}
use Rattle.pcap_files.specs.declared.fault.CaptureFault.TheVariants as capture
use Rattle.pcap_files.specs.declared.record.Found.{Found}
use Rattle.pcap_files.specs.Reading.{Answers, Counts, Holds, RecordTold, told_by}
use Rattle.play_base.proofs.ViewLaws.{same_refl, same_trans as same_counts}
use Rattle.play_laws.proofs.ArrivalLemmas.{bare_arrivals_length}
use Rattle.play_laws.proofs.OneLemmas.{later_arrivals}
use Rattle.play_text.specs.Names.{NameList}
use Rattle.play_core.specs.declared.totals.Totals.{Totals}
use Rattle.play_core.specs.Ended.{IsCutOff}
use Rattle.play_core.proofs.OfferLemmas.{is_bare_arrival}
use Rattle.play_loop.specs.declared.ending.Due.{Due}
use Rattle.play_loop.specs.Ending.{IsAll}
use Rattle.play_loop.specs.Kept.{OnlyPlayed}
use Rattle.play_loop.specs.Reading.{IsRead, StartsOn, arrival_of}
use Rattle.play_loop.specs.Setup.{Setup, setup_of}
use Rattle.play_loop.specs.Underway.{DueIs, OfferedIs, StayDue, moment}
use Rattle.play_loop.proofs.KeptLemmas.{cause_since, played_nothing, took_more, wrote_more}
use Rattle.play_loop.proofs.OutputLemmas.{fronts_files, same_trans}
use Rattle.play_loop.proofs.PacketLemmas.{before_stays, held_same}
use Rattle.play_loop.proofs.PlayLemmas.{cut_by}
use Rattle.play_loop.proofs.RecordLemmas.{IsComing, ahead_of, all_read, coming, cut_starts, first_of_all, first_of_read, has_read, none_arrives, of_none, of_some, read_kept, read_since, under_kept}
use Rattle.play_loop.proofs.TurnLemmas.{begun_of, offered_stays, on, under_countable}
use Rattle.play_loop.proofs.playing.play_records.Given.{Over}
use Rattle.play_loop.proofs.playing.play_records.Goals.{After-arrive-arriving, After-next, In_default}
use Rattle.play_loop.proofs.playing.play_records.Goals as goal

-- what is played
abbrev setup : (g : Over) → g.row.D.Denot → g.row.C.Denot → NameList → (rate seed : ℕ) → Setup
setup g d k names rate seed = setup_of (g.D.Discipline.view d).policy (g.C.Classify.placed k) (g.C.Classify.dressed k) names rate seed

pub records-init : goal.records-init
records-init g c = record {
  no_fault = same_refl (g.F.Files.view c.args.files.now);
  file = refl;
  sound = c.requires.reads.sound;
  same = record { departures = refl; fates = refl };
  others = played_nothing (g.F.Files.view c.args.files.now) c.args.reader.now.file c.args.outputs.now.departures c.args.outputs.now.fates;
  fixed = refl;
  kind = kind_refl (g.D.Discipline.view c.args.discipline.now);
  early = omega arith;
  reading = (
    [],
    [],
    record {
      under = c.requires.under;
      offers = refl;
      last = tt;
      newest = refl;
      last_is = refl;
      counted = omega arith;
      read = λ bytes t. record { records = []; stands = t.1; arrivals = refl; latest_is = refl };
    },
  );
}

pub returns-in-Err-clause-ended : goal.returns-in-Err-clause-ended
returns-in-Err-clause-ended g c =
    let x : Setup = setup g c.args.discipline.now c.args.classify.now c.args.names.now c.args.progress.now.clock.rate c.args.words.now.seed in
    let z = c.records.invariant.reading in
    record {
      arrived = z.0;
      events = z.1;
      under = under_kept z.2.under c.next.ensures.some.1.keeps;
      ends = record {
        offers = z.2.offers;
        last = z.2.last;
        faulty = λ bytes t. (let h = z.2.read bytes t in record {
          records = h.records;
          arrivals = h.arrivals;
          reads = cut_by c.in-Err.fault (g.F.Files.view c.next.new.files) c.records.reader.file c.next.new.self.file bytes h.records c.next.ensures.file (c.in-Err.ensures.fault bytes h.records h.stands)
              (λ q. c.in-Err.ensures.cut (ap {B = Result (Option Found) CaptureFault} (λ (f : CaptureFault). Err f) q) c.records.invariant.sound bytes h.records h.stands);
        });
      };
      first = first_of_read x _ _ _ z.0 _ z.1 z.2.read (offered_stays x z.0 z.1 (omega (arith, z.2.offers, bare_arrivals_length z.0)) z.2.last (begun_of (on z.2.under)).events);
    }

-- a read among the writes
took : (g : Over) (c : After-next g) → OnlyPlayed c.args.reader.now.file c.args.outputs.now.departures c.args.outputs.now.fates (g.F.Files.view c.args.files.now) (g.F.Files.view c.next.new.files)
took g c = took_more c.requires.under.written.given c.records.invariant.others c.records.invariant.file c.next.ensures.some

pub returns-in-Err-clause-others : goal.returns-in-Err-clause-others
returns-in-Err-clause-others g c = took g (goal.at.returns-in-Err-clause-others g c).After-next

-- where the capture ends all its arrivals were read
abbrev all : (g : Over) (c : In_default g) (bytes : List ℕ) → StartsOn (g.F.Files.view c.args.files.now) c.args.reader.now bytes
    → IsAll (g.C.Classify.placed c.args.classify.now) bytes c.records.invariant.reading.0
all g c = let z = c.records.invariant.reading in all_read _ _ _ _ z.0 _ (of_none _ _ c.in_default.is c.in-Ok.ensures.end) z.2.read

pub send_due-requires : goal.send_due-requires
send_due-requires g c =
    let x : Setup = setup g c.args.discipline.now c.args.classify.now c.args.names.now c.args.progress.now.clock.rate c.args.words.now.seed in
    let z = c.records.invariant.reading in
    record { under = (x, z.0, c.records.words, z.1, under_kept z.2.under c.next.ensures.some.1.keeps, none_arrives z.0 z.1 z.2.offers) }

pub returns-in-Ok-Made-clause-ended : goal.returns-in-Ok-Made-clause-ended
returns-in-Ok-Made-clause-ended g c =
    let x : Setup = setup g c.args.discipline.now c.args.classify.now c.args.names.now c.args.progress.now.clock.rate c.args.words.now.seed in
    let z = c.records.invariant.reading in
    let every = all g (goal.at.returns-in-Ok-Made-clause-ended g c).In_default in
    let d = c.in-Ok-Made.ensures.due x z.0 c.records.words z.1 (under_kept z.2.under c.next.ensures.some.1.keeps) (none_arrives z.0 z.1 z.2.offers) in
    let Q : Due → Type 0 = λ k. DueIs k x z.0 d.0 None in
    let made = subst Q c.in-Ok-Made.field-0-is d.3 in
    record {
      arrived = z.0;
      events = d.0;
      under = d.1;
      ends = record { done = made.all refl; all = every };
      first = first_of_all x _ z.0 d.0 every (begun_of (on d.1)).events;
    }

pub returns-in-Ok-Late-clause-ended : goal.returns-in-Ok-Late-clause-ended
returns-in-Ok-Late-clause-ended g c =
    let x : Setup = setup g c.args.discipline.now c.args.classify.now c.args.names.now c.args.progress.now.clock.rate c.args.words.now.seed in
    let z = c.records.invariant.reading in
    let every = all g (goal.at.returns-in-Ok-Late-clause-ended g c).In_default in
    let d = c.in-Ok-Late.ensures.due x z.0 c.records.words z.1 (under_kept z.2.under c.next.ensures.some.1.keeps) (none_arrives z.0 z.1 z.2.offers) in
    let Q : Due → Type 0 = λ k. DueIs k x z.0 d.0 None in
    let cut : IsCutOff x.policy x.rate x.seed (bare_arrivals z.0) d.0 = subst Q c.in-Ok-Late.field-0-is d.3 in
    let starts = cut_starts x (bare_arrivals z.0) d.0 d.1.setup.sound d.1.going.rising cut in
    record {
      arrived = z.0;
      events = d.0;
      under = d.1;
      ends = record {
        cut = cut;
        first = first_of_all x _ z.0 (cut.next ∷ d.0) every (cut.is_due, cut.begun.events);
        ahead = λ bytes t. (let h = z.2.read bytes t in inl (record { all = every bytes t; passed = omega (arith, h.latest_is, z.2.newest, d.2.1, starts.after) }));
      };
      first = first_of_all x _ z.0 d.0 every cut.begun.events;
    }

pub returns-in-Ok-Made-clause-others : goal.returns-in-Ok-Made-clause-others
returns-in-Ok-Made-clause-others g c =
    wrote_more c.requires.under.written.given (took g (goal.at.returns-in-Ok-Made-clause-others g c).After-next) c.records.invariant.same.departures c.records.invariant.same.fates c.in-Ok-Made.ensures.only.others

pub returns-in-Ok-Late-clause-others : goal.returns-in-Ok-Late-clause-others
returns-in-Ok-Late-clause-others g c =
    wrote_more c.requires.under.written.given (took g (goal.at.returns-in-Ok-Late-clause-others g c).After-next) c.records.invariant.same.departures c.records.invariant.same.fates c.in-Ok-Late.ensures.only.others

pub returns-in-Err-send_due-clause-broken : goal.returns-in-Err-send_due-clause-broken
returns-in-Err-send_due-clause-broken g c =
    let x : Setup = setup g c.args.discipline.now c.args.classify.now c.args.names.now c.args.progress.now.clock.rate c.args.words.now.seed in
    let z = c.records.invariant.reading in
    let every = all g (goal.at.returns-in-Err-send_due-clause-broken g c).In_default in
    let b = c.in-Err-send_due.ensures.broken x z.0 c.records.words z.1 (under_kept z.2.under c.next.ensures.some.1.keeps) (none_arrives z.0 z.1 z.2.offers) in
    record {
      arrived = z.0;
      events = b.0;
      broken = record { begun = b.1.begun; fronts = fronts_files c.records.invariant.same.departures c.records.invariant.same.fates b.1.fronts };
      first = first_of_all x _ z.0 b.0 every b.1.begun.events;
    }

pub returns-in-Err-send_due-clause-others : goal.returns-in-Err-send_due-clause-others
returns-in-Err-send_due-clause-others g c =
    wrote_more c.requires.under.written.given (took g (goal.at.returns-in-Err-send_due-clause-others g c).After-next) c.records.invariant.same.departures c.records.invariant.same.fates c.in-Err-send_due.ensures.only.others

pub returns-in-Err-send_due-clause-why : goal.returns-in-Err-send_due-clause-why
returns-in-Err-send_due-clause-why g c = cause_since (g.F.Files.view c.send_due.new.files) c.in-Err-send_due.fault (took g (goal.at.returns-in-Err-send_due-clause-why g c).After-next).keeps
    c.records.invariant.same.departures c.records.invariant.same.fates c.in-Err-send_due.ensures.only.why

pub arrive-arriving-requires-clause-named : goal.arrive-arriving-requires-clause-named
arrive-arriving-requires-clause-named g c = c.requires.under.setup.sound.named

pub arrive-arriving-requires-clause-countable : goal.arrive-arriving-requires-clause-countable
arrive-arriving-requires-clause-countable g c = under_countable c.records.invariant.reading.2.under

pub lend-record-requires : goal.lend-record-requires
lend-record-requires g c = of_some (Holds c.next.new.self) _ c.in-Some.found c.in-Some.is c.in-Ok.ensures.holds

-- one more packet was read, and is the next to be offered
come : (g : Over) (c : After-arrive-arriving g)
    → IsComing (setup g c.args.discipline.now c.args.classify.now c.args.names.now c.args.progress.now.clock.rate c.args.words.now.seed)
    (moment (g.D.Discipline.view c.records.discipline) (g.F.Files.view c.next.new.files)
    (record c.records.outputs { counts = c.arrive-arriving.new.counts }) (g.K.Keeper.told c.records.keeper) c.records.progress) c.records.words
    (StartsOn (g.F.Files.view c.args.files.now) c.args.reader.now) c.next.new.self c.arrive-arriving.result
    (c.records.invariant.reading.0 ++ arrival_of (g.C.Classify.placed c.args.classify.now) c.arrive-arriving.result ∷ []) c.records.invariant.reading.1
come g c =
    let made = c.arrive-arriving.ensures in
    let told : Found → RecordTold = told_by c.next.new.self in
    let R : RecordTold → Type 0 = λ t. IsRead t c.records.latest c.arrive-arriving.result in
    coming (told c.in-Some.found) c.arrive-arriving.result c.records.invariant.reading.2 c.next.ensures.some.1.keeps
    (of_some (λ found. Answers (g.F.Files.view c.records.files) (g.F.Files.view c.next.new.files) c.records.reader c.next.new.self (told found)) _ c.in-Some.found c.in-Some.is c.in-Ok.ensures.record)
    (of_some (λ found. Counts c.records.reader c.next.new.self (told found)) _ c.in-Some.found c.in-Some.is c.in-Ok.ensures.counted)
    (record {
      read = subst R c.lend-record.ensures made.read;
      number = omega (arith, made.number, ap (λ (k : Totals). k.arrived) c.totals-number.ensures);
      placed = made.placed;
      within = made.within;
      few = c.in-Some.found.counted;
      counted = made.counted;
    }) refl

pub play_packet-requires-clause-under : goal.play_packet-requires-clause-under
play_packet-requires-clause-under g c =
    let x : Setup = setup g c.args.discipline.now c.args.classify.now c.args.names.now c.args.progress.now.clock.rate c.args.words.now.seed in
    let h = come g (goal.at.play_packet-requires-clause-under g c).After-arrive-arriving in
    (x, _, c.records.invariant.reading.1, h.under, h.held)

pub records-preserved : goal.records-preserved
records-preserved g c =
    let x : Setup = setup g c.args.discipline.now c.args.classify.now c.args.names.now c.args.progress.now.clock.rate c.args.words.now.seed in
    let more : List Captured = c.records.invariant.reading.0 ++ arrival_of x.place c.arrive-arriving.result ∷ [] in
    let h = come g (goal.at.records-preserved g c).After-arrive-arriving in
    let read = took g (goal.at.records-preserved g c).After-next in
    let file : c.next.new.self.file ≡ c.args.reader.now.file = c.next.ensures.file ∙ c.records.invariant.file in
    let only = c.in-Ok-Made-play_packet.ensures.only in
    let d = c.in-Ok-Made-play_packet.ensures.due x more c.records.invariant.reading.1 h.under h.held in
    let Q : Due → Type 0 = λ k. OfferedIs k x more c.arrive-arriving.result.packet.at c.records.invariant.reading.1 d.0 in
    let o = subst Q c.in-Ok-Made-play_packet.field-0-is d.2 in
    record {
      file = file;
      sound = c.in-Ok.ensures.sound;
      fixed = c.in-Ok-Made-play_packet.ensures.fixed ∙ c.records.invariant.fixed;
      kind = kind_trans _ _ _ c.records.invariant.kind c.play_packet.ensures.kind;
      no_fault = same_counts _ _ _ (same_counts _ _ _ c.records.invariant.no_fault c.in-Ok.ensures.counts) only.no_fault;
      same = record { departures = only.same.departures ∙ c.records.invariant.same.departures; fates = only.same.fates ∙ c.records.invariant.same.fates };
      others = wrote_more c.requires.under.written.given read c.records.invariant.same.departures c.records.invariant.same.fates only.others;
      early = c.arrive-arriving.ensures.within.early;
      reading = (
        more,
        d.0,
        record {
          under = d.1;
          offers = omega (arith, o.1, h.offers);
          last = o.0;
          newest = o.2;
          last_is = h.last_is;
          counted = h.counted;
          read = λ bytes t. has_read (read_kept c.requires.reads c.requires.under.written.given read c.records.invariant.same file t.0 only.others (h.read bytes t));
        },
      );
    }

pub returns-in-Ok-Late-play_packet-clause-ended : goal.returns-in-Ok-Late-play_packet-clause-ended
returns-in-Ok-Late-play_packet-clause-ended g c =
    let x : Setup = setup g c.args.discipline.now c.args.classify.now c.args.names.now c.args.progress.now.clock.rate c.args.words.now.seed in
    let k : List LabelledEvent = c.records.invariant.reading.1 in
    let more : List Captured = c.records.invariant.reading.0 ++ arrival_of x.place c.arrive-arriving.result ∷ [] in
    let h = come g (goal.at.returns-in-Ok-Late-play_packet-clause-ended g c).After-arrive-arriving in
    let read = took g (goal.at.returns-in-Ok-Late-play_packet-clause-ended g c).After-next in
    let d = c.in-Ok-Late-play_packet.ensures.due x more k h.under h.held in
    let Q : Due → Type 0 = λ k. OfferedIs k x more c.arrive-arriving.result.packet.at c.records.invariant.reading.1 d.0 in
    let o = subst Q c.in-Ok-Late-play_packet.field-0-is d.2 in
    let cut : IsCutOff x.policy x.rate x.seed (bare_arrivals more) d.0 = o.0 in
    let starts = cut_starts x (bare_arrivals more) d.0 d.1.setup.sound d.1.going.rising cut in
    let next = is_bare_arrival more d.0 (arrival_of x.place c.arrive-arriving.result) (held_same h.held {k = d.0} o.1.0).there in
    let inside = next.inside in
    let staying : StayDue x more (cut.next ∷ d.0) =
    λ others. later_arrivals x.policy x.rate x.seed (bare_arrivals more) others cut.next d.0 (omega (arith, inside, bare_arrivals_length more)) (cut.is_due, cut.begun.events) in
    record {
      arrived = more;
      events = d.0;
      under = d.1;
      ends = record {
        cut = cut;
        first = first_of_read x _ _ _ more _ (cut.next ∷ d.0) (λ bytes t. has_read (h.read bytes t)) staying;
        ahead = λ bytes t.
            inr (ahead_of (read_kept c.requires.reads c.requires.under.written.given read c.records.invariant.same (c.next.ensures.file ∙ c.records.invariant.file) t.0
            c.in-Ok-Late-play_packet.ensures.only.others (h.read bytes t)) c.in-Ok.ensures.sound (omega (arith, o.1.1, starts.after))
            (starts.before (bare_arrival (arrival_of x.place c.arrive-arriving.result)) next.seen));
      };
      first = first_of_read x _ _ _ more _ d.0 (λ bytes t. has_read (h.read bytes t)) (before_stays x h.held d.0 o.1.0 cut.begun.events);
    }

pub returns-in-Ok-Late-play_packet-clause-others : goal.returns-in-Ok-Late-play_packet-clause-others
returns-in-Ok-Late-play_packet-clause-others g c =
    wrote_more c.requires.under.written.given (took g (goal.at.returns-in-Ok-Late-play_packet-clause-others g c).After-next) c.records.invariant.same.departures c.records.invariant.same.fates c.in-Ok-Late-play_packet.ensures.only.others

pub returns-in-Err-play_packet-clause-broken : goal.returns-in-Err-play_packet-clause-broken
returns-in-Err-play_packet-clause-broken g c =
    let x : Setup = setup g c.args.discipline.now c.args.classify.now c.args.names.now c.args.progress.now.clock.rate c.args.words.now.seed in
    let more : List Captured = c.records.invariant.reading.0 ++ arrival_of x.place c.arrive-arriving.result ∷ [] in
    let h = come g (goal.at.returns-in-Err-play_packet-clause-broken g c).After-arrive-arriving in
    let b = c.in-Err-play_packet.ensures.broken x more c.records.invariant.reading.1 h.under h.held in
    record {
      arrived = more;
      events = b.0;
      broken = record { begun = b.1.begun; fronts = fronts_files c.records.invariant.same.departures c.records.invariant.same.fates b.1.fronts };
      first = first_of_read x _ _ _ more _ b.0 (λ bytes t. has_read (h.read bytes t)) b.2;
    }

pub returns-in-Err-play_packet-clause-others : goal.returns-in-Err-play_packet-clause-others
returns-in-Err-play_packet-clause-others g c =
    wrote_more c.requires.under.written.given (took g (goal.at.returns-in-Err-play_packet-clause-others g c).After-next) c.records.invariant.same.departures c.records.invariant.same.fates c.in-Err-play_packet.ensures.only.others

pub returns-in-Err-play_packet-clause-why : goal.returns-in-Err-play_packet-clause-why
returns-in-Err-play_packet-clause-why g c = cause_since (g.F.Files.view c.play_packet.new.files) c.in-Err-play_packet.fault (took g (goal.at.returns-in-Err-play_packet-clause-why g c).After-next).keeps
    c.records.invariant.same.departures c.records.invariant.same.fates c.in-Err-play_packet.ensures.only.why

pub returns-in-Ok-Made-clause-no_fault : goal.returns-in-Ok-Made-clause-no_fault
returns-in-Ok-Made-clause-no_fault g c = λ _. same_counts _ _ _ (same_counts _ _ _ c.records.invariant.no_fault c.in-Ok.ensures.counts) c.in-Ok-Made.ensures.only.no_fault

pub returns-in-Ok-Made-clause-same : goal.returns-in-Ok-Made-clause-same
returns-in-Ok-Made-clause-same g c = same_trans c.records.invariant.same c.in-Ok-Made.ensures.only.same

pub returns-in-Ok-Late-clause-no_fault : goal.returns-in-Ok-Late-clause-no_fault
returns-in-Ok-Late-clause-no_fault g c = λ _. same_counts _ _ _ (same_counts _ _ _ c.records.invariant.no_fault c.in-Ok.ensures.counts) c.in-Ok-Late.ensures.only.no_fault

pub returns-in-Ok-Late-clause-same : goal.returns-in-Ok-Late-clause-same
returns-in-Ok-Late-clause-same g c = same_trans c.records.invariant.same c.in-Ok-Late.ensures.only.same

pub returns-in-Ok-Late-play_packet-clause-no_fault : goal.returns-in-Ok-Late-play_packet-clause-no_fault
returns-in-Ok-Late-play_packet-clause-no_fault g c = λ _. same_counts _ _ _ (same_counts _ _ _ c.records.invariant.no_fault c.in-Ok.ensures.counts) c.in-Ok-Late-play_packet.ensures.only.no_fault

pub returns-in-Ok-Late-play_packet-clause-same : goal.returns-in-Ok-Late-play_packet-clause-same
returns-in-Ok-Late-play_packet-clause-same g c =
    let before = c.records.invariant.same in
    let more = c.in-Ok-Late-play_packet.ensures.only.same in
    record { departures = more.departures ∙ before.departures; fates = more.fates ∙ before.fates }

pub returns-in-Err-send_due-clause-same : goal.returns-in-Err-send_due-clause-same
returns-in-Err-send_due-clause-same g c = same_trans c.records.invariant.same c.in-Err-send_due.ensures.only.same

pub returns-in-Err-play_packet-clause-same : goal.returns-in-Err-play_packet-clause-same
returns-in-Err-play_packet-clause-same g c =
    let before = c.records.invariant.same in
    let more = c.in-Err-play_packet.ensures.only.same in
    record { departures = more.departures ∙ before.departures; fates = more.fates ∙ before.fates }

pub returns-in-Err-clause-same : goal.returns-in-Err-clause-same
returns-in-Err-clause-same g c = c.records.invariant.same

pub returns-in-Err-clause-read : goal.returns-in-Err-clause-read
returns-in-Err-clause-read g c = λ q.
    let e : c.in-Err.fault ≡ capture.Read = cc in
    let error : CaptureFault → Result (Option Found) CaptureFault = λ f. Err f in
    read_since (g.F.Files.view c.next.new.files) c.records.invariant.others c.records.invariant.file c.records.invariant.sound (c.in-Err.ensures.read (ap error e))
