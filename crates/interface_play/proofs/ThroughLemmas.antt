-- From the play over files of which one has other bytes left to these files.
use Rattle.std.proofs.Common.{◌≡◌, ◌≤◌, ◌+◌, ◌++◌, ◌∙◌, ◌⊎◌, ℕ, Bool, true, false, List, [], Some, Ok, Err, length, length-append, arith, ap, sym, subst, inl, inr}
use Rattle.std.specs.Prelude.{IsTrue, if◌then◌else◌}
use Rattle.std.specs.declared.option.Option.{Option}
use Rattle.std.specs.declared.result.Result.{Result}
use Rattle.altq_model.specs.History.{LabelledEvent}
use Rattle.capture_model.specs.Capture.{Record, Step, Fault, Limit, Reads, IsLast}
use Rattle.gathered_writes.specs.Gathered.{HoldsFront}
use Rattle.interface_marks.specs.Conditioners.{conditioning_of, is_conditioned, marked_in}
use Rattle.pcap_files.specs.Reading.{AreAllTaken}
use Rattle.pcapng_files.specs.Fronts.{with_front}
use Rattle.play_base.specs.Holds.{HoldsAt}
use Rattle.play_base.specs.View.{View}
use Rattle.play_core.specs.declared.totals.Totals.{Totals}
use Rattle.play_loop.specs.declared.fault.Limit.TheVariants as limit
use Rattle.play_loop.specs.declared.fault.Opened.{Opened}
use Rattle.play_loop.specs.declared.fault.Output.TheVariants as output
use Rattle.play_loop.specs.declared.fault.PlayFault.{PlayFault}
use Rattle.play_loop.specs.declared.fault.PlayFault.TheVariants as play
use Rattle.play_loop.specs.declared.kept.KeptFate.{KeptFate}
use Rattle.play_loop.specs.Played.{AreBegun, AreReady, BeginsStats, Explains, HasBegunStats, HasOffered, HasPlayed, HasStopped, HaveHeads, HeadsFirst, HoldTexts, LeavesStats, OfArrivals, RowsWait, Streams, WasCutOff, start_of}
use Rattle.play_loop.specs.Setup.{Setup, arrivals_in}
use Rattle.traffic_marks.proofs.Lengths.{length-marked}
use Rattle.interface_play.specs.Failing.{AreTaken, StreamsWithin}
use Rattle.interface_play.specs.Setup.{Untold}
use Rattle.interface_play.specs.Steps.{CameOf, CameThrough, IsHeld, Passage, with_left}
use Rattle.interface_play.proofs.SeeingLemmas.{CameIn, Explained, FrontsOf, HeadsIn, IsGiven, LateIn, OffersOf, Run, Sees, ShortIn, StatsLeft, StatsOf, ToldOf, TookFirst, setup_in}

-- the files tell the same but for what one has left
module _ (c : View) (left : ℕ → Option (List ℕ)) (fixed : List ℕ) where
  abbrev Seen : View
  Seen = with_left c left fixed

  pub holds : (file : ℕ) (xs : List ℕ) → HoldsAt Seen file xs → HoldsAt c file xs
  holds file xs x = record { there = x.there; bytes = x.bytes }

  holds_seen : (file : ℕ) (xs : List ℕ) → HoldsAt c file xs → HoldsAt Seen file xs
  holds_seen file xs x = record { there = x.there; bytes = x.bytes }

  pub ready_seen : (o : Opened) → AreReady c o → AreReady Seen o
  ready_seen o x = record {
    arrivals = x.arrivals;
    few = x.few;
    empty = record {
      departures = holds_seen o.departures [] x.empty.departures;
      fates = holds_seen o.fates [] x.empty.fates;
      apart = x.empty.apart;
    };
    from_departures = x.from_departures;
    from_fates = x.from_fates;
    stats = holds_seen o.stats [] x.stats;
    departures_from_stats = x.departures_from_stats;
    fates_from_stats = x.fates_from_stats;
  }

  holds_front : (file : ℕ) (text : List ℕ) → HoldsFront Seen file text → HoldsFront c file text
  holds_front file text x = record { written = x.written; rest = x.rest; holds = holds file x.written x.holds; split = x.split }

  module _ (x : Setup) (o : Opened) (records : List Record) where
    texts : (g : List LabelledEvent) → HoldTexts Seen o x (arrivals_in x records) g → HoldTexts c o x (arrivals_in x records) g
    texts g h = record { departures = holds o.departures _ h.departures; fates = holds o.fates _ h.fates }

    played : (stands : List LabelledEvent → Type 0) (t : Totals) → HasPlayed x stands Seen o records t → HasPlayed x stands c o records t
    played stands t h = record {
      history = h.history;
      play = h.play;
      texts = texts h.history h.texts;
      stats = holds o.stats _ h.stats;
      reads = h.reads;
      stands = h.stands;
    }

    offered : HasOffered x Untold Seen o records → HasOffered x Untold c o records
    offered h = record {
      history = h.history;
      begun = h.begun;
      all = h.all;
      last = h.last;
      texts = texts h.history h.texts;
      stands = h.stands;
    }

    stopped : HasStopped x Seen o records → HasStopped x c o records
    stopped h = record {
      history = h.history;
      begun = h.begun;
      texts = record { departures = holds_front o.departures _ h.texts.departures; fates = holds_front o.fates _ h.texts.fates };
    }

    begun_stats : HasBegunStats x Seen o records → HasBegunStats x c o records
    begun_stats h = record { history = h.history; play = h.play; texts = texts h.history h.texts; stats = holds_front o.stats _ h.stats }

-- the bytes that are taken of a file and not given are few
abbrev Past : (conditioned : Bool) → View → (file : ℕ) → (after : ℕ → Option (List ℕ)) → Type 0
Past conditioned c file after = (rest : List ℕ) → after file ≡ Some rest → (mine : List ℕ) × (c.left file ≡ Some mine) × IsHeld conditioned rest mine

module _ (c : View) (file : ℕ) (after : ℕ → Option (List ℕ)) (fixed : List ℕ) (bytes : List ℕ) (records : List Record) where
  taken : (b : Bool) → Past b c file after → AreAllTaken (with_left c after fixed) file bytes records → AreTaken b c file bytes records
  taken true past x =
      let y = past x.rest x.left in
      record {
        of_front = record { front = x.taken; rest = x.rest; split = x.split; last = x.last; reads = x.reads; ended = x.ended };
        mine = y.0;
        left = y.1;
        held = y.2;
      }
  taken false past x =
      let y = past x.rest x.left in
      record {
        taken = x.taken;
        rest = x.rest;
        split = x.split;
        left = y.1 ∙ ap (λ (l : List ℕ). Some l) (sym y.2);
        last = x.last;
        reads = x.reads;
        ended = x.ended;
      }

  streams : (b : Bool) (moment : ℕ) → Past b c file after → Streams (with_left c after fixed) file bytes records moment
      → StreamsWithin (if b then 65536 + 262160 else 65536) c file bytes records moment
  streams true moment past h = λ before r behind split early late.
      let x = h before r behind split early late in
      let y = past x.rest x.left in
      let l = x.within in
      let m = y.2 in record { rest = y.0; left = y.1; within = omega (arith, l, m) }
  streams false moment past h = λ before r behind split early late.
      let x = h before r behind split early late in
      let y = past x.rest x.left in
      record { rest = x.rest; left = y.1 ∙ ap (λ (l : List ℕ). Some l) (sym y.2); within = x.within }

-- what was taken of a capture of which nothing was given
held_first : (b : Bool) (first rest mine : List ℕ) (n : ℕ) → length first ≤ 4 → length (first ++ rest) ≡ n → IsHeld b rest mine
    → n ≤ 4 + (if b then 262160 else 0) + length mine
held_first true first rest mine n few e h = omega (arith, few, e, h, length-append first rest)
held_first false first rest mine n few e h = omega (arith, few, e, ap (λ (l : List ℕ). length l) h, length-append first rest)

-- what a play over the passage of the arrivals says is seen of its source
module _ (r : Run) (p : Passage r.play r.opened r.created r.after) (tells : r.created.tells ≡ r.old.tells)
    (left : IsTrue r.old.tells → r.created.left r.opened.arrivals ≡ r.old.left r.play.file) where
  abbrev Old : View
  Old = with_left r.created p.before p.fixed_before

  abbrev New : View
  New = with_left r.after p.after p.fixed_after

  joined : IsTrue r.old.tells → (capture : List ℕ) → IsGiven r capture
      → (rest : List ℕ) × (p.before r.opened.arrivals ≡ Some rest) × (r.opened.first.now ++ rest ≡ marked_in r.play.interface.now capture)
  joined t capture e =
      let gv = r.play.given.now in
      p.joined (tells ∙ t) capture (ap (λ (o : Option (List ℕ)). with_front true gv.rest gv.front.items o) (left t) ∙ e)

  sees : (P : List ℕ → Type 0) → OfArrivals Old r.opened P → Sees r P
  sees P x = λ t capture e. (let z = joined t capture e in subst P z.2 (x (tells ∙ t) z.0 z.1))

  heads : length r.opened.first.now ≤ 4 → HeadsFirst Old New r.opened → HeadsIn r
  heads few h t = by (h (tells ∙ t))
    where
      by : HaveHeads r.after r.opened.departures r.opened.fates
          ⊎ (RowsWait r.after r.opened.departures r.opened.fates × (p.after r.opened.arrivals ≡ p.before r.opened.arrivals))
          → HaveHeads r.after r.opened.departures r.opened.fates ⊎ (RowsWait r.after r.opened.departures r.opened.fates × TookFirst r)
      by (inl x) = inl x
      by (inr x) = inr (
        x.0,
        λ rest capture e.
            let i = r.play.interface.now in
            let z = joined t capture e in
            let y = p.past rest z.0 (x.1 ∙ z.1) in
            let size = ap (λ (l : List ℕ). length l) z.2 ∙ length-marked (conditioning_of i) capture in
            record { rest = y.0; left = y.1; within = held_first (is_conditioned i) r.opened.first.now z.0 y.0 (length capture) few size y.2 },
      )

  offers : (last : Step) → OfArrivals Old r.opened (OffersOf (setup_in r) New r.opened last) → Sees r (OffersOf (setup_in r) r.after r.opened last)
  offers last h = λ t capture e.
      let y = sees (OffersOf (setup_in r) New r.opened last) h t capture e in
      (y.0, y.1, offered r.after p.after p.fixed_after (setup_in r) r.opened y.0 y.2)

  short : OfArrivals Old r.opened (λ bytes. (records : List Record) × AreAllTaken New r.opened.arrivals bytes records × HasOffered (setup_in r) Untold New r.opened records)
      → r.play.given.now.rest ≡ true → Sees r (ShortIn r)
  short h rest = λ t capture e.
      let y = sees (λ bytes. (records : List Record) × AreAllTaken New r.opened.arrivals bytes records × HasOffered (setup_in r) Untold New r.opened records) h t capture e in (
        y.0,
        taken r.after r.opened.arrivals p.after p.fixed_after _ y.0 (is_conditioned r.play.interface.now) (p.past rest) y.1,
        offered r.after p.after p.fixed_after (setup_in r) r.opened y.0 y.2,
      )

  abbrev LateOf : List ℕ → Type 0
  LateOf bytes = (records : List Record) × ((last : Step) × Reads bytes records last × IsLast last × WasCutOff (setup_in r) Untold New r.opened bytes records last)

  late : OfArrivals Old r.opened LateOf → Sees r (LateIn r)
  late h = λ t capture e.
      let y = sees LateOf h t capture e in
      let z = y.1.3 in
      record {
        records = y.0;
        last = y.1.0;
        history = z.history;
        totals = z.totals;
        reads = y.1.1;
        is_last = y.1.2;
        play = z.play;
        texts = texts r.after p.after p.fixed_after (setup_in r) r.opened y.0 z.history z.texts;
        before = z.before;
        streams = λ rest. streams r.after r.opened.arrivals p.after p.fixed_after _ y.0 (is_conditioned r.play.interface.now)
            (start_of z.play.cut.next.what) (p.past rest) z.streams;
      }

  explained : (f : PlayFault) → Explains (setup_in r) Untold Old New r.opened f → Explained r f
  explained (play.Capture d) h = offers (Fault d) h
  explained play.Read h = (h.0, short h.1)
  explained (play.Write output.Departures) h = h
  explained (play.Write output.Fates) h = h
  explained (play.Write output.Statistics) h = h
  explained (play.Limit limit.Capture) h = offers Limit h
  explained (play.Limit limit.Clock) h = late h
  explained play.NoMemory h = tt

  are_begun : AreBegun (setup_in r) Old New r.opened → Sees r (StatsOf (setup_in r) r.after r.opened)
  are_begun h = λ t capture e.
      let y = sees (StatsOf (setup_in r) New r.opened) h t capture e in
      (y.0, y.1, begun_stats r.after p.after p.fixed_after (setup_in r) r.opened y.0 y.2)

  none_left : HoldsAt New r.opened.stats [] → HoldsAt r.after r.opened.stats []
  none_left h = holds r.after p.after p.fixed_after r.opened.stats [] h

  stats_left : (f : PlayFault) → LeavesStats (setup_in r) Old New r.opened f → StatsLeft r f
  stats_left (play.Capture d) h = none_left h
  stats_left play.Read h = none_left h
  stats_left (play.Write output.Departures) h = none_left h
  stats_left (play.Write output.Fates) h = none_left h
  stats_left (play.Write output.Statistics) h = are_begun h
  stats_left (play.Limit limit) h = none_left h
  stats_left play.NoMemory h = by h
    where
      by : BeginsStats (setup_in r) Old New r.opened → StatsLeft r play.NoMemory
      by (inl k) = inl (none_left k)
      by (inr k) = inr (are_begun k)

  seen : (stood : List LabelledEvent → Type 0) (kept : List KeptFate → Type 0) (o : Result Totals PlayFault) → length r.opened.first.now ≤ 4
      → CameOf (setup_in r) stood kept r.opened o Old New → CameIn r stood kept o
  unfolding played
  seen stood kept (Ok totals) few h = (
    λ t capture e.
        let y = sees (ToldOf (setup_in r) stood kept New r.opened totals) h.0 t capture e in (
          y.0,
          y.1,
          record { played = played r.after p.after p.fixed_after (setup_in r) r.opened y.0 stood totals y.2.played; told = y.2.told },
        ),
    h.1,
  )
  seen stood kept (Err fault) few h = (
    explained fault h.0,
    λ t capture e records last reads is_last.
        stopped r.after p.after p.fixed_after (setup_in r) r.opened records (sees (FrontsOf (setup_in r) New r.opened) h.1 t capture e records last reads is_last),
    stats_left fault h.2,
    heads few h.3,
  )

-- what came of a play of what it saw is seen of its source
pub came : (r : Run) (stood : List LabelledEvent → Type 0) (kept : List KeptFate → Type 0) (o : Result Totals PlayFault)
    → r.created.tells ≡ r.old.tells → (IsTrue r.old.tells → r.created.left r.opened.arrivals ≡ r.old.left r.play.file) → length r.opened.first.now ≤ 4
    → CameThrough (setup_in r) stood kept r.play r.opened o r.created r.after → CameIn r stood kept o
came r stood kept o tells left few x = seen r x.passage tells left stood kept o few x.came
