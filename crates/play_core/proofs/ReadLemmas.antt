-- One more record was read, and a play that ended.
use Rattle.std.proofs.Common.{◌≡◌, ◌≤◌, ◌+◌, ◌-◌, ◌∙◌, ℕ, List, [], ◌∷◌, ◌++◌, length, Some, ap, sym, subst, arith, None}
use Rattle.capture_model.specs.Capture.{most_records}
use Rattle.altq_model.specs.Arrivals.{Captured, bare_arrivals}
use Rattle.altq_model.specs.Busy.{IsBusy}
use Rattle.altq_model.specs.History.{Arrival, Event, Offered, Sent, LabelledEvent, unlabelled, offered, labels}
use Rattle.altq_model.specs.Lawful.{AreHeld, AreRising}
use Rattle.altq_model.specs.Play.{Policy, AreDue, IsPlay, due}
use Rattle.play_laws.proofs.AllLaws.{play_laws, play_is_whole}
use Rattle.play_laws.proofs.ArrivalLemmas.{bare_arrivals_append}
use Rattle.play_laws.proofs.BusyLemmas.{is_busy}
use Rattle.play_laws.proofs.DepartureLemmas.{arrival_stays}
use Rattle.play_laws.proofs.OneLemmas.{later_arrivals}
use Rattle.play_laws.proofs.TimeLemmas.{there_at}
use Rattle.play_core.specs.Ended.{IsCutOff}
use Rattle.play_core.specs.Finished.{EndsWithOffer, WasOffered, IsFinished, IsStopped}
use Rattle.play_core.specs.Going.{numbered, HoldEach}
use Rattle.play_core.proofs.Come.{HasCome, laws_of}
use Rattle.play_core.proofs.GoingLemmas.{Going, Goes, State, come_of}
use Rattle.play_core.proofs.PoolLemmas.{each_moves, from_one, within_count}

one_before : (e : Event) (h : List Event) → WasOffered e → offered (e ∷ h) ≡ offered h + 1
one_before (Offered a w v) h o = omega arith
one_before (Sent s) h o = absurd o

more_due : (p : Policy) (rate seed : ℕ) (arrived more : List Arrival) (g : List LabelledEvent) → EndsWithOffer g → offered (unlabelled g) ≤ length arrived → AreDue p rate seed arrived g
    → AreDue p rate seed (arrived ++ more) g
more_due p rate seed arrived more [] o l d = tt
more_due p rate seed arrived more (e ∷ g) o l d = later_arrivals p rate seed arrived more e g (omega (arith, l, one_before e.what (unlabelled g) o)) d

-- what waits stays the arrival of its number
holds_more : {s : State} {arrived : List Captured} {g : List LabelledEvent} (more : List Captured) → (u : Goes s arrived g)
    → (c : ℕ) → HoldEach (arrived ++ more) g s.progress.pool (labels c u.going.recorded) (labels c g)
holds_more {s = s} {arrived = arrived} {g = g} more u c =
    let laws = laws_of (come_of u) in
    each_moves arrived (arrived ++ more) g g s.progress.pool s.progress.pool (labels c u.going.recorded) (labels c g) (λ t n o h.
    let l = laws.waits_once n c in
    let low = from_one n (offered (unlabelled g)) (omega (arith, o, l)) in
    let high = within_count n (offered (unlabelled g)) (omega (arith, o, l)) in
    let a = there_at (bare_arrivals arrived) (n - 1) (omega (arith, low, high, laws.came)) in
    record { packet = h.packet ∙ ap (λ (b : Captured). Some (numbered n b)) (sym (arrival_stays arrived more n a.0 a.1)); mark = h.mark })
    (u.going.holds c)

-- a play whose newest event is the offer of the last known arrival goes on when more was read
pub read_more : {s : State} {arrived : List Captured} {g : List LabelledEvent} (more : List Captured) → EndsWithOffer g → AreRising (bare_arrivals (arrived ++ more))
    → length (arrived ++ more) ≤ most_records → Goes s arrived g → Going s (arrived ++ more) g
read_more {s = s} {arrived = arrived} {g = g} more o rise few u =
    let y = u.going in
    let D : List Arrival → Type 0 = λ k. AreDue s.shown.policy s.progress.clock.rate s.words.seed k g in
    record {
      begun = record {
        events = subst D (sym (bare_arrivals_append arrived more)) (more_due s.shown.policy s.progress.clock.rate s.words.seed (bare_arrivals arrived) (bare_arrivals more) g o (laws_of (come_of u)).came y.begun.events);
        in_time = y.begun.in_time;
      };
      rising = rise;
      few = few;
      words = y.words;
      one_each = y.one_each;
      link_is = y.link_is;
      latest_is = y.latest_is;
      totals = y.totals;
      rate_is = y.rate_is;
      recorded = y.recorded;
      represents = y.represents;
      same = y.same;
      holds = holds_more more u;
      count = y.count;
      within = y.within;
      room = y.room;
    }

busy_of : {p : Policy} {rate seed : ℕ} {arrived : List Arrival} {g : List LabelledEvent} → HasCome p rate seed arrived g → IsBusy p rate (unlabelled g)
busy_of x = is_busy _ _ _ _ _ x.positive x.lawful x.steady x.rising x.begun.events

-- a play after which nothing is due
pub finished : {s : State} {arrived : List Captured} {g : List LabelledEvent} → Goes s arrived g → AreHeld s.shown.policy (bare_arrivals arrived)
    → due s.shown.policy s.progress.clock.rate s.words.seed (bare_arrivals arrived) g ≡ None → IsFinished s.shown.policy s.progress.clock.rate s.words.seed arrived g s.progress.totals
finished {s = s} {arrived = arrived} {g = g} u held d =
    let x = come_of u in
    let play : IsPlay s.shown.policy s.progress.clock.rate s.words.seed (bare_arrivals arrived) g = record { events = x.begun.events; done = d } in
    record {
      play = play;
      in_time = x.begun.in_time;
      laws = play_laws _ _ _ _ _ x.positive x.lawful x.rising held play;
      whole = play_is_whole _ _ _ _ _ x.positive x.lawful x.rising held play;
      each = (laws_of x).each;
      busy = busy_of x;
      totals = u.going.totals;
    }

-- a play that was cut off
pub stopped : {s : State} {arrived : List Captured} {g : List LabelledEvent} → Goes s arrived g → IsCutOff s.shown.policy s.progress.clock.rate s.words.seed (bare_arrivals arrived) g
    → IsStopped s.shown.policy s.progress.clock.rate s.words.seed arrived g s.progress.totals
stopped u cut = let x = come_of u in record { cut = cut; laws = laws_of x; busy = busy_of x; totals = u.going.totals }
