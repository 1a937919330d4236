-- The records of a capture, one by one, and the play of those that were read.
use Rattle.std.proofs.Common.{◌≡◌, ◌≤◌, ◌<◌, ◌++◌, ◌∙◌, ◌+◌, ◌⊎◌, inl, inr, ℕ, zero, suc, max, arith, List, [], ◌∷◌, length, None, Some, refl, ap, sym, subst, append-nil, length-append}
use Rattle.std.specs.Prelude.{slice_get, option_map, nat_lt, IfNone, IfSome, IsTrue}
use Rattle.std.specs.declared.option.Option.{Option}
use Rattle.altq_model.specs.declared.Placed.{Placed}
use Rattle.altq_model.specs.Arrivals.{Captured, arrivals_from, arrivals_of, bare_arrival, bare_arrivals}
use Rattle.altq_model.specs.History.{Arrival, Event, DrawnWords, LabelledEvent, unlabelled, offered, journal}
use Rattle.altq_model.specs.Laws.{IsLate}
use Rattle.altq_model.specs.Lawful.{AreRising, RiseFrom, greatest, latest}
use Rattle.altq_model.specs.Play.{AreDue}
use Rattle.capture_model.specs.Capture.{Record, most_records}
use Rattle.capture_model.specs.Written.{written}
use Rattle.play_text.specs.Names.{name_of}
use Rattle.play_text.specs.Texts.{fates_header}
use Rattle.pcap_files.specs.declared.fault.CaptureFault.{CaptureFault}
use Rattle.pcap_files.specs.declared.fault.CaptureFault.TheVariants as fault
use Rattle.pcap_files.specs.declared.reader.Reader.{Reader}
use Rattle.pcap_files.specs.Reading.{Answers, Counts as NextCounts, IsWhole, Represents, Shows, RecordTold, answered}
use Rattle.pcap_files.proofs.ReadingLaws.{answered_front, one_reading, stands_kept}
use Rattle.play_base.specs.View.{View, Keeps, Everything, ReadFault}
use Rattle.play_base.proofs.ViewLaws.{rose_later, still_there}
use Rattle.play_base.proofs.HoldsLaws.{apart_kept}
use Rattle.play_laws.specs.Events.{IsOffer, IsSending}
use Rattle.play_laws.proofs.AllLaws.{due_laws}
use Rattle.play_laws.proofs.ArrivalLemmas.{arrivals_append, bare_arrivals_append, bare_arrivals_length}
use Rattle.play_laws.proofs.DepartureLemmas.{records_stay}
use Rattle.play_text.proofs.TextLemmas.{rows_stay}
use Rattle.play_laws.proofs.TimeLemmas.{all_arrived}
use Rattle.play_core.specs.Ended.{IsCutOff}
use Rattle.play_core.specs.Finished.{EndsWithOffer}
use Rattle.play_core.specs.Going.{numbered}
use Rattle.play_core.specs.Turns.{arrives}
use Rattle.play_core.proofs.ReadLemmas.{read_more}
use Rattle.altq_model.specs.declared.Counts.{Counts}
use Rattle.play_loop.specs.declared.arriving.Arriving.{Arriving}
use Rattle.class_counts.specs.declared.counting.Counted.TheVariants.{Arrived}
use Rattle.play_loop.specs.declared.outputs.Outputs.{Outputs}
use Rattle.class_counts.specs.Counting.{HasCounted, count_at}
use Rattle.play_loop.specs.Ending.{AreFirst, IsAhead, IsAll}
use Rattle.play_loop.specs.Kept.{IsOther, OnlyWrote, OnlyPlayed}
use Rattle.play_loop.specs.Outputs.{HasTexts, SameFiles}
use Rattle.play_loop.specs.Played.{start_of}
use Rattle.class_counts.specs.Fit.{AreFit, IsFit}
use Rattle.play_loop.specs.Reading.{CanRead, HasRead, IsRead, ArrivalFits, arrival_of}
use Rattle.play_loop.specs.Setup.{IsSound, Setup}
use Rattle.play_loop.specs.Underway.{HasGiven, IsNextArrival, IsUnderway, Moment, StayDue}
use Rattle.class_counts.proofs.CountingLemmas.{counted_read}
use Rattle.play_loop.proofs.OutputLemmas.{texts_kept, texts_same, there_same}
use Rattle.play_loop.proofs.PlayLemmas.{greatest_append}
use Rattle.play_loop.proofs.TextLemmas.{told_stays}
use Rattle.play_loop.proofs.TurnLemmas.{going_laws, moved_on, on, promised}

-- the last arrival of a list, or this moment
abbrev pub last_at : (t : ℕ) → List Arrival → ℕ
last_at t [] = t
last_at t (a ∷ rest) = last_at a.at rest

rises_on : (t : ℕ) (xs : List Arrival) (a : Arrival) → RiseFrom t xs → last_at t xs ≤ a.at → RiseFrom t (xs ++ a ∷ [])
rises_on t [] a r l = (l, tt)
rises_on t (x ∷ xs) a r l = (r.0, rises_on x.at xs a r.1 l)

last_push : (t : ℕ) (xs : List Arrival) (a : Arrival) → last_at t (xs ++ a ∷ []) ≡ a.at
last_push t [] a = refl
last_push t (x ∷ xs) a = last_push x.at xs a

fit_push : (place : List ℕ → Placed) (xs : List Captured) (a : Captured) → AreFit place xs → IsFit place a → AreFit place (xs ++ a ∷ [])
fit_push place [] a f h = (h, tt)
fit_push place (x ∷ xs) a f h = (f.0, fit_push place xs a f.1 h)

there_push : (xs : List Captured) (a : Captured) → slice_get (xs ++ a ∷ []) (length xs) ≡ Some a
there_push [] a = refl
there_push (x ∷ xs) a = there_push xs a

-- a play in which every arrival that was read was offered, the last of them last
pub record IsReading (x : Setup) (m : Moment) (w : DrawnWords) (told : List ℕ → Type 0) (r : Reader) (top : ℕ) (arrived : List Captured) (g : List LabelledEvent) : Type 0 where
  pub under : IsUnderway x m arrived w g
  pub offers : offered (unlabelled g) ≡ length arrived
  pub last : EndsWithOffer g
  pub newest : latest (unlabelled g) ≡ top
  pub last_is : last_at 0 (bare_arrivals arrived) ≡ top
  pub counted : length arrived ≤ answered r
  pub read : (bytes : List ℕ) → told bytes → HasRead x.place m.files r bytes arrived top

-- `arrived` are the arrivals of the records that a reader returned, the last of them at `now`, and those before it by `top`
pub record HasReadOne (place : List ℕ → Placed) (v : View) (r : Reader) (bytes : List ℕ) (arrived : List Captured) (top now : ℕ) : Type 0 where
  pub before : List Record
  pub last : Record
  pub stands : Represents v r bytes (before ++ last ∷ [])
  pub arrivals : arrived ≡ arrivals_of place (before ++ last ∷ [])
  pub top_is : greatest 0 before ≡ top
  pub now_is : greatest 0 (before ++ last ∷ []) ≡ now

pub has_read : {place : List ℕ → Placed} {v : View} {r : Reader} {bytes : List ℕ} {arrived : List Captured} {top now : ℕ} → HasReadOne place v r bytes arrived top now
    → HasRead place v r bytes arrived now
has_read h = record { records = h.before ++ h.last ∷ []; stands = h.stands; arrivals = h.arrivals; latest_is = h.now_is }

-- one more packet was read, and is the next to be offered
pub record IsComing (x : Setup) (m : Moment) (w : DrawnWords) (told : List ℕ → Type 0) (r : Reader) (a : Arriving) (arrived : List Captured) (g : List LabelledEvent) : Type 0 where
  pub under : IsUnderway x m arrived w g
  pub held : IsNextArrival x.place arrived g a
  pub offers : offered (unlabelled g) + 1 ≡ length arrived
  pub last_is : last_at 0 (bare_arrivals arrived) ≡ a.packet.at
  pub counted : length arrived ≤ answered r
  pub read : (bytes : List ℕ) → told bytes → HasReadOne x.place m.files r bytes arrived (latest (unlabelled g)) a.packet.at

-- a read leaves what was written
pub under_kept : {F : ℕ → Type 0} {x : Setup} {m : Moment} {v : View} {arrived : List Captured} {w : DrawnWords} {g : List LabelledEvent} → IsUnderway x m arrived w g → Keeps Everything F m.files v
    → IsUnderway x (record m { files = v }) arrived w g
under_kept u k = record {
  setup = moved_on u.setup refl refl refl;
  going = u.going;
  written = record { given = texts_kept u.written.given k; counted = u.written.counted; was_told = u.written.was_told; fit = u.written.fit };
}

-- one more packet was read and counted
under_read : {x : Setup} {m : Moment} {o : Outputs} {arrived : List Captured} {w : DrawnWords} {g : List LabelledEvent} (a : Arriving) → IsUnderway x m arrived w g → EndsWithOffer g
    → last_at 0 (bare_arrivals arrived) ≤ a.packet.at → length arrived < most_records → ArrivalFits a → o ≡ record m.outputs { counts = o.counts }
    → o.counts.items ≡ count_at x.names (x.place a.packet.bytes.now).class (Arrived a.packet.len a.raised) m.outputs.counts.items
    → IsUnderway x (record m { outputs = o }) (arrived ++ arrival_of x.place a ∷ []) w g
under_read {x} {m} {o} {arrived} {w} {g} a u last l few i same more_is =
    let b : Captured = arrival_of x.place a in
    let more : List Captured = b ∷ [] in
    let laws = going_laws (on u) in
    let R : List Arrival → Type 0 = λ cs. AreRising cs in
    let T : Outputs → Type 0 = λ z. HasGiven x m.files z (arrived ++ more) g in
    let C : List Counts → Type 0 = λ ks. HasCounted x.names (arrived ++ more) (journal g) ks in
    record {
      setup = moved_on u.setup refl refl refl;
      going = read_more more last
          (subst R (sym (bare_arrivals_append arrived more)) (rises_on 0 (bare_arrivals arrived) (bare_arrival b) u.going.rising l))
          (omega (arith, length-append arrived more, few)) (record { promised = promised u.setup; going = u.going });
      written = record {
        given = subst T (sym same) (texts_same u.written.given
            (ap written (sym (records_stay x.dress arrived more g laws.of_arrivals)))
            (ap (λ (t : List ℕ). fates_header ++ t) (sym (rows_stay (name_of x.names) arrived more g laws.of_arrivals))));
        counted = subst C (sym more_is) (counted_read x.names arrived b g m.outputs.counts.items u.written.counted laws.of_arrivals);
        was_told = subst m.told (sym (told_stays arrived more g laws.of_arrivals)) u.written.was_told;
        fit = fit_push x.place arrived b u.written.fit (record { class = refl; some = i.some; short = i.short; fits = i.fits });
      };
    }

pub of_some : {A : Type 0} (P : A → Type 0) (o : Option A) (a : A) → o ≡ Some a → IfSome o P → P a
of_some {A} P o a e h = let Q : Option A → Type 0 = λ k. IfSome k P in subst Q e h

pub of_none : {A : Type 0} (P : Type 0) (o : Option A) → o ≡ None → IfNone o P → P
of_none {A} P o e h = let Q : Option A → Type 0 = λ k. IfNone k P in subst Q e h

arrival_made : (place : List ℕ → Placed) (answer : RecordTold) (top now count : ℕ) (a : Arriving) (s : Record) → IsRead answer top a → now ≡ top → Shows answer count s
    → arrival_of place a ≡ record {
      at = max now s.stamp;
      len = max s.original (length s.captured);
      class = (place s.captured).class;
      prec = (place s.captured).prec;
      bytes = s.captured;
      raised = nat_lt s.stamp now;
    }
arrival_made place answer top now count a s i e y = cc (i.at, i.len, i.bytes, i.raised, e, y.stamp, y.len, y.bytes)

read_record : {place : List ℕ → Placed} {v v' : View} {r r' : Reader} {bytes : List ℕ} {arrived : List Captured} {top : ℕ} {answer : RecordTold} (a : Arriving) → IsRead answer top a
    → (h : HasRead place v r bytes arrived top)
    → (s : Record) × Shows answer (length h.records) s × Represents v' r' bytes (h.records ++ s ∷ [])
    → HasReadOne place v' r' bytes (arrived ++ arrival_of place a ∷ []) top a.packet.at
read_record {place} {top = top} {answer} a i h y =
    let s : Record = y.0 in
    let made = arrival_made place answer top (greatest 0 h.records) (length h.records) a s i h.latest_is y.1 in
    record {
      before = h.records;
      last = s;
      stands = y.2;
      arrivals = ap (λ (l : List Captured). l ++ arrival_of place a ∷ []) h.arrivals ∙ ap (λ (x : Captured). arrivals_of place h.records ++ x ∷ []) made
          ∙ sym (arrivals_append place h.records (s ∷ []));
      top_is = h.latest_is;
      now_is = greatest_append 0 h.records (s ∷ []) ∙ ap (λ (n : ℕ). max n s.stamp) h.latest_is ∙ ap (λ (n : ℕ). max top n) (sym y.1.stamp) ∙ sym i.at;
    }

-- what a reader's answer and its arrival show: the packet is the next by number, placed and counted
pub record HasArrived (x : Setup) (m : Moment) (answer : RecordTold) (top : ℕ) (a : Arriving) (ks : List Counts) : Type 0 where
  pub read : IsRead answer top a
  pub number : a.packet.number ≡ m.progress.totals.arrived + 1
  pub placed : a.placed ≡ x.place a.packet.bytes.now
  pub within : ArrivalFits a
  pub few : answer.number ≤ 4000000
  pub counted : ks ≡ count_at x.names (x.place a.packet.bytes.now).class (Arrived a.packet.len a.raised) m.outputs.counts.items

pub coming : {F : ℕ → Type 0} {x : Setup} {m : Moment} {v : View} {o : Outputs} {w : DrawnWords} {told : List ℕ → Type 0} {r r' : Reader} {top : ℕ} {arrived : List Captured} {g : List LabelledEvent}
    (answer : RecordTold) (a : Arriving) → IsReading x m w told r top arrived g → Keeps Everything F m.files v → Answers m.files v r r' answer → NextCounts r r' answer
    → HasArrived x m answer top a o.counts.items → o ≡ record m.outputs { counts = o.counts }
    → IsComing x (record m { files = v; outputs = o }) w told r' a (arrived ++ arrival_of x.place a ∷ []) g
coming {x = x} {o = o} {w = w} {top = top} {arrived = arrived} {g = g} answer a z k answers counts c same =
    let b : Captured = arrival_of x.place a in
    let size = length-append arrived (b ∷ []) in
    let number : a.packet.number ≡ offered (unlabelled g) + 1 = omega (arith, c.number, z.under.going.totals.arrived) in
    record {
      under = under_read a (under_kept z.under k) z.last (omega (arith, z.last_is, c.read.at)) (omega (arith, z.counted, counts.number, c.few)) c.within same c.counted;
      held = record {
        there = ap (λ (n : ℕ). slice_get (arrived ++ b ∷ []) n) z.offers ∙ there_push arrived b;
        packet_is = ap (λ (n : ℕ). numbered n b) number;
        placed_is = c.placed;
      };
      offers = omega (arith, size, z.offers);
      last_is = ap (λ (cs : List Arrival). last_at 0 cs) (bare_arrivals_append arrived (b ∷ [])) ∙ last_push 0 (bare_arrivals arrived) (bare_arrival b);
      counted = omega (arith, size, z.counted, counts.count);
      read = λ bytes t. (let h = z.read bytes t in rw z.newest (read_record a c.read h (answers bytes h.records h.stands)));
    }

-- writes to files of other names leave what a reader stands for
pub read_kept : {u v w : View} {o p : Outputs} {r s : Reader} {ds ts : List ℕ} {place : List ℕ → Placed} {bytes : List ℕ} {arrived : List Captured} {top now : ℕ} → CanRead u r o
    → HasTexts u o ds ts → OnlyPlayed r.file o.departures o.fates u v → SameFiles o p → s.file ≡ r.file → IsTrue u.tells → OnlyWrote p.departures p.fates v w
    → HasReadOne place v s bytes arrived top now → HasReadOne place w s bytes arrived top now
read_kept {u} {v} {w} {o} {p} {r} {s} c h k same e t x y =
    let told : IsTrue v.tells = k.keeps.tells ∙ t in
    let d = apart_kept _ _ u v r.file o.departures c.there h.departures.holds.there c.from_departures k.keeps told in
    let f = apart_kept _ _ u v r.file o.fates c.there h.fates.holds.there c.from_fates k.keeps told in
    let there = there_same v.part r.file s.file e (still_there _ _ u v r.file k.keeps c.there) in
    let other : IsOther v p.departures p.fates (v.name s.file) = ((λ q. d (ap v.name (sym e) ∙ q ∙ ap v.name same.departures)), (λ q. f (ap v.name (sym e) ∙ q ∙ ap v.name same.fates))) in
    record {
      before = y.before;
      last = y.last;
      stands = stands_kept _ (λ f. IsOther v p.departures p.fates (v.name f)) v w s _ _ y.stands there other x.keeps;
      arrivals = y.arrivals;
      top_is = y.top_is;
      now_is = y.now_is;
    }

-- nothing more arrives
none_there : (xs : List Arrival) (k : ℕ) → k ≡ length xs → slice_get xs k ≡ None
none_there [] k e = refl
none_there (x ∷ xs) zero e = absurd (omega (arith, e))
none_there (x ∷ xs) (suc k) e = none_there xs k (omega (arith, e))

pub none_arrives : (arrived : List Captured) (g : List LabelledEvent) → offered (unlabelled g) ≡ length arrived → None ≡ arrives arrived g
none_arrives arrived g e =
    sym (ap (λ (o : Option Arrival). option_map (λ (a : Arrival). a.at) o) (none_there (bare_arrivals arrived) (offered (unlabelled g)) (e ∙ sym (bare_arrivals_length arrived))))

-- they are all arrivals of a capture
abbrev pub all_read : (place : List ℕ → Placed) (told : List ℕ → Type 0) (v : View) (r : Reader) (arrived : List Captured) (top : ℕ) → IsWhole v r
    → ((bytes : List ℕ) → told bytes → HasRead place v r bytes arrived top) → (bytes : List ℕ) → told bytes → IsAll place bytes arrived
all_read place told v r arrived top whole read bytes t =
    let h = read bytes t in
    record { records = h.records; arrivals = h.arrivals; reads = whole bytes h.records h.stands; size = omega (arith, h.stands.place, r.progress.placed) }

-- the first arrivals of all complete records
pub first_of_all : (x : Setup) (told : List ℕ → Type 0) (arrived : List Captured) (g : List LabelledEvent) → ((bytes : List ℕ) → told bytes → IsAll x.place bytes arrived)
    → AreDue x.policy x.rate x.seed (bare_arrivals arrived) g → AreFirst x told arrived g
first_of_all x told arrived g all d = λ bytes t every last y l.
    let h = all bytes t in
    let one = one_reading bytes every h.records last _ y l h.reads tt in
    let P : List Captured → Type 0 = λ k. AreDue x.policy x.rate x.seed (bare_arrivals k) g in
    ([], ap (λ (rs : List Record). arrivals_of x.place rs) one.0 ∙ sym h.arrivals ∙ sym (append-nil arrived), subst P (sym (append-nil arrived)) d)

pub first_of_read : (x : Setup) (told : List ℕ → Type 0) (v : View) (r : Reader) (arrived : List Captured) (top : ℕ) (g : List LabelledEvent)
    → ((bytes : List ℕ) → told bytes → HasRead x.place v r bytes arrived top) → StayDue x arrived g → AreFirst x told arrived g
first_of_read x told v r arrived top g read s = λ bytes t every last y l.
    let h = read bytes t in
    let f = answered_front v r bytes h.records every last h.stands y l in
    let more : List Captured = arrivals_from x.place (greatest 0 h.records) f.0 in
    let P : List Arrival → Type 0 = λ k. AreDue x.policy x.rate x.seed k g in (
      more,
      ap (λ (rs : List Record). arrivals_of x.place rs) f.1 ∙ arrivals_append x.place h.records f.0 ∙ ap (λ (xs : List Captured). xs ++ more) (sym h.arrivals),
      subst P (sym (bare_arrivals_append arrived more)) (s (bare_arrivals more)),
    )

-- when a sending that would end too late starts
pub record StartsThen (arrived : List Arrival) (g : List LabelledEvent) (start : ℕ) : Type 0 where
  pub after : latest (unlabelled g) ≤ start
  pub before : (a : Arrival) → slice_get arrived (offered (unlabelled g)) ≡ Some a → start < a.at

late_start : (x : Setup) (arrived : List Arrival) (g : List LabelledEvent) (e : LabelledEvent) → IsSound x → AreRising arrived → AreDue x.policy x.rate x.seed arrived g
    → IsLate e.what → IsOffer x.policy x.rate x.seed arrived g e ⊎ IsSending x.policy x.rate arrived g e → StartsThen arrived g (start_of e.what)
late_start x arrived g e s rise d l (inl y) =
    let P : Event → Type 0 = λ w. IsLate w in absurd (subst P (ap (λ (k : LabelledEvent). k.what) y.offer) l)
late_start x arrived g e s rise d l (inr y) =
    let same : start_of e.what ≡ y.sending.start = ap start_of y.event in
    let after = all_arrived x.policy x.rate x.seed arrived g s.positive s.lawful rise d y.sending.start y.least in
    record { after = omega (arith, same, after); before = λ a t. (let b = y.passed a t in omega (arith, same, b)) }

pub cut_starts : (x : Setup) (arrived : List Arrival) (g : List LabelledEvent) → IsSound x → AreRising arrived → (c : IsCutOff x.policy x.rate x.seed arrived g)
    → StartsThen arrived g (start_of c.next.what)
cut_starts x arrived g s rise c =
    late_start x arrived g c.next s rise c.begun.events c.late
    (due_laws x.policy x.rate x.seed arrived (c.next ∷ g) s.positive s.lawful rise (c.is_due, c.begun.events)).each.0

-- that of the last record is the only arrival after it
pub ahead_of : {place : List ℕ → Placed} {v : View} {r : Reader} {bytes : List ℕ} {arrived : List Captured} {top now start : ℕ} → HasReadOne place v r bytes arrived top now → r.fault ≡ None
    → top ≤ start → start < now → IsAhead place v r bytes arrived start
ahead_of h sound low high = record {
  before = h.before;
  last = h.last;
  arrivals = h.arrivals;
  stands = h.stands;
  sound = sound;
  passed = omega (arith, h.top_is, low);
  later = omega (arith, h.now_is, high);
}

some_not_none : (f : CaptureFault) → None ≡ Some f → ⊥
some_not_none f h = cc

-- a failed read is one of this call
pub read_since : {arr dep fat file : ℕ} {u v : View} {had : Option CaptureFault} (w : View) → OnlyPlayed arr dep fat u v → file ≡ arr → had ≡ None
    → ReadFault v w file ⊎ (had ≡ Some fault.Read) → ReadFault u w arr
read_since {arr = arr} {v = v} w k e none (inl x) = λ p at. rose_later _ _ _ (k.keeps.later.read p) (x p (ap v.part e ∙ k.keeps.part arr p at))
read_since w k e none (inr y) = let q : None ≡ Some fault.Read = sym none ∙ y in absurd (some_not_none fault.Read q)
