-- From what was read, decided and written to the play.
use Rattle.std.proofs.Common.{◌≡◌, ◌≤◌, ◌<◌, ◌++◌, ◌∙◌, ◌⊎◌, inl, inr, ℕ, max, List, [], ◌∷◌, length, refl, ap, sym, subst, arith, append_assoc, append-nil}
use Rattle.std.specs.Prelude.{IsSome, IsTrue}
use Rattle.altq_model.specs.declared.Placed.{Placed}
use Rattle.altq_model.specs.Arrivals.{Captured, bare_arrivals}
use Rattle.altq_model.specs.Departures.{departures}
use Rattle.altq_model.specs.History.{Arrival, LabelledEvent, unlabelled, offered, journal}
use Rattle.altq_model.specs.Lawful.{AreRising, RiseFrom, greatest}
use Rattle.altq_model.specs.Play.{AreDue}
use Rattle.play_text.specs.Texts.{fates, fates_header}
use Rattle.capture_model.specs.Capture.{Record, Step, End, Fault, Header, Reads, ReadsFrom, IsLast, place_after}
use Rattle.capture_model.specs.Header.{capture_header}
use Rattle.capture_model.specs.Written.{written}
use Rattle.pcap_files.specs.declared.fault.CaptureFault.{CaptureFault}
use Rattle.pcap_files.specs.declared.fault.CaptureFault.TheVariants as capture
use Rattle.pcap_files.specs.declared.reader.Reader.{Reader}
use Rattle.pcap_files.specs.Reading.{AreAllTaken, IsHeadFault, ReadsTo}
use Rattle.pcap_files.proofs.ReadingLaws.{answered_front, one_reading, taken}
use Rattle.play_base.specs.View.{View, ReadFault}
use Rattle.play_base.specs.Holds.{Apart, HoldsAt}
use Rattle.play_base.proofs.ViewLaws.{part_of_there, rose_before}
use Rattle.play_laws.specs.Events.{HasLaws}
use Rattle.play_laws.proofs.AllLaws.{due_laws}
use Rattle.play_laws.proofs.ArrivalLemmas.{arrivals_length, arrivals_rise, bare_arrivals_append, bare_arrivals_length}
use Rattle.play_laws.proofs.BusyLemmas.{is_busy}
use Rattle.play_laws.proofs.DepartureLemmas.{records_stay}
use Rattle.play_text.proofs.TextLemmas.{rows_stay}
use Rattle.play_core.specs.declared.totals.Totals.{Totals}
use Rattle.play_core.specs.Ended.{IsBegun, IsCutOff}
use Rattle.play_core.specs.Finished.{EndsWithOffer, IsStopped}
use Rattle.play_core.specs.Totals.{AreTotals}
use Rattle.play_text.specs.Names.{name_of}
use Rattle.play_loop.specs.declared.fault.Opened.{Opened}
use Rattle.play_loop.specs.Ending.{AreFirst, IsAhead, IsCut, IsPast, capture_fault}
use Rattle.play_loop.specs.Kept.{OnlyWrote}
use Rattle.gathered_writes.specs.Gathered.{HoldsFront}
use Rattle.play_loop.specs.declared.outputs.Outputs.{Outputs}
use Rattle.play_loop.specs.Outputs.{AreOpened, FrontsAre, TextsAre}
use Rattle.play_loop.specs.Played.{AreReady, Explains, Fronts, HasOffered, HeadsFirst, HasStopped, HoldFronts, HoldTexts, IsStanding, OfArrivals, Streams}
use Rattle.play_loop.specs.Setup.{IsSound, Setup, arrivals_in, departures_of, fates_of}
use Rattle.play_loop.specs.Underway.{HasGiven}
use Rattle.gathered_writes.proofs.GatheredLaws.{front_same, text_whole}
use Rattle.play_loop.proofs.OutputLemmas.{texts_same}

-- before any event only fronts of the heads stand
pub stopped_heads : {x : Setup} {v : View} {o : Opened} {records : List Record} → FrontsAre v o.departures o.fates capture_header fates_header → HasStopped x v o records
stopped_heads h = record {
  history = [];
  begun = record { events = tt; in_time = tt };
  texts = record {
    departures = front_same _ _ _ _ (sym (append-nil capture_header)) h.departures;
    fates = front_same _ _ _ _ (sym (append-nil fates_header)) h.fates;
  };
}

-- before anything is written
pub stopped_empty : (x : Setup) (v : View) (o : Opened) (records : List Record) → AreReady v o → HasStopped x v o records
stopped_empty x v o records h = record {
  history = [];
  begun = record { events = tt; in_time = tt };
  texts = record {
    departures = record { written = []; rest = _; holds = h.empty.departures; split = refl };
    fates = record { written = []; rest = _; holds = h.empty.fates; split = refl };
  };
}

pub no_heads : (v : View) (o : Opened) → AreReady v o → HeadsFirst v v o
no_heads v o h t = inr (inl (h.empty.fates.bytes t), refl)

rise_front : (t : ℕ) (xs ys : List Arrival) → RiseFrom t (xs ++ ys) → RiseFrom t xs
rise_front t [] ys r = tt
rise_front t (x ∷ xs) ys r = (r.0, rise_front x.at xs ys r.1)

-- the first arrivals of a capture: they rise, and their texts are those of all
module _ (x : Setup) (records : List Record) (arrived more : List Captured) (g : List LabelledEvent) (m : IsSound x) (e : arrivals_in x records ≡ arrived ++ more)
    (d : AreDue x.policy x.rate x.seed (bare_arrivals arrived) g) where
  first_laws : HasLaws x.policy x.rate x.seed (bare_arrivals arrived) g
  first_laws =
      let P : List Arrival → Type 0 = λ cs. AreRising cs in
      due_laws x.policy x.rate x.seed (bare_arrivals arrived) g m.positive m.lawful
      (rise_front 0 (bare_arrivals arrived) (bare_arrivals more)
      (subst P (ap (λ (l : List Captured). bare_arrivals l) e ∙ bare_arrivals_append arrived more) (arrivals_rise x.place records))) d

  same_departures : departures_of x arrived g ≡ departures_of x (arrivals_in x records) g
  same_departures = ap written (sym (records_stay x.dress arrived more g first_laws.of_arrivals)) ∙ ap (λ (l : List Captured). departures x.dress l g) (sym e)

  same_fates : fates_of x arrived g ≡ fates_of x (arrivals_in x records) g
  same_fates = ap (λ (t : List ℕ). fates_header ++ t) (sym (rows_stay (name_of x.names) arrived more g first_laws.of_arrivals))
      ∙ ap (λ (l : List Captured). fates (name_of x.names) l (journal g)) (sym e)

  pub hold_all : {v : View} {o : Opened} → HoldTexts v o x arrived g → HoldTexts v o x (arrivals_in x records) g
  hold_all {v} {o} h =
      let P : ℕ → List ℕ → Type 0 = λ f t. HoldsAt v f t in
      record { departures = subst (P o.departures) same_departures h.departures; fates = subst (P o.fates) same_fates h.fates }

  front_all : {v : View} {o : Opened} → FrontsAre v o.departures o.fates (departures_of x arrived g) (fates_of x arrived g) → HoldFronts v o x (arrivals_in x records) g
  front_all h = record { departures = front_same _ _ _ _ same_departures h.departures; fates = front_same _ _ _ _ same_fates h.fates }

-- fronts of the texts of events that are the first of all
pub fronts_first : (x : Setup) (told : List ℕ → Type 0) (u v : View) (o : Opened) (arrived : List Captured) (g : List LabelledEvent) → IsSound x → OfArrivals u o told → AreFirst x told arrived g
    → IsBegun x.policy x.rate x.seed (bare_arrivals arrived) g → FrontsAre v o.departures o.fates (departures_of x arrived g) (fates_of x arrived g) → Fronts x u v o
fronts_first x told u v o arrived g m tells first b h = λ t rest l records last reads is_last.
    let f = first (o.first.now ++ rest) (tells t rest l) records last reads is_last in
    let P : List Captured → Type 0 = λ l. AreDue x.policy x.rate x.seed (bare_arrivals l) g in
    record { history = g; begun = record { events = subst P (sym f.1) f.2; in_time = b.in_time }; texts = front_all x records arrived f.0 g m f.1 b.events h }

-- the events up to the offer of the last complete record
pub offered_all : {x : Setup} {stood : List LabelledEvent → Type 0} {v : View} {o : Opened} {records : List Record} (arrived : List Captured) (g : List LabelledEvent) → arrived ≡ arrivals_in x records
    → IsBegun x.policy x.rate x.seed (bare_arrivals arrived) g → offered (unlabelled g) ≡ length arrived → EndsWithOffer g → HoldTexts v o x arrived g → IsStanding stood g
    → HasOffered x stood v o records
offered_all {x = x} {v = v} {o = o} {records = records} arrived g e b n l h s =
    let B : List Captured → Type 0 = λ a. IsBegun x.policy x.rate x.seed (bare_arrivals a) g in
    let P : List Captured → Type 0 = λ a. HoldTexts v o x a g in
    record {
      history = g;
      begun = subst B e b;
      all = n ∙ ap (λ (a : List Captured). length a) e ∙ sym (bare_arrivals_length (arrivals_in x records)) ∙ arrivals_length x.place records;
      last = l;
      texts = subst P e h;
      stands = s;
    }

-- when a fault of the capture comes
abbrev pub Offered : Setup → (List LabelledEvent → Type 0) → View → View → Opened → CaptureFault → Type 0
Offered x stood old new o f = OfArrivals old o (λ bytes. (records : List Record) × IsCut f new o.arrivals bytes records × HasOffered x stood new o records)

pub explains_capture : (x : Setup) (stood : List LabelledEvent → Type 0) (u w : View) (o : Opened) (f : CaptureFault) → Offered x stood u w o f
    → (f ≡ capture.Read → ReadFault u w o.arrivals) → Explains x stood u w o (capture_fault f)
explains_capture x stood u w o (capture.Damage d) h r = h
explains_capture x stood u w o capture.Limit h r = h
explains_capture x stood u w o capture.Read h r = (r refl, h)
explains_capture x stood u w o capture.NoMemory h r = tt

-- a file with a bad head has no complete record
pub head_fault : (f : CaptureFault) (v : View) (file : ℕ) (bytes : List ℕ) → IsHeadFault f bytes → (f ≡ capture.Read → AreAllTaken v file bytes [])
    → IsCut f v file bytes []
head_fault (capture.Damage d) v file bytes h taken = let P : Header → Type 0 = λ k. ReadsFrom k bytes [] (Fault d) in subst P (sym h) (refl, refl)
head_fault capture.Limit v file bytes h taken = absurd h
head_fault capture.Read v file bytes h taken = taken refl
head_fault capture.NoMemory v file bytes h taken = tt

-- why a reader answered a fault
pub cut_by : (f : CaptureFault) (v : View) (file arr : ℕ) (bytes : List ℕ) (rs : List Record) → arr ≡ file → ReadsTo f bytes rs
    → (f ≡ capture.Read → AreAllTaken v file bytes rs) → IsCut f v arr bytes rs
cut_by (capture.Damage d) v file arr bytes rs e h taken = h
cut_by capture.Limit v file arr bytes rs e h taken = h
cut_by capture.Read v file arr bytes rs e h taken = subst (λ (n : ℕ). AreAllTaken v n bytes rs) (sym e) (taken refl)
cut_by capture.NoMemory v file arr bytes rs e h taken = tt

-- it stays why, where the file has the same left
taken_later : (v w : View) (file arr : ℕ) (bytes : List ℕ) (rs : List Record) → w.left arr ≡ v.left arr → file ≡ arr → AreAllTaken v file bytes rs → AreAllTaken w arr bytes rs
taken_later v w file arr bytes rs left same x = record {
  taken = x.taken;
  rest = x.rest;
  split = x.split;
  left = left ∙ ap v.left (sym same) ∙ x.left;
  last = x.last;
  reads = x.reads;
  ended = x.ended;
}

pub cut_later : (f : CaptureFault) (v w : View) (file arr : ℕ) (bytes : List ℕ) (rs : List Record) → w.left arr ≡ v.left arr → file ≡ arr → IsCut f v file bytes rs
    → IsCut f w arr bytes rs
cut_later (capture.Damage d) v w file arr bytes rs left same x = x
cut_later capture.Limit v w file arr bytes rs left same x = x
cut_later capture.Read v w file arr bytes rs left same x = taken_later v w file arr bytes rs left same x
cut_later capture.NoMemory v w file arr bytes rs left same x = tt

-- what writes to files of other names leave
pub left_kept : (u v : View) (arr dep fat : ℕ) → IsSome (u.part arr) → Apart u arr dep → Apart u arr fat → IsTrue u.tells → OnlyWrote dep fat u v → v.left arr ≡ u.left arr
left_kept u v arr dep fat there d f t k = let p = part_of_there (u.part arr) there in k.keeps.left arr p.0 p.1 (d t, f t)

pub ready_left : {u v : View} {o : Opened} → AreReady u o → IsTrue u.tells → OnlyWrote o.departures o.fates u v → v.left o.arrivals ≡ u.left o.arrivals
ready_left {u} {v} {o} r t k = left_kept u v o.arrivals o.departures o.fates r.arrivals r.from_departures r.from_fates t k

pub read_before : {dep fat : ℕ} (file : ℕ) (u : View) {v w : View} → OnlyWrote dep fat v w → ReadFault u v file → ReadFault u w file
read_before file u k x = λ p at. rose_before _ _ _ (x p at) (k.keeps.later.read p)

-- greatest stamps
grows : (t : ℕ) (rs : List Record) → t ≤ greatest t rs
grows t [] = omega arith
grows t (r ∷ rs) = omega (arith, grows (max t r.stamp) rs)

pub greatest_append : (t : ℕ) (xs ys : List Record) → greatest t (xs ++ ys) ≡ greatest (greatest t xs) ys
greatest_append t [] ys = refl
greatest_append t (x ∷ xs) ys = greatest_append (max t x.stamp) xs ys

pub front_greatest : (t : ℕ) (xs ys : List Record) → greatest t xs ≤ greatest t (xs ++ ys)
front_greatest t xs ys = omega (arith, greatest_append t xs ys, grows (greatest t xs) ys)

same_head : (a b : Record) (xs ys : List Record) → a ∷ xs ≡ b ∷ ys → (a ≡ b) × (xs ≡ ys)
same_head a b xs ys e = (cc, cc)

-- the first record that arrives after a moment is one
pub first_later : (s t : ℕ) (xs ys : List Record) (x y : Record) (more other : List Record) → xs ++ x ∷ more ≡ ys ++ y ∷ other
    → greatest t xs ≤ s → s < greatest t (xs ++ x ∷ []) → greatest t ys ≤ s → s < greatest t (ys ++ y ∷ []) → xs ++ x ∷ [] ≡ ys ++ y ∷ []
first_later s t [] [] x y more other e a b c d = ap (λ (r : Record). r ∷ []) (same_head x y more other e).0
first_later s t [] (z ∷ ys) x y more other e a b c d =
    let h = same_head x z more (ys ++ y ∷ other) e in
    absurd (omega (arith, ap (λ (r : Record). r.stamp) h.0, b, c, grows (max t z.stamp) ys))
first_later s t (z ∷ xs) [] x y more other e a b c d =
    let h = same_head z y (xs ++ x ∷ more) other e in
    absurd (omega (arith, ap (λ (r : Record). r.stamp) h.0, d, a, grows (max t z.stamp) xs))
first_later s t (w ∷ xs) (z ∷ ys) x y more other e a b c d =
    let h = same_head w z (xs ++ x ∷ more) (ys ++ y ∷ other) e in
    let C : ℕ → Type 0 = λ n. greatest n ys ≤ s in
    let D : ℕ → Type 0 = λ n. s < greatest n (ys ++ y ∷ []) in
    let same : max t z.stamp ≡ max t w.stamp = ap (λ (r : Record). max t r.stamp) (sym h.0) in
    ap (λ (r : Record). r ∷ (xs ++ x ∷ [])) h.0
    ∙ ap (λ (rs : List Record). z ∷ rs) (first_later s (max t w.stamp) xs ys x y more other h.1 a b (subst C same c) (subst D same d))

-- no record arrives after the moment
pub none_later : (v : View) (file : ℕ) (bytes : List ℕ) (records : List Record) (moment : ℕ) → greatest 0 records ≤ moment → Streams v file bytes records moment
none_later v file bytes records moment l = λ before r after e low high.
    absurd (omega (
      arith,
      l,
      high,
      front_greatest 0 (before ++ r ∷ []) after,
      ap (λ (rs : List Record). greatest 0 rs) (e ∙ sym (append_assoc before (r ∷ []) after)),
    ))

-- the bytes that were taken end soon after the last record that was read
took_ahead : (place : List ℕ → Placed) (v w : View) (r : Reader) (file : ℕ) (bytes : List ℕ) (rest : List Record) (arrived : List Captured) (moment : ℕ)
    → (h : IsAhead place v r bytes arrived moment) → w.left file ≡ v.left r.file → Streams w file bytes ((h.before ++ h.last ∷ []) ++ rest) moment
took_ahead place v w r file bytes rest arrived moment h left = λ before s after q low high.
    let y = h.stands.pending h.sound in
    let same = first_later moment 0 h.before before h.last s rest after (sym (append_assoc h.before (h.last ∷ []) rest) ∙ q) h.passed h.later low high in
    let size = taken v r bytes y.rest.0 (h.before ++ h.last ∷ []) h.stands h.sound y.rest.1 in
    record { rest = y.rest.0; left = left ∙ y.rest.1; within = omega (arith, size, ap (λ (rs : List Record). place_after 24 rs) same) }

-- a play that was cut off, over all arrivals
abbrev pub cut_all : (x : Setup) (records : List Record) (arrived more : List Captured) (g : List LabelledEvent) (t : Totals) → IsSound x → (c : IsCutOff x.policy x.rate x.seed (bare_arrivals arrived) g)
    → arrivals_in x records ≡ arrived ++ more → AreDue x.policy x.rate x.seed (bare_arrivals (arrived ++ more)) (c.next ∷ g) → AreTotals x.rate g t
    → IsStopped x.policy x.rate x.seed (arrivals_in x records) g t
cut_all x records arrived more g t m c e d total =
    let P : List Captured → Type 0 = λ l. AreDue x.policy x.rate x.seed (bare_arrivals l) (c.next ∷ g) in
    let due = subst P (sym e) d in
    let rise = arrivals_rise x.place records in
    record {
      cut = record { begun = record { events = due.1; in_time = c.begun.in_time }; next = c.next; is_due = due.0; late = c.late };
      laws = due_laws x.policy x.rate x.seed (bare_arrivals (arrivals_in x records)) g m.positive m.lawful rise due.1;
      busy = is_busy x.policy x.rate x.seed (bare_arrivals (arrivals_in x records)) g m.positive m.lawful m.steady rise due.1;
      totals = total;
    }

-- where it was, and how far was read
pub record IsFound (bytes : List ℕ) (records : List Record) (last : Step) (w : View) (file start : ℕ) : Type 0 where
  pub before : (last ≡ End) ⊎ (start < greatest 0 records)
  pub streams : Streams w file bytes records start

pub found : (place : List ℕ → Placed) (v w : View) (r : Reader) (file : ℕ) (bytes : List ℕ) (records : List Record) (last : Step) (arrived : List Captured) (start : ℕ)
    → Reads bytes records last → IsLast last → w.left file ≡ v.left r.file → IsPast place bytes arrived start ⊎ IsAhead place v r bytes arrived start
    → IsFound bytes records last w file start
found place v w r file bytes records last arrived start h l left (inl y) =
    let one = one_reading bytes records y.all.records last End h l y.all.reads tt in
    record {
      before = inl one.1;
      streams = none_later w file bytes records start (omega (arith, ap (λ (rs : List Record). greatest 0 rs) one.0, y.passed));
    }
found place v w r file bytes records last arrived start h l left (inr y) =
    let f = answered_front v r bytes (y.before ++ y.last ∷ []) records last y.stands h l in
    let S : List Record → Type 0 = λ rs. Streams w file bytes rs start in
    record {
      before = inr (omega (arith, y.later, front_greatest 0 (y.before ++ y.last ∷ []) f.0, ap (λ (rs : List Record). greatest 0 rs) f.1));
      streams = subst S (sym f.1) (took_ahead place v w r file bytes f.0 arrived start y left);
    }

-- whole texts are fronts
pub whole_front : {v : View} {file : ℕ} {text : List ℕ} → HoldsAt v file text → HoldsFront v file text
whole_front {text = text} h = record { written = text; rest = []; holds = h; split = append-nil text }

pub held_by : {v : View} {file other : ℕ} {text : List ℕ} → other ≡ file → HoldsAt v other text → HoldsAt v file text
held_by e h = rw (← e) h

-- the heads are the texts of no event
pub head_holds : {x : Setup} {v : View} {o : Opened} → TextsAre v o.departures o.fates [] [] capture_header fates_header → HoldTexts v o x [] []
head_holds {v = v} {o = o} h =
    let P : ℕ → List ℕ → Type 0 = λ f t. HoldsAt v f t in
    record {
      departures = subst (P o.departures) (sym (append-nil capture_header)) (text_whole v o.departures capture_header h.departures);
      fates = subst (P o.fates) (sym (append-nil fates_header)) (text_whole v o.fates fates_header h.fates);
    }

pub head_texts : (x : Setup) {v : View} {o : Opened} {p : Outputs} → AreOpened p o → p.records.items ≡ [] → p.rows ≡ []
    → TextsAre v o.departures o.fates [] [] capture_header fates_header → HasGiven x v p [] []
head_texts x a r s h = rw (r, s, a.departures, a.fates) (texts_same h (sym (append-nil capture_header)) (sym (append-nil fates_header)))
