-- The decisions of a play, with their arrivals, are rows of a text of fates.
use Rattle.std.proofs.Common.{◌≡◌, ◌<◌, ◌≤◌, ◌-◌, ◌⊎◌, inl, inr, ℕ, zero, suc, max, List, [], ◌∷◌, ◌++◌, length, Some, ap, sym, subst, arith}
use Rattle.std.specs.Prelude.{slice_get}
use Rattle.std.proofs.lemmas.Option.{slice_get_within}
use Rattle.altq_model.specs.declared.Fate.{Fate}
use Rattle.altq_model.specs.declared.Fate.TheVariants as fate
use Rattle.altq_model.specs.declared.Placed.{Placed}
use Rattle.altq_model.specs.declared.Verdict.{Verdict}
use Rattle.altq_model.specs.declared.Verdict.TheVariants.{Keep, Mark, Drop}
use Rattle.altq_model.specs.Arrivals.{Captured, arrival, arrivals_from, arrivals_of, bare_arrival, bare_arrivals}
use Rattle.altq_model.specs.History.{Arrival, Event, LabelledEvent, Sending, unlabelled, decided, dropped_by, journal}
use Rattle.altq_model.specs.Laws.{EndsInTime, IsInTime, clock_end}
use Rattle.altq_model.specs.Play.{Policy, offer_of}
use Rattle.capture_model.specs.Capture.{Record, longest, most_records}
use Rattle.fate_check.specs.declared.reading.Row.{Row}
use Rattle.fate_check.specs.Given.{row_for, rows_for}
use Rattle.fate_check.specs.Text.{AreRows, FateFits, IsRow}
use Rattle.fate_laws.proofs.Departing.{rows_append}
use Rattle.play_laws.proofs.ArrivalLemmas.{bare_arrival_of_number}
use Rattle.play_laws.proofs.LinkLemmas.{end_later}
use Rattle.play_laws.specs.Events.{AreOfArrivals, EachFollows, IsOfArrival, IsOffer, IsSending}
use Rattle.play_laws.specs.Sizes.{HaveSizes}
use Rattle.play_text.specs.Names.{HasClass, NameList}
use Rattle.verify_laws.proofs.Stamps.{AreEarly, stamps_end}

-- a packet of a capture in a class with a name
pub record IsTold (names : NameList) (a : Arrival) : Type 0 where
  pub class : HasClass names a.class
  pub at : a.at < stamps_end
  pub len : a.len ≤ longest

-- a row of such a packet, which was sent before the clock ends or dropped
abbrev pub EndsEarly : Fate → Type 0
EndsEarly (fate.Dropped reason) = Unit {0}
EndsEarly (fate.Sent start end rule) = (start < clock_end) × (end < clock_end)

pub record IsSmall (names : NameList) (r : Row) : Type 0 where
  pub class : HasClass names r.class
  pub number : r.number ≤ most_records
  pub at : r.at < stamps_end
  pub len : r.len ≤ longest
  pub fate : EndsEarly r.fate

abbrev pub AreSmall : NameList → List Row → Type 0
AreSmall names [] = Unit {0}
AreSmall names (r ∷ rs) = IsSmall names r × AreSmall names rs

fate_fits : (f : Fate) → EndsEarly f → FateFits f
fate_fits (fate.Dropped reason) h = tt
fate_fits (fate.Sent start end rule) h = let early = h.0 in let late = h.1 in (omega (arith, early), omega (arith, late))

pub is_row : (names : NameList) (r : Row) → IsSmall names r → IsRow names r
is_row names r h =
    let number = h.number in
    let at = h.at in
    let len = h.len in
    record { class = h.class; number = omega (arith, number); at = omega (arith, at); len = omega (arith, len); fate = fate_fits r.fate h.fate }

pub small_are_rows : (names : NameList) (rows : List Row) → AreSmall names rows → AreRows names rows
small_are_rows names [] h = tt
small_are_rows names (r ∷ rows) h = (is_row names r h.0, small_are_rows names rows h.1)

arrives_told : (names : NameList) (place : List ℕ → Placed) (latest : ℕ) (records : List Record) (k : ℕ) (a : Arrival)
    → ((frame : List ℕ) → HasClass names (place frame).class) → latest < stamps_end → AreEarly records → HaveSizes records
    → slice_get (bare_arrivals (arrivals_from place latest records)) k ≡ Some a → IsTold names a
arrives_told names place latest [] k a named low early sized e = absurd cc
arrives_told names place latest (r ∷ rs) zero a named low early sized e =
    let first : Arrival = record { class = (place r.captured).class; len = max r.original (length r.captured); prec = (place r.captured).prec; at = max latest r.stamp } in
    let same : first ≡ a = cc in
    let P : Arrival → Type 0 = λ x. IsTold names x in
    let stamp = early.0 in
    let captured = sized.0.captured in
    let original = sized.0.original in
    subst P same (record { class = named r.captured; at = omega (arith, low, stamp); len = omega (arith, captured, original) })
arrives_told names place latest (r ∷ rs) (suc k) a named low early sized e =
    let stamp = early.0 in
    arrives_told names place (max latest r.stamp) rs k a named (omega (arith, low, stamp)) early.1 sized.1 e

-- the packets of a play: few, and each can be told
pub record AreTold (names : NameList) (arrived : List Arrival) : Type 0 where
  pub few : length arrived ≤ most_records
  pub each : (k : ℕ) (a : Arrival) → slice_get arrived k ≡ Some a → IsTold names a

pub arrivals_told : (names : NameList) (place : List ℕ → Placed) (records : List Record) → ((frame : List ℕ) → HasClass names (place frame).class)
    → AreEarly records → HaveSizes records → length (bare_arrivals (arrivals_of place records)) ≤ most_records → AreTold names (bare_arrivals (arrivals_of place records))
arrivals_told names place records named early sized few =
    record { few = few; each = λ k a e. arrives_told names place 0 records k a named (omega arith) early sized e }

-- a row of a packet
row_of : (names : NameList) (arrived : List Captured) (n : ℕ) (a : Arrival) (f : Fate) → AreTold names (bare_arrivals arrived) → 0 < n
    → slice_get (bare_arrivals arrived) (n - 1) ≡ Some a → EndsEarly f → IsSmall names (row_for arrived (n, f))
row_of names arrived n a f told from e early =
    let its = told.each (n - 1) a e in
    let same : bare_arrival (arrival arrived n) ≡ a = bare_arrival_of_number arrived n a e in
    let P : Arrival → Type 0 = λ x. HasClass names x.class in
    let at : (arrival arrived n).at ≡ a.at = ap (λ (x : Arrival). x.at) same in
    let len : (arrival arrived n).len ≡ a.len = ap (λ (x : Arrival). x.len) same in
    let place = slice_get_within (bare_arrivals arrived) (n - 1) a e in
    let few = told.few in
    let low = its.at in
    let short = its.len in
    record {
      class = subst P (sym same) its.class;
      number = omega (arith, place, few, from);
      at = omega (arith, low, at);
      len = omega (arith, short, len);
      fate = early;
    }

small_append : (names : NameList) (xs ys : List Row) → AreSmall names xs → AreSmall names ys → AreSmall names (xs ++ ys)
small_append names [] ys a b = b
small_append names (x ∷ xs) ys a b = (a.0, small_append names xs ys a.1 b)

offer_rows : (names : NameList) (arrived : List Captured) (n : ℕ) (a : Arrival) (v : Verdict) → AreTold names (bare_arrivals arrived) → 0 < n
    → slice_get (bare_arrivals arrived) (n - 1) ≡ Some a → AreSmall names (rows_for arrived (dropped_by v n))
offer_rows names arrived n a Keep told from e = tt
offer_rows names arrived n a Mark told from e = tt
offer_rows names arrived n a (Drop r) told from e = (row_of names arrived n a (fate.Dropped r) told from e tt, tt)

-- start and end of a sending that ends in time
sent_early : (start end : ℕ) → start ≤ end → end < clock_end → (start < clock_end) × (end < clock_end)
sent_early start end le lt = (omega (arith, le, lt), lt)

sending_rows : (p : Policy) (rate : ℕ) (names : NameList) (arrived : List Captured) (e : LabelledEvent) (g : List LabelledEvent) → 0 < rate
    → AreTold names (bare_arrivals arrived) → IsSending p rate (bare_arrivals arrived) g e → IsOfArrival (bare_arrivals arrived) e.label e.what → EndsInTime e.what
    → AreSmall names (rows_for arrived (decided e.label e.what))
sending_rows p rate names arrived e g some told x of early =
    let s : Sending = x.sending in
    let P : Event → Type 0 = λ z. IsOfArrival (bare_arrivals arrived) e.label z in
    let Q : Event → Type 0 = λ z. AreSmall names (rows_for arrived (decided e.label z)) in
    let T : Event → Type 0 = λ z. EndsInTime z in
    let its = subst P x.event of in
    let later = end_later rate (unlabelled g) s.start s.len some in
    let end = x.end in
    let fits = sent_early s.start s.end (omega (arith, later, end)) (subst T x.event early) in
    subst Q (sym x.event) (row_of names arrived e.label its.packet (fate.Sent s.start s.end s.rule) told its.from_one its.arrival fits, tt)

event_rows : (p : Policy) (rate seed : ℕ) (names : NameList) (arrived : List Captured) (e : LabelledEvent) (g : List LabelledEvent) → 0 < rate
    → AreTold names (bare_arrivals arrived) → IsOffer p rate seed (bare_arrivals arrived) g e ⊎ IsSending p rate (bare_arrivals arrived) g e
    → IsOfArrival (bare_arrivals arrived) e.label e.what → EndsInTime e.what → AreSmall names (rows_for arrived (decided e.label e.what))
event_rows p rate seed names arrived e g some told (inl x) of early =
    let o : LabelledEvent = offer_of p seed g x.packet in
    let P : LabelledEvent → Type 0 = λ z. IsOfArrival (bare_arrivals arrived) z.label z.what in
    let Q : LabelledEvent → Type 0 = λ z. AreSmall names (rows_for arrived (decided z.label z.what)) in
    let its = subst P x.offer of in
    subst Q (sym x.offer) (offer_rows names arrived o.label x.packet _ told its.0 its.1)
event_rows p rate seed names arrived e g some told (inr x) of early = sending_rows p rate names arrived e g some told x of early

pub are_small : (p : Policy) (rate seed : ℕ) (names : NameList) (arrived : List Captured) (g : List LabelledEvent) → 0 < rate → AreTold names (bare_arrivals arrived)
    → EachFollows p rate seed (bare_arrivals arrived) g → AreOfArrivals (bare_arrivals arrived) g → IsInTime g → AreSmall names (rows_for arrived (journal g))
are_small p rate seed names arrived [] some told each of early = tt
are_small p rate seed names arrived (e ∷ g) some told each of early =
    let P : List Row → Type 0 = λ rs. AreSmall names rs in
    subst P (sym (rows_append arrived (journal g) (decided e.label e.what)))
    (small_append names (rows_for arrived (journal g)) (rows_for arrived (decided e.label e.what))
    (are_small p rate seed names arrived g some told each.1 of.1 early.1) (event_rows p rate seed names arrived e g some told each.0 of.0 early.0))
