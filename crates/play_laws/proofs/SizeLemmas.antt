-- The departures of a play are of the sizes that a capture may have.
use Rattle.std.proofs.Common.{◌≡◌, ◌≤◌, ◌<◌, ◌+◌, ◌-◌, ◌∙◌, ℕ, zero, suc, max, Bool, true, false, cond, List, [], ◌∷◌, ◌++◌, length, length-append, Some, refl, ap, sym, subst, arith}
use Rattle.std.specs.declared.option.Option.{Option}
use Rattle.std.specs.Prelude.{get_or, ◌==◌, ◌&&◌, ◌||◌, nat_lt, nat_le, if◌then◌else◌, slice_get, unwrap_or, All}
use Rattle.std.proofs.lemmas.Bool.{eqb-true, eq-eqb, eqb-false, ltb-false}
use Rattle.std.proofs.lemmas.Grind.{common_steps}
use Rattle.capture_model.specs.Capture.{Form, Record, Step, Next, Header, Formed, Unformed, Stand, Reads, ReadsFrom, header, step, word, longest, most_records, most_bytes}
use Rattle.capture_model.proofs.OutcomeLemmas.{is_next, told_at}
use Rattle.capture_model.specs.Header.{capture_header, record_header}
use Rattle.capture_model.specs.Written.{record_text, record_texts, written, FitsCapture, AreWithin}
use Rattle.altq_model.specs.declared.Placed.{Placed}
use Rattle.altq_model.specs.Arrivals.{Captured, arrival, arrivals_from, arrivals_of, bare_arrivals, no_arrival}
use Rattle.altq_model.specs.Departures.{Dressing, KeepsLength, departed_by, departed}
use Rattle.altq_model.specs.History.{Arrival, Event, Offered, Sent, LabelledEvent, unlabelled, offered, was_marked, decided, journal}
use Rattle.altq_model.specs.Idle.{sent, sent_of}
use Rattle.altq_model.specs.Laws.{occurs, IsInTime, EndsInTime}
use Rattle.altq_model.specs.Play.{Policy}
use Rattle.play_laws.specs.Events.{HasLaws, IsOfArrival, AreOfArrivals}
use Rattle.play_laws.specs.Sizes.{HasSizes, HaveSizes, AreSized}
use Rattle.play_laws.proofs.ArrivalLemmas.{bare_arrivals_length}
use Rattle.play_laws.proofs.IdleLemmas.{split}

-- a record that stands has its sizes, its end is within the limit, and it is not one too many
record IsSized (r : Record) (count at : ℕ) : Type 0 where
  sizes : HasSizes r
  room : at + 16 + length r.captured ≤ most_bytes
  few : count ≡ most_records → ⊥

or_false : (a b : Bool) → (a || b) ≡ false → (a ≡ false) × (b ≡ false)
or_false true b h = absurd (cc)
or_false false b h = (refl, h)

not_both_none : (c o : ℕ) → ((c == 0) && (o == 0)) ≡ false → 0 < max o c
not_both_none zero zero h = absurd (cc)
not_both_none zero (suc o) h = omega arith
not_both_none (suc c) o h = omega arith

less_than : (n m : ℕ) → n ≤ m → (n ≡ m → ⊥) → n + 1 ≤ m
less_than n m l d = grind (arith, l, d)

step_sized : (form : Form) (bytes : List ℕ) (count at : ℕ) (x : Record) → step form bytes count at ≡ Next x (at + 16 + length x.captured) → IsSized x count at
step_sized form bytes count at x h =
    let captured : ℕ = word form.big bytes (at + 8) in
    let original : ℕ = word form.big bytes (at + 12) in
    let is = is_next form bytes count at x (at + 16 + length x.captured) h in
    let told : told_at form bytes at ≡ Next x (at + 16 + length x.captured) = is.told in
    let place : at + 16 + captured ≡ at + 16 + length x.captured = cc in
    let known : original ≡ x.original = cc in
    let size : length x.captured ≡ captured = omega (arith, place) in
    let long = or_false (nat_lt longest captured) (nat_lt longest original) is.within in
    record {
      sizes = record {
        captured = omega (arith, size, ltb-false longest captured long.0);
        original = omega (arith, known, ltb-false longest original long.1);
        some = omega (arith, size, known, not_both_none captured original is.some);
      };
      room = omega (arith, size, ltb-false most_bytes (at + 16 + captured) is.room);
      few = eqb-false count most_records is.few;
    }

stand_sized : (form : Form) (bytes : List ℕ) (count at : ℕ) (records : List Record) → Stand form bytes count at records → HaveSizes records
stand_sized form bytes count at [] s = tt
stand_sized form bytes count at (r ∷ rs) s = ((step_sized form bytes count at r s.0).sizes, stand_sized form bytes (count + 1) (at + 16 + length r.captured) rs s.1)

stand_few : (form : Form) (bytes : List ℕ) (count at : ℕ) (records : List Record) → count ≤ most_records → Stand form bytes count at records → count + length records ≤ most_records
stand_few form bytes count at [] l s = omega (arith, l)
stand_few form bytes count at (r ∷ rs) l s =
    let x = (step_sized form bytes count at r s.0).few in
    omega (arith, stand_few form bytes (count + 1) (at + 16 + length r.captured) rs (less_than count most_records l x) s.1)

-- the bytes of records with their heads
abbrev pub weight : List Record → ℕ
weight [] = 0
weight (r ∷ rs) = 16 + length r.captured + weight rs

pub texts_length : (rs : List Record) → length (record_texts rs) ≡ weight rs
texts_length [] = refl
texts_length (r ∷ rs) =
    let hd = record_header r.stamp (length r.captured) r.original in
    omega (arith, length-append (record_text r) (record_texts rs), length-append hd r.captured, texts_length rs)

written_length : (rs : List Record) → length (written rs) ≡ 24 + weight rs
written_length rs = omega (arith, length-append capture_header (record_texts rs), texts_length rs)

stand_room : (form : Form) (bytes : List ℕ) (count at : ℕ) (records : List Record) → at ≤ most_bytes → Stand form bytes count at records → at + weight records ≤ most_bytes
stand_room form bytes count at [] l s = omega (arith, l)
stand_room form bytes count at (r ∷ rs) l s =
    let x = (step_sized form bytes count at r s.0).room in
    omega (arith, stand_room form bytes (count + 1) (at + 16 + length r.captured) rs x s.1)

reads_case : (h : Header) (bytes : List ℕ) (records : List Record) (last : Step) → ReadsFrom h bytes records last → AreSized records
reads_case (Formed form) bytes records last x = record {
  each = stand_sized form bytes 0 24 records x.stand;
  count = omega (arith, stand_few form bytes 0 24 records (omega arith) x.stand);
  size = omega (arith, written_length records, stand_room form bytes 0 24 records (omega arith) x.stand);
}
reads_case (Unformed fault) bytes records last x =
    let P : List Record → Type 0 = λ rs. AreSized rs in
    subst P (sym x.0) (record { each = tt; count = omega arith; size = omega (arith, written_length []) })

-- what a capture holds has its sizes
pub reads_sized : (bytes : List ℕ) (records : List Record) (last : Step) → Reads bytes records last → AreSized records
reads_sized bytes records last x = reads_case (header bytes) bytes records last x

-- the arrivals of records
record IsFit (a : Captured) : Type 0 where
  captured : length a.bytes ≤ longest
  original : a.len ≤ longest
  some : 0 < a.len

abbrev AreFit : List Captured → Type 0
AreFit [] = Unit {0}
AreFit (a ∷ rest) = IsFit a × AreFit rest

fit_from : (mark : List ℕ → Placed) (t : ℕ) (records : List Record) → HaveSizes records → AreFit (arrivals_from mark t records)
fit_from mark t [] h = tt
fit_from mark t (r ∷ rs) h =
    (record { captured = h.0.captured; original = omega (arith, h.0.captured, h.0.original); some = omega (arith, h.0.some) }, fit_from mark (max t r.stamp) rs h.1)

abbrev load : List Captured → ℕ
load [] = 0
load (a ∷ rest) = 16 + length a.bytes + load rest

load_from : (mark : List ℕ → Placed) (t : ℕ) (records : List Record) → load (arrivals_from mark t records) ≡ weight records
load_from mark t [] = refl
load_from mark t (r ∷ rs) = omega (arith, load_from mark (max t r.stamp) rs)

count_from : (mark : List ℕ → Placed) (t : ℕ) (records : List Record) → length (arrivals_from mark t records) ≡ length records
count_from mark t [] = refl
count_from mark t (r ∷ rs) = omega (arith, count_from mark (max t r.stamp) rs)

fit_place : (xs : List Captured) (k : ℕ) (c : Arrival) → AreFit xs → slice_get (bare_arrivals xs) k ≡ Some c → IsFit (unwrap_or (slice_get xs k) no_arrival)
fit_place [] k c h e = absurd (cc)
fit_place (x ∷ xs) zero c h e = h.0
fit_place (x ∷ xs) (suc k) c h e = fit_place xs k c h.1 e

-- each record of the departures is within the limits
abbrev EachWithin : List Record → Type 0
EachWithin [] = Unit {0}
EachWithin (r ∷ rs) = FitsCapture r × EachWithin rs

each_push : (rs ds : List Record) → EachWithin rs → EachWithin ds → EachWithin (rs ++ ds)
each_push [] ds x y = y
each_push (r ∷ rs) ds x y = (x.0, each_push rs ds x.1 y)

each_at : (rs : List Record) → EachWithin rs → All FitsCapture rs
each_at [] x = λ k d l. absurd (omega arith)
each_at (r ∷ rs) x = λ k d l. at_place r rs x k d l
  where
    at_place : (r : Record) (rs : List Record) → EachWithin (r ∷ rs) → (k : ℕ) (d : Record) → k < length (r ∷ rs) → FitsCapture (get_or (r ∷ rs) k d)
    at_place r rs x zero d l = x.0
    at_place r [] x (suc k) d l = absurd (omega arith)
    at_place r (s ∷ rs) x (suc k) d l = at_place s rs x.1 k d (omega (arith, l))

departure_within : (dress : Dressing) (arrived : List Captured) (n : ℕ) (e : Event) (g : List LabelledEvent) → KeepsLength dress → AreFit arrived → IsOfArrival (bare_arrivals arrived) n e
    → EndsInTime e → EachWithin (departed_by dress arrived n e g)
departure_within dress arrived n (Offered a w v) g k f x t = tt
departure_within dress arrived n (Sent s) g k f x t =
    let a : Captured = arrival arrived n in
    let y = fit_place arrived (n - 1) x.packet f x.arrival in
    let same = k a.class (was_marked n g) a.bytes in
    (record { stamp = t; captured = omega (arith, same, y.captured); original = y.original; some = omega (arith, y.some) }, tt)

each_within : (dress : Dressing) (arrived : List Captured) (g : List LabelledEvent) → KeepsLength dress → AreFit arrived → AreOfArrivals (bare_arrivals arrived) g → IsInTime g
    → EachWithin (departed dress arrived g)
each_within dress arrived [] k f x t = tt
each_within dress arrived (e ∷ g) k f x t =
    each_push (departed dress arrived g) (departed_by dress arrived e.label e.what g) (each_within dress arrived g k f x.1 t.1)
    (departure_within dress arrived e.label e.what g k f x.0 t.0)

-- the sum over distinct numbers
abbrev weigh : (ℕ → ℕ) → List ℕ → ℕ
weigh w [] = 0
weigh w (n ∷ ns) = w n + weigh w ns

abbrev upto : (ℕ → ℕ) → (k m : ℕ) → ℕ
upto w k zero = 0
upto w k (suc m) = w k + upto w (suc k) m

abbrev within : (k m n : ℕ) → ℕ
within k m n = if nat_le k n && nat_lt n (k + m) then 1 else 0

abbrev without : (k : ℕ) → List ℕ → List ℕ
without k [] = []
without k (n ∷ ns) = if n == k then without k ns else n ∷ without k ns

gone_case : (k n : ℕ) (ns : List ℕ) (b : Bool) → (n == k) ≡ b → occurs k (without k ns) ≡ 0 → occurs k (cond b (without k ns) (n ∷ without k ns)) ≡ 0
gone_case k n ns true e h = h
gone_case k n ns false e h = let q : occurs k (n ∷ without k ns) ≡ occurs k (without k ns) = rw e (omega arith) in q ∙ h

gone : (k : ℕ) (ns : List ℕ) → occurs k (without k ns) ≡ 0
gone k [] = refl
gone k (n ∷ ns) = gone_case k n ns (n == k) refl (gone k ns)

fewer_case : (k i n : ℕ) (ns : List ℕ) (b : Bool) → occurs i (without k ns) ≤ occurs i ns → occurs i (cond b (without k ns) (n ∷ without k ns)) ≤ occurs i (n ∷ ns)
fewer_case k i n ns true h = omega (arith, h)
fewer_case k i n ns false h = omega (arith, h)

fewer : (k i : ℕ) (ns : List ℕ) → occurs i (without k ns) ≤ occurs i ns
fewer k i [] = omega arith
fewer k i (n ∷ ns) = fewer_case k i n ns (n == k) (fewer k i ns)

none_case : (w : ℕ → ℕ) (k n : ℕ) (ns : List ℕ) (b : Bool) → (n == k) ≡ b → occurs k (n ∷ ns) ≤ 0 → (occurs k ns ≤ 0 → weigh w (without k ns) ≡ weigh w ns)
    → weigh w (cond b (without k ns) (n ∷ without k ns)) ≡ weigh w (n ∷ ns)
none_case w k n ns true e l f = let q : occurs k (n ∷ ns) ≡ 1 + occurs k ns = rw e refl in absurd (omega (arith, l, q))
none_case w k n ns false e l f = let q : occurs k (n ∷ ns) ≡ 0 + occurs k ns = rw e refl in omega (arith, f (omega (arith, l, q)))

none : (w : ℕ → ℕ) (k : ℕ) (ns : List ℕ) → occurs k ns ≤ 0 → weigh w (without k ns) ≡ weigh w ns
none w k [] l = refl
none w k (n ∷ ns) l = none_case w k n ns (n == k) refl l (none w k ns)

once_case : (w : ℕ → ℕ) (k n : ℕ) (ns : List ℕ) (b : Bool) → (n == k) ≡ b → occurs k (n ∷ ns) ≤ 1 → (occurs k ns ≤ 1 → weigh w ns ≤ weigh w (without k ns) + w k)
    → weigh w (n ∷ ns) ≤ weigh w (cond b (without k ns) (n ∷ without k ns)) + w k
once_case w k n ns true e l f =
    let q : occurs k (n ∷ ns) ≡ 1 + occurs k ns = rw e refl in
    let z = none w k ns (omega (arith, l, q)) in
    omega (arith, z, ap w (eqb-true n k e))
once_case w k n ns false e l f = let q : occurs k (n ∷ ns) ≡ 0 + occurs k ns = rw e refl in omega (arith, f (omega (arith, l, q)))

once : (w : ℕ → ℕ) (k : ℕ) (ns : List ℕ) → occurs k ns ≤ 1 → weigh w ns ≤ weigh w (without k ns) + w k
once w k [] l = omega arith
once w k (n ∷ ns) l = once_case w k n ns (n == k) refl l (once w k ns)

first_occurs : (n : ℕ) (ns : List ℕ) → 0 < occurs n (n ∷ ns)
first_occurs n ns = let t : (n == n) ≡ true = eq-eqb n n refl in let q : occurs n (n ∷ ns) ≡ 1 + occurs n ns = rw t refl in omega (arith, q)

within_none : (k n : ℕ) → within k 0 n ≤ 0
within_none k n = grind (arith, common_steps)

within_most : (k m n : ℕ) → within k m n ≤ 1
within_most k m n = grind (arith, common_steps)

within_next : (k m n : ℕ) → (n ≡ k → ⊥) → within k (suc m) n ≤ within (suc k) m n
within_next k m n d = grind (arith, common_steps, d)

rest_within : (k m n o p : ℕ) (b : Bool) → (n == k) ≡ b → p ≤ o → o ≤ within k (suc m) n → (n ≡ k → p ≡ 0) → p ≤ within (suc k) m n
rest_within k m n o p true e l h z = omega (arith, z (eqb-true n k e))
rest_within k m n o p false e l h z = omega (arith, l, h, within_next k m n (eqb-false n k e))

gone_at : (k n : ℕ) (ns : List ℕ) → n ≡ k → occurs n (without k ns) ≡ 0
gone_at k n ns e = ap (λ (i : ℕ). occurs i (without k ns)) e ∙ gone k ns

distinct : (w : ℕ → ℕ) (k m : ℕ) (ns : List ℕ) → ((n : ℕ) → occurs n ns ≤ within k m n) → weigh w ns ≤ upto w k m
distinct w k zero [] f = omega arith
distinct w k zero (n ∷ ns) f = absurd (omega (arith, f n, first_occurs n ns, within_none k n))
distinct w k (suc m) ns f =
    let rest = distinct w (suc k) m (without k ns) (λ n. rest_within k m n (occurs n ns) (occurs n (without k ns)) (n == k) refl (fewer k n ns) (f n) (gone_at k n ns)) in
    let here = once w k ns (omega (arith, f k, within_most k (suc m) k)) in
    omega (arith, rest, here)

upto_load : (w : ℕ → ℕ) (k : ℕ) (xs : List Captured) → ((i : ℕ) (a : Captured) → slice_get xs i ≡ Some a → w (k + i) ≡ 16 + length a.bytes) → upto w k (length xs) ≡ load xs
upto_load w k [] f = refl
upto_load w k (x ∷ xs) f =
    let z : k + 0 ≡ k = omega arith in
    let here = ap w (sym z) ∙ f 0 x refl in
    let rest = upto_load w (suc k) xs (λ i a e. (let s : suc k + i ≡ k + suc i = omega arith in ap w s ∙ f (suc i) a e)) in
    omega (arith, here, rest)

abbrev burden : List Captured → ℕ → ℕ
burden arrived n = 16 + length (arrival arrived n).bytes

burden_at : (arrived : List Captured) (i : ℕ) (a : Captured) → slice_get arrived i ≡ Some a → burden arrived (1 + i) ≡ 16 + length a.bytes
burden_at arrived i a e =
    let s : 1 + i - 1 ≡ i = omega arith in
    ap (λ (k : ℕ). 16 + length (unwrap_or (slice_get arrived k) no_arrival).bytes) s ∙ ap (λ (o : Option Captured). 16 + length (unwrap_or o no_arrival).bytes) e

weight_push : (rs ds : List Record) → weight (rs ++ ds) ≡ weight rs + weight ds
weight_push [] ds = omega arith
weight_push (r ∷ rs) ds = omega (arith, weight_push rs ds)

event_weight : (dress : Dressing) (arrived : List Captured) (n : ℕ) (e : Event) (g : List LabelledEvent) (ns : List ℕ) → KeepsLength dress
    → weight (departed_by dress arrived n e g) + weigh (burden arrived) ns ≡ weigh (burden arrived) (sent_of n e ns)
event_weight dress arrived n (Offered a w v) g ns k = omega arith
event_weight dress arrived n (Sent s) g ns k = omega (arith, k (arrival arrived n).class (was_marked n g) (arrival arrived n).bytes)

departed_weight : (dress : Dressing) (arrived : List Captured) (g : List LabelledEvent) → KeepsLength dress → weight (departed dress arrived g) ≡ weigh (burden arrived) (sent g)
departed_weight dress arrived [] k = refl
departed_weight dress arrived (e ∷ g) k =
    let d : List Record = departed_by dress arrived e.label e.what g in
    omega (arith, weight_push (departed dress arrived g) d, departed_weight dress arrived g k, event_weight dress arrived e.label e.what g (sent g) k)

event_count : (dress : Dressing) (arrived : List Captured) (n : ℕ) (e : Event) (g : List LabelledEvent) → length (departed_by dress arrived n e g) ≤ length (decided n e)
event_count dress arrived n (Offered a w v) g = omega arith
event_count dress arrived n (Sent s) g = omega arith

departed_count : (dress : Dressing) (arrived : List Captured) (g : List LabelledEvent) → length (departed dress arrived g) ≤ length (journal g)
departed_count dress arrived [] = omega arith
departed_count dress arrived (e ∷ g) =
    let d : List Record = departed_by dress arrived e.label e.what g in
    omega (arith, length-append (departed dress arrived g) d, length-append (journal g) (decided e.label e.what), departed_count dress arrived g, event_count dress arrived e.label e.what g)

in_range : (n m count : ℕ) → m ≤ count → (if nat_lt 0 n && nat_le n m then 1 else 0) ≤ within 1 count n
in_range n m count l = grind (arith, common_steps, l)

-- the departures are within the limits of a capture
pub departed_within : (dress : Dressing) (mark : List ℕ → Placed) (records : List Record) (p : Policy) (rate seed : ℕ) (g : List LabelledEvent) → KeepsLength dress → AreSized records
    → HasLaws p rate seed (bare_arrivals (arrivals_of mark records)) g → IsInTime g → AreWithin (departed dress (arrivals_of mark records) g)
departed_within dress mark records p rate seed g k s x t =
    let arrived : List Captured = arrivals_of mark records in
    let long = bare_arrivals_length arrived in
    let many = count_from mark 0 records in
    let all = distinct (burden arrived) 1 (length arrived) (sent g) (λ n.
    omega (arith, split n g, x.once n, in_range n (offered (unlabelled g)) (length arrived) (omega (arith, x.came, long)))) in
    let sum = upto_load (burden arrived) 1 arrived (burden_at arrived) in
    record {
      each = each_at (departed dress arrived g) (each_within dress arrived g k (fit_from mark 0 records s.each) x.of_arrivals t);
      count = omega (arith, departed_count dress arrived g, x.few, x.came, long, many, s.count);
      size = omega (arith, written_length (departed dress arrived g), departed_weight dress arrived g k, all, sum, load_from mark 0 records, written_length records, s.size);
    }
