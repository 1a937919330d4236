-- The rows of a play of HFSC are timely.
use Rattle.std.proofs.Common.{◌≡◌, ◌∙◌, ◌+◌, ◌-◌, ◌<◌, ◌≤◌, ℕ, Bool, true, false, List, [], ◌∷◌, ◌++◌, ◌⊎◌, inl, inr, Option, None, Some, refl, ap, sym, subst, arith}
use Rattle.std.specs.Prelude.{◌==◌, if◌then◌else◌, slice_get}
use Rattle.std.specs.Option.{option_map_or}
use Rattle.std.proofs.lemmas.Bool.Decides.{nat_tests}
use Rattle.std.proofs.lemmas.List.{append-nil}
use Rattle.play_base.specs.Units.{ceil_div, units}
use Rattle.altq_model.specs.declared.Fate.{Fate}
use Rattle.altq_model.specs.declared.Fate.TheVariants as fate
use Rattle.altq_model.specs.declared.Verdict.{Verdict}
use Rattle.altq_model.specs.declared.Verdict.TheVariants.{Keep, Mark, Drop}
use Rattle.altq_model.specs.Arrivals.{Captured, arrival, bare_arrivals}
use Rattle.altq_model.specs.declared.Rule.{Rule}
use Rattle.altq_model.specs.History.{Arrival, Decision, DrawnWords, Event, Sent, Sending, LabelledEvent, unlabelled, drawn, dropped_by, head, journal, offered, waiting}
use Rattle.altq_model.specs.Play.{Policy}
use Rattle.play_laws.specs.Events.{AreOfArrivals, EachFollows, HasLaws, IsOfArrival, IsOffer, IsSending, SendsArrival}
use Rattle.play_laws.proofs.OrderLemmas.{head_numbered}
use Rattle.journal_laws.specs.Journal.{IfSent}
use Rattle.service_curve.specs.declared.Curve.{Curve}
use Rattle.hfsc_model.specs.Event.{HfscHistory}
use Rattle.hfsc_model.specs.Leaf.{Waiting, leaf}
use Rattle.hfsc_model.specs.Link.{free, run_after}
use Rattle.hfsc_model.specs.RealTime.{curve_of}
use Rattle.hfsc_model.specs.Timely.{AreTimely, IsDue, IsTimely, longest, rows, with_row, Row as SentRow}
use Rattle.hfsc_laws.proofs.Past.{ceil_mono}
use Rattle.hfsc_policy.specs.Events.{hfsc_history, waits, with_offer}
use Rattle.hfsc_policy.proofs.Histories.{leaf_waits}
use Rattle.hfsc_policy.proofs.Timely.{link_is}
use Rattle.fate_check.specs.declared.reading.Row.{Row}
use Rattle.fate_check.specs.Given.{row_for, rows_for}
use Rattle.fate_judge.specs.Walk.{EachRow, newest_first}
use Rattle.fate_timely.specs.Timely.{EndsInTime, ForCurve, curve_at, longest_sent, longest_then, sent_rows, with_sent}
use Rattle.fate_laws.proofs.Departing.{rows_append}
use Rattle.fate_laws.proofs.Passing.{at_is, class_is, len_is}

-- the rows of a journal, the newest first
abbrev pub recent : List Captured → List LabelledEvent → List Row
recent arrived g = newest_first (rows_for arrived (journal g)) []

newest_last : (xs before : List Row) (r : Row) → newest_first (xs ++ r ∷ []) before ≡ r ∷ newest_first xs before
newest_last [] before r = refl
newest_last (x ∷ xs) before r = newest_last xs (x ∷ before) r

recent_more : (arrived : List Captured) (g : List LabelledEvent) (d : Decision) → newest_first (rows_for arrived (journal g ++ d ∷ [])) [] ≡ row_for arrived d ∷ recent arrived g
recent_more arrived g d =
    ap (λ (rs : List Row). newest_first rs []) (rows_append arrived (journal g) (d ∷ [])) ∙ newest_last (rows_for arrived (journal g)) [] (row_for arrived d)

recent_same : (arrived : List Captured) (g : List LabelledEvent) → newest_first (rows_for arrived (journal g ++ [])) [] ≡ recent arrived g
recent_same arrived g = ap (λ (js : List Decision). newest_first (rows_for arrived js) []) (append-nil (journal g))

if_same : {A : Type 0} (b : Bool) (x : A) → (if b then x else x) ≡ x
if_same true x = refl
if_same false x = refl

-- a sending's packet
pub record IsPacketOf (arrived : List Captured) (n : ℕ) (rate : ℕ) (g : List LabelledEvent) (s : Sending) : Type 0 where
  pub packet : Arrival
  pub arrival_is : slice_get (bare_arrivals arrived) (n - 1) ≡ Some packet
  pub front : head s.class (unlabelled g) ≡ Some packet
  pub class : s.class ≡ packet.class
  pub len : s.len ≡ packet.len
  pub end : s.end ≡ free rate (run_after rate (hfsc_history (Sent s ∷ unlabelled g)))

its_at : (arrived : List Captured) (n : ℕ) (b : Arrival) → slice_get (bare_arrivals arrived) (n - 1) ≡ Some b → (arrival arrived n).at ≡ b.at
its_at arrived n b e = at_is arrived n ∙ ap (λ (o : Option Arrival). option_map_or (λ (x : Arrival). x.at) o 0) e

its_len : (arrived : List Captured) (n : ℕ) (b : Arrival) → slice_get (bare_arrivals arrived) (n - 1) ≡ Some b → (arrival arrived n).len ≡ b.len
its_len arrived n b e = len_is arrived n ∙ ap (λ (o : Option Arrival). option_map_or (λ (x : Arrival). x.len) o 0) e

its_class : (arrived : List Captured) (n : ℕ) (b : Arrival) → slice_get (bare_arrivals arrived) (n - 1) ≡ Some b → (arrival arrived n).class ≡ b.class
its_class arrived n b e = class_is arrived n ∙ ap (λ (o : Option Arrival). option_map_or (λ (x : Arrival). x.class) o 0) e

row_eq : (at at' len len' start end end' : ℕ) → at ≡ at' → len ≡ len' → end ≡ end'
    → (let x : SentRow = record { at = at; len = len; start = start; end = end } in x) ≡ record { at = at'; len = len'; start = start; end = end' }
row_eq at at' len len' start end end' e f h =
    ap (λ (m : ℕ). let x : SentRow = record { at = m; len = len; start = start; end = end } in x) e
    ∙ ap (λ (m : ℕ). let x : SentRow = record { at = at'; len = m; start = start; end = end } in x) f
    ∙ ap (λ (m : ℕ). let x : SentRow = record { at = at'; len = len'; start = start; end = m } in x) h

front_row : (ws : List Arrival) (b : Arrival) (start end : ℕ) (rs : List SentRow) → slice_get ws 0 ≡ Some b
    → with_row (waits ws) start end rs ≡ record { at = b.at; len = b.len; start = start; end = end } ∷ rs
front_row [] b start end rs e = absurd cc
front_row (w ∷ ws) b start end rs e =
    let same : w ≡ b = cc in
    ap (λ (x : Arrival). let y : SentRow = record { at = x.at; len = x.len; start = start; end = end } in y ∷ rs) same

-- what a sending adds
added_if : (x y : Bool) (xs ys rs us : List SentRow) → x ≡ y → (x ≡ true → xs ≡ ys) → rs ≡ us → (if x then xs else rs) ≡ (if y then ys else us)
added_if true true xs ys rs us e h f = h refl
added_if true false xs ys rs us e h f = absurd cc
added_if false true xs ys rs us e h f = absurd cc
added_if false false xs ys rs us e h f = f

sending_adds : (rate : ℕ) (arrived : List Captured) (n : ℕ) (s : Sending) (g : List LabelledEvent) (c : ℕ) → IsPacketOf arrived n rate g s
    → rows rate (hfsc_history (unlabelled g)) c ≡ sent_rows c (recent arrived g)
    → rows rate (hfsc_history (Sent s ∷ unlabelled g)) c ≡ sent_rows c (row_for arrived (n, fate.Sent s.start s.end s.rule) ∷ recent arrived g)
sending_adds rate arrived n s g c k same =
    let r = row_for arrived (n, fate.Sent s.start s.end s.rule) in
    let rs = sent_rows c (recent arrived g) in
    let end = free rate (run_after rate (hfsc_history (Sent s ∷ unlabelled g))) in
    let its : s.class ≡ r.class = k.class ∙ sym (its_class arrived n k.packet k.arrival_is) in
    let one : SentRow = record { at = k.packet.at; len = k.packet.len; start = s.start; end = end } in
    let two : SentRow = record { at = r.at; len = r.len; start = s.start; end = s.end } in
    let old = rows rate (hfsc_history (unlabelled g)) c in
    let pair : one ≡ two
    = row_eq k.packet.at r.at k.packet.len r.len s.start end s.end (sym (its_at arrived n k.packet k.arrival_is)) (sym (its_len arrived n k.packet k.arrival_is)) (sym k.end) in
    added_if (s.class == c) (r.class == c) (with_row (leaf (hfsc_history (unlabelled g)) c).waiting s.start end old) (two ∷ rs) old rs
    (ap (λ (m : ℕ). m == c) its)
    (λ e.
    let of : s.class ≡ c = grind (arith, nat_tests, e) in
    let P : ℕ → Type 0 = λ m. head m (unlabelled g) ≡ Some k.packet in
    ap (λ (ws : List Waiting). with_row ws s.start end old) (leaf_waits c (unlabelled g)) ∙ front_row (waiting c (unlabelled g)) k.packet s.start end old (subst P of k.front)
    ∙ ap (λ (xs : List SentRow). one ∷ xs) same ∙ ap (λ (x : SentRow). x ∷ rs) pair)
    same

offer_same : (rate : ℕ) (arrived : List Captured) (n : ℕ) (a : Arrival) (v : Verdict) (g : List LabelledEvent) (c : ℕ)
    → rows rate (hfsc_history (unlabelled g)) c ≡ sent_rows c (recent arrived g)
    → rows rate (with_offer v a (hfsc_history (unlabelled g))) c ≡ sent_rows c (newest_first (rows_for arrived (journal g ++ dropped_by v n)) [])
offer_same rate arrived n a Keep g c same = same ∙ ap (λ (rs : List Row). sent_rows c rs) (sym (recent_same arrived g))
offer_same rate arrived n a Mark g c same = same ∙ ap (λ (rs : List Row). sent_rows c rs) (sym (recent_same arrived g))
offer_same rate arrived n a (Drop reason) g c same =
    let r = row_for arrived (n, fate.Dropped reason) in
    same ∙ sym (if_same (r.class == c) (sent_rows c (recent arrived g))) ∙ ap (λ (rs : List Row). sent_rows c rs) (sym (recent_more arrived g (n, fate.Dropped reason)))

packet_of : (p : Policy) (rate seed : ℕ) (arrived : List Captured) (g : List LabelledEvent) (e : LabelledEvent) → 0 < rate → EachFollows p rate seed (bare_arrivals arrived) g
    → (x : IsSending p rate (bare_arrivals arrived) g e) → SendsArrival (bare_arrivals arrived) e.label x.sending → IsPacketOf arrived e.label rate g x.sending
packet_of p rate seed arrived g e some f x k =
    let its = head_numbered p rate seed (bare_arrivals arrived) g x.sending.class e.label x.packet f x.number x.front in
    let both : Some k.packet ≡ Some x.packet = sym k.arrival ∙ its.there in
    let same : k.packet ≡ x.packet = cc in
    record {
      packet = x.packet;
      arrival_is = its.there;
      front = x.front;
      class = k.class ∙ ap (λ (b : Arrival). b.class) same;
      len = x.len;
      end = x.end ∙ (link_is rate (Sent x.sending ∷ unlabelled g) some).free;
    }

-- the packets that HFSC sent are those of the rows
rows_same : (p : Policy) (rate seed : ℕ) (arrived : List Captured) (g : List LabelledEvent) (c : ℕ) → 0 < rate → EachFollows p rate seed (bare_arrivals arrived) g
    → AreOfArrivals (bare_arrivals arrived) g → rows rate (hfsc_history (unlabelled g)) c ≡ sent_rows c (recent arrived g)
rows_same p rate seed arrived [] c some f k = refl
rows_same p rate seed arrived (e ∷ g) c some f k = step f.0 (rows_same p rate seed arrived g c some f.1 k.1) f.1 k.0
  where
    step : IsOffer p rate seed (bare_arrivals arrived) g e ⊎ IsSending p rate (bare_arrivals arrived) g e → rows rate (hfsc_history (unlabelled g)) c ≡ sent_rows c (recent arrived g)
        → EachFollows p rate seed (bare_arrivals arrived) g → IsOfArrival (bare_arrivals arrived) e.label e.what
        → rows rate (hfsc_history (unlabelled (e ∷ g))) c ≡ sent_rows c (recent arrived (e ∷ g))
    step (inl x) same f k =
        let P : LabelledEvent → Type 0 = λ z. rows rate (hfsc_history (unlabelled (z ∷ g))) c ≡ sent_rows c (recent arrived (z ∷ g)) in
        let w : DrawnWords = record { seed = seed; drawn = drawn (unlabelled g) } in
        subst P (sym x.offer) (offer_same rate arrived (offered (unlabelled g) + 1) x.packet (p.answer (unlabelled g) w x.packet).verdict g c same)
    step (inr x) same f k =
        let P : Event → Type 0 = λ z. let h : LabelledEvent = record { label = e.label; what = z } in rows rate (hfsc_history (unlabelled (h ∷ g))) c ≡ sent_rows c (recent arrived (h ∷ g)) in
        let Q : Event → Type 0 = λ z. IsOfArrival (bare_arrivals arrived) e.label z in
        let its = packet_of p rate seed arrived g e some f x (subst Q x.event k) in
        subst P (sym x.event)
        (sending_adds rate arrived e.label x.sending g c its same
        ∙ ap (λ (rs : List Row). sent_rows c rs) (sym (recent_more arrived g (e.label, fate.Sent x.sending.start x.sending.end x.sending.rule))))

-- the longest packet
then_more : (len : ℕ) (f : Fate) (n m : ℕ) → m ≤ n → m ≤ longest_then len f n
then_more len (fate.Dropped reason) n m le = le
then_more len (fate.Sent start end rule) n m le = omega (arith, le)

then_mono : (len : ℕ) (f : Fate) (n m : ℕ) → m ≤ n → longest_then len f m ≤ longest_then len f n
then_mono len (fate.Dropped reason) n m le = le
then_mono len (fate.Sent start end rule) n m le = omega (arith, le)

longest_more : (xs ys : List Row) → longest_sent xs ≤ longest_sent (xs ++ ys)
longest_more [] ys = omega arith
longest_more (x ∷ xs) ys = then_mono x.len x.fate (longest_sent (xs ++ ys)) (longest_sent xs) (longest_more xs ys)

its_length : (xs : List Row) (r : Row) (start end : ℕ) (rule : Rule) → r.fate ≡ fate.Sent start end rule → r.len ≤ longest_sent (xs ++ r ∷ [])
its_length [] r start end rule e =
    let P : Fate → Type 0 = λ f. r.len ≤ longest_then r.len f 0 in
    let le : r.len ≤ longest_then r.len (fate.Sent start end rule) 0 = omega arith in
    subst P (sym e) le
its_length (x ∷ xs) r start end rule e = then_more x.len x.fate (longest_sent (xs ++ r ∷ [])) r.len (its_length xs r start end rule e)

longest_offer : (v : Verdict) (a : Arrival) (h : HfscHistory) (n : ℕ) → longest h ≤ n → longest (with_offer v a h) ≤ n
longest_offer Keep a h n le = le
longest_offer Mark a h n le = le
longest_offer (Drop reason) a h n le = le

longest_within : (p : Policy) (rate seed : ℕ) (arrived : List Captured) (g : List LabelledEvent) → 0 < rate → EachFollows p rate seed (bare_arrivals arrived) g
    → AreOfArrivals (bare_arrivals arrived) g → longest (hfsc_history (unlabelled g)) ≤ longest_sent (rows_for arrived (journal g))
longest_within p rate seed arrived [] some f k = omega arith
longest_within p rate seed arrived (e ∷ g) some f k = step f.0 (longest_within p rate seed arrived g some f.1 k.1) f.1 k.0
  where
    more : (js : List Decision) → longest (hfsc_history (unlabelled g)) ≤ longest_sent (rows_for arrived (journal g))
        → longest (hfsc_history (unlabelled g)) ≤ longest_sent (rows_for arrived (journal g ++ js))
    more js le =
        let grows = longest_more (rows_for arrived (journal g)) (rows_for arrived js) in
        let same = ap longest_sent (rows_append arrived (journal g) js) in
        omega (arith, le, grows, same)

    step : IsOffer p rate seed (bare_arrivals arrived) g e ⊎ IsSending p rate (bare_arrivals arrived) g e → longest (hfsc_history (unlabelled g)) ≤ longest_sent (rows_for arrived (journal g))
        → EachFollows p rate seed (bare_arrivals arrived) g → IsOfArrival (bare_arrivals arrived) e.label e.what
        → longest (hfsc_history (unlabelled (e ∷ g))) ≤ longest_sent (rows_for arrived (journal (e ∷ g)))
    step (inl x) le f k =
        let P : LabelledEvent → Type 0 = λ z. longest (hfsc_history (unlabelled (z ∷ g))) ≤ longest_sent (rows_for arrived (journal (z ∷ g))) in
        let w : DrawnWords = record { seed = seed; drawn = drawn (unlabelled g) } in
        let v = (p.answer (unlabelled g) w x.packet).verdict in
        subst P (sym x.offer) (longest_offer v x.packet (hfsc_history (unlabelled g)) (longest_sent (rows_for arrived (journal g ++ dropped_by v (offered (unlabelled g) + 1))))
        (more (dropped_by v (offered (unlabelled g) + 1)) le))
    step (inr x) le f k =
        let P : Event → Type 0 = λ z. let h : LabelledEvent = record { label = e.label; what = z } in longest (hfsc_history (unlabelled (h ∷ g))) ≤ longest_sent (rows_for arrived (journal (h ∷ g))) in
        let Q : Event → Type 0 = λ z. IsOfArrival (bare_arrivals arrived) e.label z in
        let its = packet_of p rate seed arrived g e some f x (subst Q x.event k) in
        let d : Decision = (e.label, fate.Sent x.sending.start x.sending.end x.sending.rule) in
        let r = row_for arrived d in
        let long = its_length (rows_for arrived (journal g)) r x.sending.start x.sending.end x.sending.rule refl in
        let same = ap longest_sent (rows_append arrived (journal g) (d ∷ [])) in
        let len : r.len ≡ x.sending.len = its_len arrived e.label its.packet its.arrival_is ∙ sym its.len in
        subst P (sym x.event) (let out : longest (hfsc_history (Sent x.sending ∷ unlabelled g)) ≤ longest_sent (rows_for arrived (journal g ++ d ∷ []))
        = omega (arith, long, same, len, more (d ∷ []) le) in out)

-- packets that are timely are so up to each
wider : (s : Curve) (m n : ℕ) (rs : List SentRow) → m ≤ n → AreTimely s m rs → AreTimely s n rs
wider s m n [] le t = tt
wider s m n (r ∷ rs) le t = (λ u due. let e = t.0 u due in omega (arith, e, le), wider s m n rs le t.1)

drop_if : (s : Curve) (most : ℕ) (b : Bool) (r : Row) (f : Fate) (rs : List SentRow) → AreTimely s most (if b then with_sent r f rs else rs) → AreTimely s most rs
drop_if s most true r (fate.Dropped reason) rs t = t
drop_if s most true r (fate.Sent start end rule) rs t = t.1
drop_if s most false r f rs t = t

older : (s : Curve) (most c : ℕ) (before xs : List Row) → AreTimely s most (sent_rows c (newest_first xs before)) → AreTimely s most (sent_rows c before)
older s most c before [] t = t
older s most c before (x ∷ xs) t = drop_if s most (x.class == c) x x.fate (sent_rows c before) (older s most c (x ∷ before) xs t)

sent_first : (r : Row) (before : List Row) (start end : ℕ) (rule : Rule) → r.fate ≡ fate.Sent start end rule
    → sent_rows r.class (r ∷ before) ≡ record { at = r.at; len = r.len; start = start; end = end } ∷ sent_rows r.class before
sent_first r before start end rule f =
    let its : (r.class == r.class) ≡ true = grind (arith, nat_tests) in
    ap (λ (b : Bool). if b then with_sent r r.fate (sent_rows r.class before) else sent_rows r.class before) its
    ∙ ap (λ (t : Fate). with_sent r t (sent_rows r.class before)) f

row_timely : (curves : List (Option Curve)) (most : ℕ) (before : List Row) (r : Row) (f : Fate) (o : Option Curve) → r.fate ≡ f
    → ((s : Curve) → o ≡ Some s → AreTimely s most (sent_rows r.class (r ∷ before)))
    → IfSent f (λ start end. ForCurve o (λ s. (u : ℕ) → IsDue s (sent_rows r.class (r ∷ before)) u → end ≤ u + most))
row_timely curves most before r (fate.Dropped reason) o e t = tt
row_timely curves most before r (fate.Sent start end rule) None e t = tt
row_timely curves most before r (fate.Sent start end rule) (Some s) e t =
    let x : SentRow = record { at = r.at; len = r.len; start = start; end = end } in
    let same : sent_rows r.class (r ∷ before) ≡ x ∷ sent_rows r.class before = sent_first r before start end rule e in
    let P : List SentRow → Type 0 = λ rs. AreTimely s most rs in
    let Q : List SentRow → Type 0 = λ rs. (u : ℕ) → IsDue s rs u → end ≤ u + most in
    let first : AreTimely s most (x ∷ sent_rows r.class before) = subst P same (t s refl) in
    subst Q (sym same) first.0

each_timely : (curves : List (Option Curve)) (most : ℕ) (before xs : List Row)
    → ((c : ℕ) (s : Curve) → curve_at curves c ≡ Some s → AreTimely s most (sent_rows c (newest_first xs before))) → EachRow (EndsInTime curves most) before xs
each_timely curves most before [] t = tt
each_timely curves most before (r ∷ xs) t = (
  row_timely curves most before r r.fate (curve_at curves r.class) refl (λ s e. older s most r.class (r ∷ before) xs (t r.class s e)),
  each_timely curves most (r ∷ before) xs t,
)

pub timely_passes : (p : Policy) (rate seed : ℕ) (curves tested : List (Option Curve)) (arrived : List Captured) (g : List LabelledEvent) → 0 < rate
    → HasLaws p rate seed (bare_arrivals arrived) g → ((c : ℕ) → curve_at tested c ≡ curve_of curves c) → IsTimely rate curves (hfsc_history (unlabelled g))
    → EachRow (EndsInTime tested (ceil_div (units (longest_sent (rows_for arrived (journal g)))) rate)) [] (rows_for arrived (journal g))
timely_passes p rate seed curves tested arrived g some h same t =
    let most = ceil_div (units (longest_sent (rows_for arrived (journal g)))) rate in
    let long = longest_within p rate seed arrived g some h.each h.of_arrivals in
    let up = ceil_mono rate (units (longest (hfsc_history (unlabelled g)))) (units (longest_sent (rows_for arrived (journal g)))) some (omega (arith, long)) in
    each_timely tested most [] (rows_for arrived (journal g))
    (λ c s e.
    let P : List SentRow → Type 0 = λ rs. AreTimely s most rs in
    subst P (rows_same p rate seed arrived g c some h.each h.of_arrivals)
    (wider s (ceil_div (units (longest (hfsc_history (unlabelled g)))) rate) most (rows rate (hfsc_history (unlabelled g)) c) up (t c s (sym (same c) ∙ e))))
