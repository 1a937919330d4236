-- The stamps of what a link sends rise, and each is that of an arrival of the play which it comes to.
use Rattle.std.proofs.Common.{◌≡◌, ◌≤◌, ◌<◌, ◌∙◌, ◌++◌, ap, ℕ, zero, suc, max, List, [], ◌∷◌, Some, append-nil, false, refl, sym, subst, arith, le-ltb}
use Rattle.std.specs.Prelude.{slice_get, unwrap_or}
use Rattle.std.specs.List.{All}
use Rattle.std.specs.Option.{option_map_or}
use Rattle.std.proofs.lemmas.List.Concat.{flat_map-append}
use Rattle.std.proofs.lemmas.List.Elements.{All-append, All-cons, All-nil}
use Rattle.altq_model.specs.Arrivals.{Captured, arrivals_from, bare_arrivals, no_arrival}
use Rattle.altq_model.specs.declared.Placed.{Placed}
use Rattle.altq_model.specs.declared.Verdict.{Verdict}
use Rattle.altq_model.specs.declared.Verdict.TheVariants.{Keep, Mark, Drop}
use Rattle.altq_model.specs.Departures.{Dressing, departed, departed_by}
use Rattle.altq_model.specs.History.{Arrival, Decision, Event, Offered, Sent, LabelledEvent, unlabelled, decided, dropped_by, journal}
use Rattle.altq_model.specs.Laws.{IsNotBefore, StartsAfter, at_of}
use Rattle.altq_model.specs.Link.{HasLinkEnds, link}
use Rattle.capture_model.specs.Capture.{End, IsCapture, Outcome, Record, outcome}
use Rattle.capture_model.proofs.OutcomeLemmas.{outcome_ends, reads_outcome}
use Rattle.journal_laws.specs.Journal.{IfSent}
use Rattle.pcap_files.proofs.ReadingLaws.{one_reading}
use Rattle.play_laws.proofs.LinkLemmas.{end_later}
use Rattle.traffic_marks.specs.Laws.{recaptured}
use Rattle.traffic_marks.specs.Marked.{Conditioning, frames, marked}
use Rattle.traffic_marks.proofs.Reading.{keeps_reading}
use Rattle.chain_command.specs.Chained.{ends_by, ends_of}

abbrev pub stamps : List Record → List ℕ
stamps [] = []
stamps (r ∷ rs) = r.stamp ∷ stamps rs

stamps_append : (xs ys : List Record) → stamps (xs ++ ys) ≡ stamps xs ++ stamps ys
stamps_append [] ys = refl
stamps_append (r ∷ xs) ys = ap (λ (ns : List ℕ). r.stamp ∷ ns) (stamps_append xs ys)

-- no number is less than the one before it, from `low` up to `high`
abbrev pub Rises : (low high : ℕ) → List ℕ → Type 0
Rises low high [] = low ≤ high
Rises low high (n ∷ ns) = (low ≤ n) × Rises n high ns

rises_push : (low high n m : ℕ) (ns : List ℕ) → high ≤ n → n ≤ m → Rises low high ns → Rises low m (ns ++ n ∷ [])
rises_push low high n m [] l k r = (omega arith, k)
rises_push low high n m (i ∷ ns) l k r = (r.0, rises_push i high n m ns l k r.1)

-- so do the stamps of what is sent, up to the moment from which on the link is free
rises_by : (rate : ℕ) (dress : Dressing) (arrived : List Captured) (n : ℕ) (e : Event) (g : List LabelledEvent) → 0 < rate → HasLinkEnds rate (e ∷ unlabelled g)
    → (HasLinkEnds rate (unlabelled g) → Rises 0 (link rate (unlabelled g)).free (stamps (departed dress arrived g)))
    → Rises 0 (link rate (e ∷ unlabelled g)).free (stamps (departed dress arrived g ++ departed_by dress arrived n e g))
rises_by rate dress arrived n (Offered a w v) g pos h before = rw (append-nil (departed dress arrived g)) (before h)
rises_by rate dress arrived n (Sent s) g pos h before =
    let later = end_later rate (unlabelled g) s.start s.len pos in
    let start = h.0 in
    let end = h.1 in
    rw (stamps_append (departed dress arrived g) _)
    (rises_push 0 (link rate (unlabelled g)).free s.end _ (stamps (departed dress arrived g)) (omega (arith, start, end, later)) (omega (arith, end)) (before h.2))

pub departures_rise : (rate : ℕ) (dress : Dressing) (arrived : List Captured) (g : List LabelledEvent) → 0 < rate → HasLinkEnds rate (unlabelled g)
    → Rises 0 (link rate (unlabelled g)).free (stamps (departed dress arrived g))
departures_rise rate dress arrived [] pos h = omega arith
departures_rise rate dress arrived (e ∷ g) pos h =
    rises_by rate dress arrived e.label e.what g pos h (λ k. departures_rise rate dress arrived g pos k)

-- marks change no stamp
recaptured_stamps : (rs : List Record) (fs : List (List ℕ)) → stamps (recaptured rs fs) ≡ stamps rs
recaptured_stamps [] fs = refl
recaptured_stamps (r ∷ rs) [] = refl
recaptured_stamps (r ∷ rs) (f ∷ fs) = ap (λ (ns : List ℕ). r.stamp ∷ ns) (recaptured_stamps rs fs)

pub marked_stamps : (c : Conditioning) (bytes : List ℕ) (rs qs : List Record) → IsCapture bytes rs → IsCapture (marked c bytes) qs → stamps qs ≡ stamps rs
marked_stamps c bytes rs qs reads again =
    let o : Outcome = outcome bytes in
    let m : Outcome = outcome (marked c bytes) in
    let one = one_reading bytes rs o.records End o.last reads tt (reads_outcome bytes) (outcome_ends bytes) in
    let two = one_reading (marked c bytes) qs m.records End m.last again tt (reads_outcome (marked c bytes)) (outcome_ends (marked c bytes)) in
    ap stamps two.0 ∙ ap (λ (x : Outcome). stamps x.records) (keeps_reading c bytes) ∙ recaptured_stamps o.records (frames c o.records)
    ∙ ap stamps (sym one.0)

-- arrivals whose stamps rise are not raised
pub none_raised : (mark : List ℕ → Placed) (t high : ℕ) (rs : List Record) → Rises t high (stamps rs) → (k : ℕ)
    → (unwrap_or (slice_get (arrivals_from mark t rs) k) no_arrival).raised ≡ false
none_raised mark t high [] r k = refl
none_raised mark t high (x ∷ rs) r zero = le-ltb x.stamp t r.0
none_raised mark t high (x ∷ rs) r (suc k) =
    let l = r.0 in
    let same : x.stamp ≡ max t x.stamp = omega (arith, l) in
    none_raised mark (max t x.stamp) high rs (subst (λ (m : ℕ). Rises m high (stamps rs)) same r.1) k

-- each arrives at its stamp or later
pub at_stamp : (mark : List ℕ → Placed) (t : ℕ) (rs : List Record) (k end : ℕ) → slice_get (stamps rs) k ≡ Some end
    → end ≤ option_map_or (λ (a : Arrival). a.at) (slice_get (bare_arrivals (arrivals_from mark t rs)) k) 0
at_stamp mark t [] k end e = absurd (cc)
at_stamp mark t (x ∷ rs) zero end e = let same : x.stamp ≡ end = cc in omega (arith, same)
at_stamp mark t (x ∷ rs) (suc k) end e = at_stamp mark (max t x.stamp) rs k end e

-- the ends of a journal are the stamps of what was sent
decided_ends : (dress : Dressing) (arrived : List Captured) (n : ℕ) (e : Event) (g : List LabelledEvent)
    → ends_of (decided n e) ≡ stamps (departed_by dress arrived n e g)
decided_ends dress arrived n (Sent s) g = refl
decided_ends dress arrived n (Offered a w v) g = offered v.verdict
  where
    offered : (x : Verdict) → ends_of (dropped_by x n) ≡ []
    offered Keep = refl
    offered Mark = refl
    offered (Drop reason) = refl

pub ends_are : (dress : Dressing) (arrived : List Captured) (g : List LabelledEvent) → ends_of (journal g) ≡ stamps (departed dress arrived g)
ends_are dress arrived [] = refl
ends_are dress arrived (e ∷ g) =
    let front = flat_map-append (λ (d : Decision). ends_by d.1) (journal g) (decided e.label e.what) in
    let back = stamps_append (departed dress arrived g) (departed_by dress arrived e.label e.what g) in
    cc (front, back, ends_are dress arrived g, decided_ends dress arrived e.label e.what g)

-- no sending of a journal starts before its arrival
abbrev pub IsAfter : List Arrival → Decision → Type 0
IsAfter arrived d = IfSent d.1 (λ start end. at_of arrived d.0 ≤ start)

decided_after : (arrived : List Arrival) (n : ℕ) (e : Event) → StartsAfter arrived n e → All (IsAfter arrived) (decided n e)
decided_after arrived n (Sent s) starts = All-cons (IsAfter arrived) _ [] starts (All-nil (IsAfter arrived))
decided_after arrived n (Offered a w v) starts = offered v.verdict
  where
    offered : (x : Verdict) → All (IsAfter arrived) (dropped_by x n)
    offered Keep = All-nil (IsAfter arrived)
    offered Mark = All-nil (IsAfter arrived)
    offered (Drop reason) = All-cons (IsAfter arrived) _ [] tt (All-nil (IsAfter arrived))

pub starts_after : (arrived : List Arrival) (g : List LabelledEvent) → IsNotBefore arrived g → All (IsAfter arrived) (journal g)
starts_after arrived [] h = All-nil (IsAfter arrived)
starts_after arrived (e ∷ g) h =
    All-append (IsAfter arrived) (journal g) (decided e.label e.what) (starts_after arrived g h.1) (decided_after arrived e.label e.what h.0)
