-- The departures of more events begin with those of the older ones, and no record of what was decided changes with what is read later.
use Rattle.std.proofs.Common.{◌≡◌, ◌-◌, ◌∙◌, ℕ, zero, suc, List, [], ◌∷◌, ◌++◌, Some, refl, ap, sym, append_assoc}
use Rattle.std.specs.Prelude.{slice_get, unwrap_or}
use Rattle.std.specs.declared.option.Option.{Option}
use Rattle.std.proofs.lemmas.List.{append-nil}
use Rattle.capture_model.specs.Capture.{Record}
use Rattle.capture_model.specs.Header.{capture_header}
use Rattle.capture_model.specs.Written.{record_text, record_texts, written}
use Rattle.altq_model.specs.Arrivals.{Captured, arrival, no_arrival, bare_arrivals}
use Rattle.altq_model.specs.Departures.{Dressing, departure, departed_by, departed, departures}
use Rattle.altq_model.specs.History.{Arrival, Event, Offered, Sent, LabelledEvent, was_marked}
use Rattle.play_laws.specs.Events.{IsOfArrival, AreOfArrivals}

pub texts-append : (xs ys : List Record) → record_texts (xs ++ ys) ≡ record_texts xs ++ record_texts ys
texts-append [] ys = refl
texts-append (r ∷ xs) ys =
    ap (λ (t : List ℕ). record_text r ++ t) (texts-append xs ys) ∙ sym (append_assoc (record_text r) (record_texts xs) (record_texts ys))

pub written-append : (xs ys : List Record) → written (xs ++ ys) ≡ written xs ++ record_texts ys
written-append xs ys =
    ap (λ (t : List ℕ). capture_header ++ t) (texts-append xs ys) ∙ sym (append_assoc capture_header (record_texts xs) (record_texts ys))

pub departed-append : (dress : Dressing) (arrived : List Captured) (es g : List LabelledEvent)
    → (more : List Record) × (departed dress arrived (es ++ g) ≡ departed dress arrived g ++ more)
departed-append dress arrived [] g = ([], sym (append-nil (departed dress arrived g)))
departed-append dress arrived (e ∷ es) g =
    let x = departed-append dress arrived es g in
    let d : List Record = departed_by dress arrived e.label e.what (es ++ g) in
    (x.0 ++ d, ap (λ (rs : List Record). rs ++ d) x.1 ∙ append_assoc (departed dress arrived g) x.0 d)

pub departures-append : (dress : Dressing) (arrived : List Captured) (es g : List LabelledEvent)
    → (more : List Record) × (departures dress arrived (es ++ g) ≡ departures dress arrived g ++ record_texts more)
departures-append dress arrived es g =
    let x = departed-append dress arrived es g in
    (x.0, ap written x.1 ∙ written-append (departed dress arrived g) x.0)

-- the arrival of a number that has one stays with more arrivals
there_stays : (xs ys : List Captured) (k : ℕ) (a : Arrival) → slice_get (bare_arrivals xs) k ≡ Some a → slice_get (xs ++ ys) k ≡ slice_get xs k
there_stays [] ys k a e = absurd (cc)
there_stays (x ∷ xs) ys zero a e = refl
there_stays (x ∷ xs) ys (suc k) a e = there_stays xs ys k a e

pub arrival_stays : (xs ys : List Captured) (n : ℕ) (a : Arrival) → slice_get (bare_arrivals xs) (n - 1) ≡ Some a → arrival (xs ++ ys) n ≡ arrival xs n
arrival_stays xs ys n a e = ap (λ (o : Option Captured). unwrap_or o no_arrival) (there_stays xs ys (n - 1) a e)

record_stays : (dress : Dressing) (xs ys : List Captured) (n : ℕ) (e : Event) (g : List LabelledEvent) → IsOfArrival (bare_arrivals xs) n e
    → departed_by dress (xs ++ ys) n e g ≡ departed_by dress xs n e g
record_stays dress xs ys n (Offered a w v) g x = refl
record_stays dress xs ys n (Sent s) g x =
    ap (λ (b : Captured). departure dress b (was_marked n g) s.end ∷ []) (arrival_stays xs ys n x.packet x.arrival)

both_records : (as' bs cs ds : List Record) → as' ≡ cs → bs ≡ ds → as' ++ bs ≡ cs ++ ds
both_records as' bs cs ds e f = cc

pub records_stay : (dress : Dressing) (xs ys : List Captured) (g : List LabelledEvent) → AreOfArrivals (bare_arrivals xs) g → departed dress (xs ++ ys) g ≡ departed dress xs g
records_stay dress xs ys [] f = refl
records_stay dress xs ys (e ∷ g) f =
    both_records _ _ _ _ (records_stay dress xs ys g f.1) (record_stays dress xs ys e.label e.what g f.0)
