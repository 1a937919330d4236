-- The texts of a longer journal begin with those of its prefix, and no text of what was decided changes with what is read later.
use Rattle.std.proofs.Common.{◌≡◌, ◌∙◌, List, [], ◌∷◌, ◌++◌, ◌-◌, Some, ℕ, refl, ap, sym, append_assoc}
use Rattle.std.specs.Prelude.{slice_get}
use Rattle.altq_model.specs.declared.Fate.{Fate}
use Rattle.altq_model.specs.declared.Fate.TheVariants
use Rattle.altq_model.specs.declared.Fate.TheVariants.{Dropped}
use Rattle.altq_model.specs.declared.Verdict.{Verdict}
use Rattle.altq_model.specs.declared.Verdict.TheVariants.{Keep, Mark, Drop}
use Rattle.altq_model.specs.Arrivals.{Captured, bare_arrivals}
use Rattle.altq_model.specs.History.{Arrival, Event, Offered, Sent, LabelledEvent, Decision, dropped_by, decided, journal}
use Rattle.play_laws.specs.Events.{IsOfArrival, AreOfArrivals}
use Rattle.play_laws.proofs.DepartureLemmas.{arrival_stays}
use Rattle.play_text.specs.Texts.{Naming, fate_text, fate_row, fate_rows, fates, fates_header}

pub fate_rows-append : (names : Naming) (arrived : List Captured) (xs ys : List Decision)
    → fate_rows names arrived (xs ++ ys) ≡ fate_rows names arrived xs ++ fate_rows names arrived ys
fate_rows-append names arrived [] ys = refl
fate_rows-append names arrived (d ∷ xs) ys =
    ap (λ (t : List ℕ). fate_row names arrived d ++ t) (fate_rows-append names arrived xs ys)
    ∙ sym (append_assoc (fate_row names arrived d) (fate_rows names arrived xs) (fate_rows names arrived ys))

pub fates-append : (names : Naming) (arrived : List Captured) (xs ys : List Decision)
    → fates names arrived (xs ++ ys) ≡ fates names arrived xs ++ fate_rows names arrived ys
fates-append names arrived xs ys =
    ap (λ (t : List ℕ). fates_header ++ t) (fate_rows-append names arrived xs ys)
    ∙ sym (append_assoc fates_header (fate_rows names arrived xs) (fate_rows names arrived ys))

row_stays : (names : Naming) (xs ys : List Captured) (n : ℕ) (a : Arrival) (f : Fate) → slice_get (bare_arrivals xs) (n - 1) ≡ Some a
    → fate_rows names (xs ++ ys) ((n, f) ∷ []) ≡ fate_rows names xs ((n, f) ∷ [])
row_stays names xs ys n a f e = ap (λ (b : Captured). fate_text n b.at b.len (names b.class) f ++ []) (arrival_stays xs ys n a e)

drop_stays : (names : Naming) (xs ys : List Captured) (n : ℕ) (a : Arrival) (v : Verdict) → slice_get (bare_arrivals xs) (n - 1) ≡ Some a
    → fate_rows names (xs ++ ys) (dropped_by v n) ≡ fate_rows names xs (dropped_by v n)
drop_stays names xs ys n a Keep e = refl
drop_stays names xs ys n a Mark e = refl
drop_stays names xs ys n a (Drop r) e = row_stays names xs ys n a (Dropped r) e

event_stays : (names : Naming) (xs ys : List Captured) (n : ℕ) (e : Event) → IsOfArrival (bare_arrivals xs) n e
    → fate_rows names (xs ++ ys) (decided n e) ≡ fate_rows names xs (decided n e)
event_stays names xs ys n (Offered a w v) x = drop_stays names xs ys n a v.verdict x.1
event_stays names xs ys n (Sent s) x = row_stays names xs ys n x.packet (TheVariants.Sent s.start s.end s.rule) x.arrival

both : (as' bs cs ds : List ℕ) → as' ≡ cs → bs ≡ ds → as' ++ bs ≡ cs ++ ds
both as' bs cs ds e f = cc

pub rows_stay : (names : Naming) (xs ys : List Captured) (g : List LabelledEvent) → AreOfArrivals (bare_arrivals xs) g
    → fate_rows names (xs ++ ys) (journal g) ≡ fate_rows names xs (journal g)
rows_stay names xs ys [] f = refl
rows_stay names xs ys (e ∷ g) f =
    let d : List Decision = decided e.label e.what in
    fate_rows-append names (xs ++ ys) (journal g) d
    ∙ both _ _ _ _ (rows_stay names xs ys g f.1) (event_stays names xs ys e.label e.what f.0)
    ∙ sym (fate_rows-append names xs (journal g) d)
