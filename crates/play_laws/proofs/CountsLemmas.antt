-- The counts of the statistics with one arrival or one decision more.
use Rattle.std.proofs.Common.{◌≡◌, ◌+◌, ◌-◌, ℕ, Bool, List, [], ◌∷◌, ◌++◌, Some, refl, ap, arith}
use Rattle.std.specs.Prelude.{◌&&◌, slice_get, if◌then◌else◌}
use Rattle.altq_model.specs.declared.Fate.{Fate}
use Rattle.altq_model.specs.declared.Fate.TheVariants
use Rattle.altq_model.specs.declared.Verdict.{Verdict}
use Rattle.altq_model.specs.declared.Verdict.TheVariants.{Keep, Mark, Drop}
use Rattle.altq_model.specs.Arrivals.{Captured, arrival, bare_arrivals}
use Rattle.altq_model.specs.Counts.{total, of_arrivals, of_decisions}
use Rattle.altq_model.specs.History.{Arrival, Event, Offered, Sent, LabelledEvent, Decision, dropped_by, decided, journal}
use Rattle.play_laws.specs.Events.{IsOfArrival, AreOfArrivals}
use Rattle.play_laws.proofs.DepartureLemmas.{arrival_stays}

total_append : {X : Type 0} (f : X → ℕ) (xs ys : List X) → total f (xs ++ ys) ≡ total f xs + total f ys
total_append f [] ys = omega arith
total_append f (x ∷ xs) ys = omega (arith, total_append f xs ys)

pub arrivals_add : (meant : Captured → Bool) (amount : Captured → ℕ) (xs ys : List Captured) → of_arrivals meant amount (xs ++ ys) ≡ of_arrivals meant amount xs + of_arrivals meant amount ys
arrivals_add meant amount xs ys = total_append (λ a. if meant a then amount a else 0) xs ys

pub decisions_add : (meant : Captured → Bool) (told : Fate → Bool) (amount : Captured → ℕ) (arrived : List Captured) (xs ys : List Decision)
    → of_decisions meant told amount arrived (xs ++ ys) ≡ of_decisions meant told amount arrived xs + of_decisions meant told amount arrived ys
decisions_add meant told amount arrived xs ys =
    total_append (λ d. if meant (arrival arrived d.0) && told d.1 then amount (arrival arrived d.0) else 0) xs ys

one_stays : (meant : Captured → Bool) (told : Fate → Bool) (amount : Captured → ℕ) (xs ys : List Captured) (n : ℕ) (a : Arrival) (f : Fate) → slice_get (bare_arrivals xs) (n - 1) ≡ Some a
    → of_decisions meant told amount (xs ++ ys) ((n, f) ∷ []) ≡ of_decisions meant told amount xs ((n, f) ∷ [])
one_stays meant told amount xs ys n a f e = ap (λ (b : Captured). (if meant b && told f then amount b else 0) + 0) (arrival_stays xs ys n a e)

drop_stays : (meant : Captured → Bool) (told : Fate → Bool) (amount : Captured → ℕ) (xs ys : List Captured) (n : ℕ) (a : Arrival) (v : Verdict) → slice_get (bare_arrivals xs) (n - 1) ≡ Some a
    → of_decisions meant told amount (xs ++ ys) (dropped_by v n) ≡ of_decisions meant told amount xs (dropped_by v n)
drop_stays meant told amount xs ys n a Keep e = refl
drop_stays meant told amount xs ys n a Mark e = refl
drop_stays meant told amount xs ys n a (Drop r) e = one_stays meant told amount xs ys n a (TheVariants.Dropped r) e

event_stays : (meant : Captured → Bool) (told : Fate → Bool) (amount : Captured → ℕ) (xs ys : List Captured) (n : ℕ) (e : Event) → IsOfArrival (bare_arrivals xs) n e
    → of_decisions meant told amount (xs ++ ys) (decided n e) ≡ of_decisions meant told amount xs (decided n e)
event_stays meant told amount xs ys n (Offered a w v) x = drop_stays meant told amount xs ys n a v.verdict x.1
event_stays meant told amount xs ys n (Sent s) x = one_stays meant told amount xs ys n x.packet (TheVariants.Sent s.start s.end s.rule) x.arrival

pub decisions_stay : (meant : Captured → Bool) (told : Fate → Bool) (amount : Captured → ℕ) (xs ys : List Captured) (g : List LabelledEvent) → AreOfArrivals (bare_arrivals xs) g
    → of_decisions meant told amount (xs ++ ys) (journal g) ≡ of_decisions meant told amount xs (journal g)
decisions_stay meant told amount xs ys [] f = refl
decisions_stay meant told amount xs ys (e ∷ g) f =
    let d : List Decision = decided e.label e.what in
    omega (
      arith,
      decisions_add meant told amount (xs ++ ys) (journal g) d,
      decisions_add meant told amount xs (journal g) d,
      decisions_stay meant told amount xs ys g f.1,
      event_stays meant told amount xs ys e.label e.what f.0,
    )
