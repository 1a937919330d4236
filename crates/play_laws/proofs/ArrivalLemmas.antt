-- The arrivals of a capture rise, and a play sees of each what it needs.
use Rattle.std.proofs.Common.{◌≡◌, ◌-◌, ◌∙◌, ℕ, zero, suc, max, List, [], ◌∷◌, ◌++◌, Some, length, refl, ap, arith}
use Rattle.std.specs.Prelude.{nat_lt, slice_get, option_map, unwrap_or}
use Rattle.std.specs.Option.{option_map_or}
use Rattle.altq_model.specs.declared.Placed.{Placed}
use Rattle.capture_model.specs.Capture.{Record}
use Rattle.altq_model.specs.Arrivals.{Captured, arrivals_from, arrivals_of, arrival, no_arrival, bare_arrival, bare_arrivals}
use Rattle.altq_model.specs.History.{Arrival}
use Rattle.altq_model.specs.Laws.{at_of}
use Rattle.altq_model.specs.Play.{Policy}
use Rattle.altq_model.specs.Lawful.{IsOneOf, RiseFrom, AreRising, AreHeld, greatest}

rise_from : (mark : List ℕ → Placed) (latest : ℕ) (records : List Record) → RiseFrom latest (bare_arrivals (arrivals_from mark latest records))
rise_from mark latest [] = tt
rise_from mark latest (r ∷ rs) = (omega arith, rise_from mark (max latest r.stamp) rs)

pub arrivals_rise : (mark : List ℕ → Placed) (records : List Record) → AreRising (bare_arrivals (arrivals_of mark records))
arrivals_rise mark records = rise_from mark 0 records

pub bare_arrivals_length : (arrived : List Captured) → length (bare_arrivals arrived) ≡ length arrived
bare_arrivals_length [] = refl
bare_arrivals_length (a ∷ rest) = ap (λ (n : ℕ). suc n) (bare_arrivals_length rest)

from_length : (mark : List ℕ → Placed) (latest : ℕ) (records : List Record) → length (arrivals_from mark latest records) ≡ length records
from_length mark latest [] = refl
from_length mark latest (r ∷ rs) = ap (λ (n : ℕ). suc n) (from_length mark (max latest r.stamp) rs)

pub arrivals_length : (mark : List ℕ → Placed) (records : List Record) → length (bare_arrivals (arrivals_of mark records)) ≡ length records
arrivals_length mark records = bare_arrivals_length (arrivals_of mark records) ∙ from_length mark 0 records

pub bare_arrivals_at : (arrived : List Captured) (k : ℕ) → slice_get (bare_arrivals arrived) k ≡ option_map bare_arrival (slice_get arrived k)
bare_arrivals_at [] k = refl
bare_arrivals_at (a ∷ rest) zero = refl
bare_arrivals_at (a ∷ rest) (suc k) = bare_arrivals_at rest k

at_place : (arrived : List Captured) (k : ℕ) → (unwrap_or (slice_get arrived k) no_arrival).at ≡ option_map_or (λ (a : Arrival). a.at) (slice_get (bare_arrivals arrived) k) 0
at_place [] k = refl
at_place (a ∷ rest) zero = refl
at_place (a ∷ rest) (suc k) = at_place rest k

pub arrival_at : (arrived : List Captured) (n : ℕ) → (arrival arrived n).at ≡ at_of (bare_arrivals arrived) n
arrival_at arrived n = at_place arrived (n - 1)

bare_arrival_place : (arrived : List Captured) (k : ℕ) (a : Arrival) → slice_get (bare_arrivals arrived) k ≡ Some a → bare_arrival (unwrap_or (slice_get arrived k) no_arrival) ≡ a
bare_arrival_place [] k a e = absurd (cc)
bare_arrival_place (x ∷ rest) zero a e = cc
bare_arrival_place (x ∷ rest) (suc k) a e = bare_arrival_place rest k a e

pub bare_arrival_of_number : (arrived : List Captured) (n : ℕ) (a : Arrival) → slice_get (bare_arrivals arrived) (n - 1) ≡ Some a → bare_arrival (arrival arrived n) ≡ a
bare_arrival_of_number arrived n a e = bare_arrival_place arrived (n - 1) a e

held_from : (p : Policy) (mark : List ℕ → Placed) (latest : ℕ) (records : List Record)
    → ((bytes : List ℕ) → IsOneOf (mark bytes).class p.classes) → AreHeld p (bare_arrivals (arrivals_from mark latest records))
held_from p mark latest [] h = tt
held_from p mark latest (r ∷ rs) h = (h r.captured, held_from p mark (max latest r.stamp) rs h)

pub arrivals_held : (p : Policy) (mark : List ℕ → Placed) (records : List Record)
    → ((bytes : List ℕ) → IsOneOf (mark bytes).class p.classes) → AreHeld p (bare_arrivals (arrivals_of mark records))
arrivals_held p mark records h = held_from p mark 0 records h

abbrev arrival_of : (List ℕ → Placed) → (t : ℕ) → Record → Captured
arrival_of mark t r = record {
  at = max t r.stamp;
  len = max r.original (length r.captured);
  class = (mark r.captured).class;
  prec = (mark r.captured).prec;
  bytes = r.captured;
  raised = nat_lt r.stamp t;
}

from_append : (mark : List ℕ → Placed) (t : ℕ) (xs ys : List Record)
    → arrivals_from mark t (xs ++ ys) ≡ arrivals_from mark t xs ++ arrivals_from mark (greatest t xs) ys
from_append mark t [] ys = refl
from_append mark t (r ∷ xs) ys = ap (λ (l : List Captured). arrival_of mark t r ∷ l) (from_append mark (max t r.stamp) xs ys)

-- the arrivals of more records begin with those of the fewer
pub arrivals_append : (mark : List ℕ → Placed) (xs ys : List Record)
    → arrivals_of mark (xs ++ ys) ≡ arrivals_of mark xs ++ arrivals_from mark (greatest 0 xs) ys
arrivals_append mark xs ys = from_append mark 0 xs ys

pub bare_arrivals_append : (xs ys : List Captured) → bare_arrivals (xs ++ ys) ≡ bare_arrivals xs ++ bare_arrivals ys
bare_arrivals_append [] ys = refl
bare_arrivals_append (a ∷ xs) ys = ap (λ (l : List Arrival). bare_arrival a ∷ l) (bare_arrivals_append xs ys)
