-- The packets that a meter is asked for are in order.
use Rattle.std.proofs.Common.{◌≤◌, ℕ, Bool, true, false, List, [], ◌∷◌, ◌++◌, length, max, arith}
use Rattle.std.specs.Prelude.{◌==◌, if◌then◌else◌, nat_lt}
use mathlib.Core.List.{reverse_aux}
use Rattle.altq_model.specs.declared.Placed.{Placed}
use Rattle.altq_model.specs.Arrivals.{Captured, arrivals_from}
use Rattle.capture_model.specs.Capture.{Record}
use Rattle.traffic_meter.specs.History.{ArrivalsAreInOrder, Metered, latest}
use Rattle.traffic_marks.specs.Marked.{Conditioning, history, metered}
use Rattle.conditioned_laws.specs.Metered.{asked}

-- the arrival of a record behind others
abbrev pub arrival_of : (List ℕ → Placed) → (latest : ℕ) → Record → Captured
arrival_of place m r = record {
  at = max m r.stamp;
  len = max r.original (length r.captured);
  class = (place r.captured).class;
  prec = (place r.captured).prec;
  bytes = r.captured;
  raised = nat_lt r.stamp m;
}

-- arrivals behind earlier ones
order_on : (place : List ℕ → Placed) (class m : ℕ) (rs : List Record) (earlier : List Captured) → ArrivalsAreInOrder (history class earlier)
    → latest (history class earlier) ≤ m → ArrivalsAreInOrder (history class (reverse_aux (arrivals_from place m rs) earlier))
order_on place class m [] earlier o l = o
order_on place class m (r ∷ rs) earlier o l =
    let next = go (a.class == class) in
    order_on place class (max m r.stamp) rs (a ∷ earlier) next.0 next.1
  where
    a : Captured
    a = arrival_of place m r

    go : (b : Bool) → ArrivalsAreInOrder (if b then metered a ∷ history class earlier else history class earlier)
        × (latest (if b then metered a ∷ history class earlier else history class earlier) ≤ max m r.stamp)
    go true = ((omega (arith, l), o), omega arith)
    go false = (o, omega (arith, l))

pub in_order : (c : Conditioning) (class : ℕ) (records : List Record) → ArrivalsAreInOrder (asked c class records)
in_order c class records = order_on c.place class 0 records [] tt (omega arith)

-- so are those of each stretch, and the older ones
pub stretch_in_order : (newer h : List Metered) → ArrivalsAreInOrder (newer ++ h) → ArrivalsAreInOrder h
stretch_in_order [] h o = o
stretch_in_order (a ∷ newer) h o = stretch_in_order newer h o.1
