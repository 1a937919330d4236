-- A bound that was printed of a leaf, the packets that it is asked of, and when they end. Rates are bits per second, lengths and bursts
-- bytes, bounds nanoseconds.
use Rattle.std.specs.Prelude.{◌≡◌, ◌≤◌, ◌+◌, ◌++◌, ℕ, true, List, [], ◌∷◌, Some, slice_get}
use Rattle.admission.specs.declared.Fit.{Fit}
use Rattle.altq_model.specs.History.{Arrival, Event, Offered, Sent, LabelledEvent, unlabelled}
use Rattle.altq_model.specs.Laws.{at_of}
use Rattle.bound_command.specs.Lines.{Burst, bound_of, is_fit}
use Rattle.bound_command.specs.declared.lines.Bound.{Bound}
use Rattle.conf_tree.specs.Family.{is_leaf}
use Rattle.conf_tree.specs.declared.class.Class.{Class}
use Rattle.conf_tree.specs.declared.interface.Interface.{Interface}
use Rattle.conf_tree.specs.declared.interface.Kind.TheVariants.{Hfsc}
use Rattle.delay_bound.specs.Bound.{offers_in}
use Rattle.traffic_meter.specs.Conforming.{Conforms}

-- the line of the leaf of this number is `NAME rate R bound N`, with this rate and bound
pub record IsPrinted (i : Interface) (by : Fit) (b : Burst) (leaf : ℕ) (x : Bound) : Type 0 where
  pub kind : i.kind ≡ Hfsc
  pub class : Class
  pub at : slice_get i.classes leaf ≡ Some class
  pub is_leaf : is_leaf i.classes leaf ≡ true
  pub bound : bound_of (is_fit by) class.real i.rate b ≡ Some x

-- a line stands in a text
pub record StandsIn (line text : List ℕ) : Type 0 where
  pub before : List ℕ
  pub after : List ℕ
  pub text_is : text ≡ before ++ (line ++ after)

-- no packet that arrives is longer than the longest, and those that are offered to a leaf, dropped ones too, keep to a rate and the burst
pub record KeepsTo (b : Burst) (leaf rate : ℕ) (arrived : List Arrival) (g : List LabelledEvent) : Type 0 where
  pub some : 1 ≤ b.burst
  pub short : (k : ℕ) (a : Arrival) → slice_get arrived k ≡ Some a → a.len ≤ b.longest
  pub conforms : Conforms rate b.burst (offers_in leaf (unlabelled g))

-- the packet of a number, where it is sent in a class, ends at most so long after it arrived
abbrev pub EndsWithin : (class most : ℕ) → List Arrival → (n : ℕ) → Event → Type 0
EndsWithin class most arrived n (Offered a w v) = Unit {0}
EndsWithin class most arrived n (Sent s) = s.class ≡ class → s.end ≤ at_of arrived n + most

abbrev pub AllEndWithin : (class most : ℕ) → List Arrival → List LabelledEvent → Type 0
AllEndWithin class most arrived [] = Unit {0}
AllEndWithin class most arrived (e ∷ g) = EndsWithin class most arrived e.label e.what × AllEndWithin class most arrived g
