use Rattle.std.proofs.Common.{◌≡◌, length, ℕ, Some}
use Rattle.std.specs.Prelude.{slice_get}
use Rattle.share_gaps.specs.declared.place.Place.{Place}
use Rattle.share_gaps.specs.Rows.{IsPlace}
use Rattle.share_gaps.proofs.place.places_of.Given as goal

abbrev pub invariant-loop-class : goal.invariant-loop-class
invariant-loop-class l = record {
  count : length l.places.items ≡ l.class;
  each : (c : ℕ) (x : Place) → slice_get l.places.items c ≡ Some x → IsPlace l.classes l.siblings c x;
}
