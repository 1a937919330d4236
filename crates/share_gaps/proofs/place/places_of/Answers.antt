use Rattle.std.proofs.Common.{◌∙◌, ℕ, List, length, ap, sym, subst, arith}
use Rattle.std.specs.Prelude.{slice_get}
use Rattle.share_gaps.specs.declared.place.Place.{Place}
use Rattle.share_gaps.specs.Rows.{IsPlace}
use Rattle.share_gaps.proofs.Updates.{length_push, push_each}
use Rattle.share_gaps.proofs.place.places_of.Goals as goal

pub loop-class-preserved : goal.loop-class-preserved
loop-class-preserved c =
    let cs = c.args.classes.now in
    let ss = c.args.siblings.now in
    let x = c.in_ok-place_of.field-0 in
    let items = c.in_ok-push.ensures.items in
    let count = c.loop-class.invariant.count in
    let longer = length_push c.loop-class.places.items x in
    let all = ap length items in
    record {
      count = omega (arith, all, longer, count);
      each = λ k y e.
          push_each (λ (j : ℕ) (p : Place). IsPlace cs ss j p) c.loop-class.places.items x c.loop-class.invariant.each
          (subst (λ (m : ℕ). IsPlace cs ss m x) (sym count) c.in_ok-place_of.ensures) k y (sym (ap (λ (zs : List Place). slice_get zs k) items) ∙ e);
    }

pub returns : goal.returns
returns c =
    let count = c.loop-class.invariant.count in
    record { count = omega (arith, count, c.loop-class-test.false, c.loop-class.auto.class-end); each = c.loop-class.invariant.each }
