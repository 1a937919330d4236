use Rattle.std.proofs.Common.{rules, ◌≡◌, ◌++◌, ◌∷◌, []}
use Rattle.hfsc_groups.proofs.New.{one_more, reserved_empty}
use Rattle.hfsc_groups.proofs.tree.groups_of.Goals as goal

pub loop-class-preserved : goal.loop-class-preserved
loop-class-preserved c =
    let items : c.push.new.self.items ≡ c.loop-class.groups.items ++ c.in_ok-reserve.field-0 ∷ [] = search rules in
    record {
      count = search rules;
      each = one_more c.args.classes.now c.loop-class.groups.items c.push.new.self.items c.in_ok-reserve.field-0 c.loop-class.class c.loop-class.invariant.count items
          c.loop-class.invariant.each
          (reserved_empty c.args.classes.now c.loop-class.class c.first_below-first.result c.places_below-places.result c.in_ok-reserve.field-0 c.in_ok-reserve.ensures
          c.first_below-first.ensures.least c.places_below-places.ensures);
    }
