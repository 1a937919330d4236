use Rattle.std.proofs.Common.{refl}
use Rattle.runtime_curve.proofs.Lowest.{more_stand, new_kept, old_kept, one_stands}
use Rattle.runtime_curve.proofs.held.add_last.Goals.{else-curve-via-then-curve+else-is_lower, else-curve-via-else-curve}
use Rattle.runtime_curve.proofs.held.add_last.Goals as goal

pub returns-then-is_lower-clause-opened : goal.returns-then-is_lower-clause-opened
returns-then-is_lower-clause-opened c = λ os stood.
    more_stand c.args.curve.now c.args.held.now _ c.args.new os stood c.requires.last refl
    (new_kept c.args.curve.now.m1 c.args.held.now.steep c.args.new (c.is_lower.ensures.lower c.if-is_lower.true))
    (old_kept c.args.curve.now.m2 c.args.held.now.flat c.args.new c.requires.above)

pub returns-else-curve-clause-opened : goal.returns-else-curve-clause-opened
returns-else-curve-clause-opened c = λ os stood.
    let flat = old_kept c.args.curve.now.m2 c.args.held.now.flat c.args.new c.requires.above in
    elim c.else-curve.branch [
      | else-curve-via-then-curve+else-is_lower w ↦
          more_stand c.args.curve.now c.args.held.now _ c.args.new os stood c.requires.last refl
          (old_kept c.args.curve.now.m1 c.args.held.now.steep c.args.new (w.is_lower.ensures.higher w.if-is_lower.false)) flat
      | else-curve-via-else-curve w ↦
          one_stands c.args.curve.now c.args.held.now _ c.args.new os stood c.requires.last refl w.if-curve.false (c.requires.held.one w.if-curve.false) flat
    ]
