use Rattle.std.proofs.Common.{◌∙◌, arith, sym}
use Rattle.hfsc_model.specs.Tree.{is_child}
use Rattle.hfsc_laws.proofs.Tree.{is_any}
use Rattle.hfsc_groups.proofs.Parents.{no_any, same_number}
use Rattle.hfsc_groups.proofs.tree.is_parent.Goals as goal

pub returns-then-eq : goal.returns-then-eq
returns-then-eq c =
    sym (is_any (is_child c.args.classes.now c.args.class) 0 _ c.loop-child.child-index (omega arith) (omega (arith, c.loop-child-test.true))
    (same_number _ c.args.class (sym c.eq.ensures ∙ c.if-eq.true)))

pub returns : goal.returns
returns c = sym (no_any (is_child c.args.classes.now c.args.class) 0 _ (λ d l m. c.loop-child.invariant d (omega (arith, m, c.loop-child-test.false))))
