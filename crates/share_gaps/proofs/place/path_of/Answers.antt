use Rattle.std.proofs.Common.{◌++◌, ◌∙◌, ◌-◌, ◌+◌, ℕ, List, ap, sym, arith}
use Rattle.std.specs.Prelude.{Option}
use Rattle.hfsc_model.specs.Tree.{class_of, path_up}
use Rattle.share_gaps.proofs.Ranges.{path_all, path_full, path_more}
use Rattle.share_gaps.proofs.place.path_of.Goals as goal

pub bounds-classes-class : goal.bounds-classes-class
bounds-classes-class c = c.loop.invariant.low c.in-Some.class c.in-Some.is

pub loop-preserved : goal.loop-preserved
loop-preserved c =
    let cs = c.args.classes.now in
    let x = c.in-Some.class in
    record {
      rest = ap (λ (xs : List ℕ). xs ++ path_up (8 - (c.loop.counter + 1)) cs (class_of cs x).parent) c.in_ok-push.ensures.items
          ∙ sym (path_more c.loop.counter cs c.loop.up.items x c.loop-test.true)
          ∙ ap (λ (o : Option ℕ). c.loop.up.items ++ path_up (8 - c.loop.counter) cs o) (sym c.in-Some.is)
          ∙ c.loop.invariant.rest;
      low = λ p e. let under = c.loop.invariant.low x c.in-Some.is in let earlier = c.requires.tree.earlier x p e in omega (arith, under, earlier);
      count = omega (arith, c.loop-test.true);
    }

pub returns-in_default : goal.returns-in_default
returns-in_default c = sym (path_all (8 - c.loop.counter) c.args.classes.now c.loop.up.items c.loop.next c.in_default.is) ∙ c.loop.invariant.rest

pub returns : goal.returns
returns c = sym (path_full (8 - c.loop.counter) c.args.classes.now c.loop.up.items c.loop.next (omega (arith, c.loop-test.false))) ∙ c.loop.invariant.rest
