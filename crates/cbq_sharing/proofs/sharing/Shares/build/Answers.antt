use Rattle.std.proofs.Common.{◌≤◌, ◌∙◌, List, ap, arith, length, map}
use Rattle.std.proofs.lemmas.List.{take_all}
use Rattle.cbq_model.specs.declared.CbqClass.{CbqClass}
use Rattle.cbq_sharing.specs.Fresh.{fresh_estimate}
use Rattle.cbq_sharing.specs.Shared.{fixed_of}
use Rattle.cbq_sharing.proofs.BuildLemmas.{is_shared, lender_below}
use Rattle.cbq_sharing.proofs.sharing.Shares.build.Goals as goal

pub fixed_of-requires-clause-lender : goal.fixed_of-requires-clause-lender
fixed_of-requires-clause-lender c = λ p e. lender_below c.args.classes.now c.loop-class.class-index p c.requires.parents e

pub invariant_of-result : goal.invariant_of-result
invariant_of-result c =
    let cs : List CbqClass = c.args.classes.now in
    let all : length cs ≤ c.loop-class.class-index = omega (arith, c.loop-class-test.false) in
    is_shared c.args.rate cs c.in_ok-classes.classes.items c.loop-class.estimators.items c.loop-class.fixed.items c.in_ok-credits.credits.items c.in_ok-cursors.cursors.items
    c.requires.least c.requires.most c.requires.few c.requires.parents c.requires.classes c.in_ok-classes.ensures.items
    (c.loop-class.invariant.0 ∙ ap (λ (ks : List CbqClass). map fresh_estimate ks) (take_all c.loop-class.class-index cs all))
    (c.loop-class.invariant.1 ∙ ap (λ (ks : List CbqClass). map (fixed_of c.args.rate cs) ks) (take_all c.loop-class.class-index cs all))
    (c.in_ok-credits.ensures.items_if_clones_equal (λ y e. e)) (c.in_ok-cursors.ensures.items_if_clones_equal (λ y e. e))
