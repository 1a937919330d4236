use Rattle.std.proofs.Common.{◌∙◌, subst, List, []}
use Rattle.std.specs.Prelude.{Option}
use Rattle.service_curve.specs.declared.Curve.{Curve}
use Rattle.hfsc_eligible.specs.Eligible.{Represents as HoldsReal}
use Rattle.hfsc_core.proofs.Keeping.{new_stands}
use Rattle.hfsc_core.proofs.chooser.Chooser.build.Goals as goal

pub returns-clause-stands : goal.returns-clause-stands
returns-clause-stands c =
    new_stands _ c.args.classes.now c.requires.classes.tree (c.in_ok-classes.ensures.items_if_clones_equal (λ x y e. e))
    (subst (λ (curves : List (Option Curve)). HoldsReal c.in_ok-eligible.eligible curves []) (c.deref.ensures.value ∙ c.in_ok-curves.ensures) c.in_ok-eligible.ensures.stands)
    c.in_ok-shares.ensures.stands
