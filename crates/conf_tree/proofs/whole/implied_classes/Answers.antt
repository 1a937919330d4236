use Rattle.std.proofs.Common.{◌≡◌, ℕ, [], ◌∷◌, ◌++◌, Some, None, refl}
use Rattle.std.specs.Prelude.{codes}
use Rattle.conf_tree.specs.declared.interface.Kind.{Kind}
use Rattle.conf_tree.specs.declared.interface.Kind.TheVariants.{Hfsc, Cbq}
use Rattle.conf_tree.specs.Whole.{implied, implied_classes}
use Rattle.conf_tree.proofs.whole.implied_classes.Goals as goal

both : (kind : Kind) (rate : ℕ)
    → ([] ++ implied kind (codes "root") None rate ∷ []) ++ implied kind (codes "default") (Some 0) rate ∷ [] ≡ implied_classes kind rate
both Hfsc rate = refl
both Cbq rate = refl

pub returns : goal.returns
returns c = rw (c.in_ok-push_implied-2.ensures, c.in_ok-push_implied.ensures, c.new-classes.ensures.items) (both c.args.kind c.args.rate)
