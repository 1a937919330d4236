use Rattle.std.proofs.Common.{refl, subst, ◌∷◌}
use Rattle.service_curve.specs.declared.Curve.{Curve}
use Rattle.runtime_curve.specs.Held.{Stand, three}
use Rattle.runtime_curve.specs.Opening.{opening}
use Rattle.runtime_curve.specs.Running.{last_of}
use Rattle.runtime_curve.proofs.Answered.{may_follow, begun_stands, kept_stands}
use Rattle.runtime_curve.proofs.Running.begin.Goals as goal

pub add_opening-requires-clause-follows : goal.add_opening-requires-clause-follows
unfolding last_of
add_opening-requires-clause-follows c = may_follow _ _ c.requires.later

pub returns-clause-opened : goal.returns-clause-opened
returns-clause-opened c = λ s os stands.
    begun_stands _ _ s os _ stands refl c.add_opening.ensures.last
    (subst (λ (x : Curve). Stand x (three c.add_opening.new.kept) (opening c.args.at c.args.count ∷ os)) stands.curve
    (c.add_opening.ensures.opened os (kept_stands c.args.self.now s os stands)))

pub returns-clause-last : goal.returns-clause-last
unfolding last_of
returns-clause-last c = c.add_opening.ensures.last
