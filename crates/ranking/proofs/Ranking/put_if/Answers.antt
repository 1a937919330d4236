use Rattle.std.proofs.Common.{◌∙◌, ap, sym, List, ℕ, Bool}
use Rattle.std.specs.Prelude.{◌==◌, if◌then◌else◌}
use Rattle.ranking.specs.Order.{is_in}
use Rattle.ranking.specs.Ranking.{order_of}
use Rattle.ranking.proofs.Ranks.{with_in}
use Rattle.ranking.proofs.Ranking.put_if.Goals as goal

pub returns-then-is-clause-classes : goal.returns-then-is-clause-classes
returns-then-is-clause-classes c = λ d.
    ap (λ (xs : List ℕ). is_in d xs) c.put.ensures.order ∙ with_in _ (order_of c.args.self.now) c.args.class d
    ∙ ap (λ (b : Bool). if c.args.class == d then b else is_in d (order_of c.args.self.now)) (sym c.if-is.true)
