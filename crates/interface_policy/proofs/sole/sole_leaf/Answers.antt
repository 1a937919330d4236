use Rattle.std.proofs.Common.{◌≡◌, ◌<◌, ◌+◌, ◌∙◌, ℕ, List, arith, length, sym, subst}
use Rattle.interface_policy.proofs.Leaves.{AreCounted, leaf_counted, other_counted}
use Rattle.interface_policy.proofs.sole.sole_leaf.Goals as goal
use Rattle.interface_policy.proofs.sole.sole_leaf.Goals.{then-is_leaf, else-is_leaf}

moved : (xs : List ℕ) (n a b c d : ℕ) → c ≡ a → d ≡ b → AreCounted xs n a b → AreCounted xs n c d
moved xs n a b c d e f k = subst (λ (x : ℕ). AreCounted xs n x d) (sym e) (subst (λ (y : ℕ). AreCounted xs n a y) (sym f) k)

pub loop-number-preserved : goal.loop-number-preserved
loop-number-preserved c =
    let n = c.loop-number.number in
    let count = c.loop-number.count in
    let last = c.loop-number.last in
    let classes = c.args.classes.now in
    let low : n < length classes = omega arith in
    elim c.if-is_leaf.branch [
      | then-is_leaf w ↦
          moved _ _ (count + 1) n _ _ w.count-is w.last-is (leaf_counted classes n count last c.loop-number.invariant low (sym c.is_leaf.ensures ∙ w.if-is_leaf.true))
      | else-is_leaf w ↦
          moved _ _ count last _ _ w.count-is w.last-is (other_counted classes n count last c.loop-number.invariant low (sym c.is_leaf.ensures ∙ w.if-is_leaf.false))
    ]
