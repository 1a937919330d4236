use Rattle.std.proofs.Common.{◌∙◌, ◌++◌, List, Option, take, ap}
use Rattle.fate_timely.specs.declared.given.Late.{Late}
use Rattle.fate_timely.specs.declared.leaf.Leaf.{Leaf}
use Rattle.fate_timely.specs.Dues.{added, listed}
use Rattle.fate_timely.proofs.Listing.{listed_more, same_at}
use Rattle.fate_timely.proofs.timely.lates.Goals as goal

pub loop-class-preserved : goal.loop-class-preserved
loop-class-preserved c =
    let leaves = c.args.leaves.now in let i = c.loop-class.class in
    c.in_ok-add.ensures ∙ ap (λ (xs : List Late). xs ++ added i c.index-leaves-class.result) c.loop-class.invariant
    ∙ ap (λ (o : Option Leaf). listed 0 (take i leaves) ++ added i o) (same_at leaves i c.index-leaves-class.result c.loop-class-test.true c.index-leaves-class.is)
    ∙ listed_more leaves i c.loop-class-test.true
