-- A queue and its list.
use Rattle.std.proofs.Common.{◌≡◌, ◌∙◌, List, [], ◌∷◌, length, refl, ap, arith}
use Rattle.leaf_queue.specs.declared.node.Entry.{Entry}
use Rattle.leaf_queue.specs.declared.rule.Waiting.{Waiting}
use Rattle.leaf_queue.specs.Lists.{precs_in}
use Rattle.leaf_queue.specs.Queue.{waiting_of}

pub precs-length : (xs : List Entry) → length (precs_in xs) ≡ length xs
precs-length [] = refl
precs-length (x ∷ xs) = omega (arith, precs-length xs)

-- all of a list wait
pub all_wait : (w : Waiting) (xs : List Entry) → w ≡ waiting_of (precs_in xs) → w.all ≡ length xs
all_wait w xs e = ap (λ (v : Waiting). v.all) e ∙ precs-length xs
