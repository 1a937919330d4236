use Rattle.std.proofs.Common.{◌≡◌, ◌∙◌, ℕ, List, get_or, ap, sym, arith, drop, ◌+◌}
use Rattle.std.specs.Prelude.{slice_set}
use Rattle.std.proofs.lemmas.List.{length-set}
use Rattle.share_gaps.specs.Serve.{one_less, update_all}
use Rattle.share_gaps.proofs.Updates.{update_here, update_next}
use Rattle.share_gaps.proofs.serve.count_down.Goals as goal

pub loop-class-preserved : goal.loop-class-preserved
loop-class-preserved c =
    let k = c.loop-class.class-index in
    let path = c.args.path.now in
    let i = get_or path k 0 in
    let xs = c.loop-class.waiting in
    let count = c.loop-class.invariant.count in
    let below = c.requires k (omega (arith, c.loop-class-test.true)) in
    let is : c.saturating_sub.result ≡ one_less i (get_or xs i 0) = c.saturating_sub.ensures in
    record {
      rest = ap (λ (n : ℕ). update_all one_less (drop (k + 1) path) (slice_set xs i n)) is
          ∙ sym (ap (λ (ys : List ℕ). update_all one_less (drop (k + 1) path) ys) (update_here one_less i xs 0 (omega (arith, below, count))))
          ∙ sym (update_next one_less path k xs (omega (arith, c.loop-class-test.true)))
          ∙ c.loop-class.invariant.rest;
      count = length-set xs i c.saturating_sub.result ∙ count;
    }
