use Rattle.std.proofs.Common.{◌≡◌, ◌<◌, ◌^◌, map}
use Rattle.std.specs.List.{filter, range_with_len}
use Rattle.hfsc_model.specs.Share.{greatest}
use Rattle.hfsc_model.specs.Tree.{class_of, is_child}
use Rattle.fair_shares.specs.Sharing.{step_of}
use Rattle.share_gaps.proofs.gap.most_of.Given as goal

abbrev pub invariant-loop-class : goal.invariant-loop-class
invariant-loop-class l = record {
  is : l.most ≡ greatest (map (λ c. step_of (class_of l.classes c).share l.amount) (filter (is_child l.classes l.parent) (range_with_len 0 l.class-index)));
  small : l.most < 2 ^ 101;
}
