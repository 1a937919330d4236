use Rattle.std.proofs.Common.{◌≡◌, length, drop}
use Rattle.share_gaps.specs.Serve.{one_more, update_all}
use Rattle.share_gaps.proofs.serve.count_up.Given as goal

abbrev pub invariant-loop-class : goal.invariant-loop-class
invariant-loop-class l = record {
  rest : update_all one_more (drop l.class-index l.path) l.waiting ≡ update_all one_more l.path l.initial.waiting;
  count : length l.waiting ≡ length l.initial.waiting;
}
