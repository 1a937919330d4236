use Rattle.std.proofs.Common.{◌≡◌, length, drop}
use Rattle.share_gaps.specs.Serve.{one_less, update_all}
use Rattle.share_gaps.proofs.serve.count_down.Given as goal

abbrev pub invariant-loop-class : goal.invariant-loop-class
invariant-loop-class l = record {
  rest : update_all one_less (drop l.class-index l.path) l.waiting ≡ update_all one_less l.path l.initial.waiting;
  count : length l.waiting ≡ length l.initial.waiting;
}
