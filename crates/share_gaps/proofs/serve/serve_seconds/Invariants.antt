use Rattle.std.proofs.Common.{◌≡◌, length, drop}
use Rattle.share_gaps.specs.Serve.{second_served, update_all}
use Rattle.share_gaps.proofs.serve.serve_seconds.Given as goal

abbrev pub invariant-loop-row : goal.invariant-loop-row
invariant-loop-row l = record {
  rest : update_all (second_served l.siblings l.waiting l.rates l.amount) (drop l.row-index l.rows) l.leads
      ≡ update_all (second_served l.siblings l.waiting l.rates l.amount) l.rows l.initial.leads;
  count : length l.leads ≡ length l.initial.leads;
}
