use Rattle.std.proofs.Common.{◌≡◌, ◌∙◌, ℕ, Bool, List, ap, arith, length, replicate, set}
use Rattle.std.specs.Prelude.{true, false}
use Rattle.class_rows.specs.Rows.{ClassQueuesView, limit_at, limits_of}
use Rattle.one_queue.proofs.SingleLemmas.{new_single, one_limit}
use Rattle.one_queue.proofs.single.OneQueue.build.Goals as goal

pub invariant_of-result : goal.invariant_of-result
invariant_of-result g c =
    let r : ClassQueuesView g.row.Q.Denot = c.in_ok-rows.rows in
    let same : length r.queues ≡ length c.args.queues.items = ap (λ (qs : List g.row.Q.Denot). length qs) c.in_ok-rows.ensures.queues in
    let count : c.len.result ≡ length r.queues = omega (arith, same) in
    let holds = c.in_ok-rows.ensures.holds ∙ c.in_ok-holds.ensures ∙ ap (λ (n : ℕ). set (replicate n false) c.args.class true) count in
    new_single g.Q.QueueRule.stands c.args.class r (omega (arith, same)) c.in_ok-rows.ensures.first holds c.in_ok-rows.ensures.recorded

pub returns-clause-limit : goal.returns-clause-limit
returns-clause-limit g c =
    let r : ClassQueuesView g.row.Q.Denot = c.in_ok-rows.rows in
    let most = g.Q.QueueRule.most in
    let count : c.len.result ≡ length c.args.queues.items = omega arith in
    let holds = c.in_ok-rows.ensures.holds ∙ c.in_ok-holds.ensures ∙ ap (λ (n : ℕ). set (replicate n false) c.args.class true) count in
    ap (λ (n : ℕ). limit_at n (limits_of most r.queues r.holds) c.args.class) c.in_ok-rows.ensures.first
    ∙ ap (λ (hs : List Bool). limit_at 0 (limits_of most r.queues hs) c.args.class) holds
    ∙ ap (λ (qs : List g.row.Q.Denot). limit_at 0 (limits_of most qs (set (replicate (length c.args.queues.items) false) c.args.class true)) c.args.class) c.in_ok-rows.ensures.queues
    ∙ one_limit most 0 c.args.queues.items c.args.class c.args.class c.requires.class (omega arith)
