use Rattle.std.proofs.Common.{◌≡◌, ◌∙◌, ℕ, Bool, List, ap, arith, length, map, replicate}
use Rattle.std.specs.Prelude.{true}
use Rattle.altq_model.specs.Policies.{strict}
use Rattle.leaf_queue.specs.Queue.{by_queues}
use Rattle.class_rows.specs.Rows.{ClassQueuesView, holding, limit_at, limits_of}
use Rattle.class_rows.proofs.RowLemmas.{all_limits}
use Rattle.plain_disciplines.specs.Strict.{classes_from}
use Rattle.plain_disciplines.proofs.StrictLemmas.{all_hold, plain}
use Rattle.plain_disciplines.proofs.strict.Strict.build.Goals as goal

pub returns-clause-empty : goal.returns-clause-empty
returns-clause-empty g c = record {
  recorded = c.in_ok-rows.ensures.recorded;
  orderly = tt;
  plain = plain g.Q.QueueRule.stands g.Q.QueueRule.says (record { rule = c.args.rule; rows = c.in_ok-rows.rows });
}

pub returns-clause-policy : goal.returns-clause-policy
returns-clause-policy g c =
    let r : ClassQueuesView g.row.Q.Denot = c.in_ok-rows.rows in
    let n : ℕ = length c.args.queues.items in
    let count : c.len.result ≡ n = omega arith in
    let all : r.holds ≡ replicate n true = c.in_ok-rows.ensures.holds ∙ c.in_ok-holds.ensures.items_if_clones_equal (λ y e. e) ∙ ap (λ k. replicate k true) count in
    ap (λ (f : ℕ). strict (holding f r.holds) c.args.rule (by_queues f (map g.Q.QueueRule.says r.queues))) c.in_ok-rows.ensures.first
    ∙ ap (λ (hs : List Bool). strict (holding c.args.first hs) c.args.rule (by_queues c.args.first (map g.Q.QueueRule.says r.queues))) all
    ∙ ap (λ (cs : List ℕ). strict cs c.args.rule (by_queues c.args.first (map g.Q.QueueRule.says r.queues))) (all_hold c.args.first n)
    ∙ ap (λ (qs : List g.row.Q.Denot). strict (classes_from c.args.first n) c.args.rule (by_queues c.args.first (map g.Q.QueueRule.says qs))) c.in_ok-rows.ensures.queues

pub returns-clause-limits : goal.returns-clause-limits
returns-clause-limits g c =
    let r : ClassQueuesView g.row.Q.Denot = c.in_ok-rows.rows in
    let n : ℕ = length c.args.queues.items in
    let count : c.len.result ≡ n = omega arith in
    let all : r.holds ≡ replicate n true = c.in_ok-rows.ensures.holds ∙ c.in_ok-holds.ensures.items_if_clones_equal (λ y e. e) ∙ ap (λ k. replicate k true) count in
    ap (λ (f : ℕ). limit_at f (limits_of g.Q.QueueRule.most r.queues r.holds)) c.in_ok-rows.ensures.first
    ∙ ap (λ (hs : List Bool). limit_at c.args.first (limits_of g.Q.QueueRule.most r.queues hs)) all
    ∙ ap (λ (qs : List g.row.Q.Denot). limit_at c.args.first (limits_of g.Q.QueueRule.most qs (replicate n true))) c.in_ok-rows.ensures.queues
    ∙ ap (limit_at c.args.first) (all_limits g.Q.QueueRule.most c.args.queues.items)
