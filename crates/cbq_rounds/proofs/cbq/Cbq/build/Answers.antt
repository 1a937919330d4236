use Rattle.std.proofs.Common.{◌≡◌, ◌∙◌, ℕ, Bool, List, ap, arith, length, replicate, Some}
use Rattle.std.specs.Prelude.{true}
use Rattle.class_rows.specs.Rows.{ClassQueuesView, limit_at, limits_of}
use Rattle.class_rows.proofs.RowLemmas.{all_limits}
use Rattle.cbq_sharing.specs.Shared.{Shared}
use Rattle.cbq_rounds.proofs.BuildLemmas.{IsBuilt, hold_all, is_ruling, stands_empty}
use Rattle.cbq_rounds.proofs.cbq.Cbq.build.Given as given
use Rattle.cbq_rounds.proofs.cbq.Cbq.build.Goals as goal
use Rattle.cbq_rounds.proofs.cbq.Cbq.build.Goals.{In_ok-shares}

-- it is built of its classes and its queues, each of which holds packets
built : (g : given.Over) (c : In_ok-shares g) → IsBuilt g.Q.QueueRule.stands c.args.rate c.args.classes.now c.in_ok-shares.shares c.in_ok-rows.rows
built g c =
    let r : ClassQueuesView g.row.Q.Denot = c.in_ok-rows.rows in
    let count : c.len.result ≡ length c.args.classes.now = omega (arith, c.requires.one_each) in
    let all : r.holds ≡ replicate (length c.args.classes.now) true =
    c.in_ok-rows.ensures.holds ∙ c.in_ok-holds.ensures.items_if_clones_equal (λ y e. e) ∙ ap (λ k. replicate k true) count in
    record {
      some = omega (arith, c.requires.least);
      is = c.in_ok-shares.ensures;
      recorded = c.in_ok-rows.ensures.recorded;
      classes = hold_all r c.args.classes.now c.in_ok-rows.ensures.first all;
    }

pub invariant_of-result : goal.invariant_of-result
invariant_of-result g c =
    let r : ClassQueuesView g.row.Q.Denot = c.in_ok-rows.rows in
    is_ruling g.Q.QueueRule.stands c.args.rate c.args.classes.now c.in_ok-shares.shares r (built g (goal.at.invariant_of-result g c).In_ok-shares)
    (record { waiting = c.none-2.result; held = c.in_ok-held.held; sets = c.in_ok-rings.rings.sets.items; tops = c.in_ok-rings.rings.tops.items })
    (record { none_waits = c.none-2.ensures; none_held = c.in_ok-held.ensures; rings = c.in_ok-rings.ensures })
    c.in_ok-rows.ensures.first (ap (λ (qs : List g.row.Q.Denot). length qs) c.in_ok-rows.ensures.queues ∙ c.requires.one_each) c.requires.few

pub returns-clause-empty : goal.returns-clause-empty
returns-clause-empty g c =
    stands_empty g.Q.QueueRule.stands c.args.rate c.args.classes.now c.in_ok-shares.shares c.in_ok-rows.rows (built g (goal.at.returns-clause-empty g c).In_ok-shares)
    g.Q.QueueRule.says

pub returns-clause-limits : goal.returns-clause-limits
returns-clause-limits g c =
    let r : ClassQueuesView g.row.Q.Denot = c.in_ok-rows.rows in
    let n : ℕ = length c.args.queues.items in
    let count : c.len.result ≡ n = omega arith in
    let all : r.holds ≡ replicate n true = c.in_ok-rows.ensures.holds ∙ c.in_ok-holds.ensures.items_if_clones_equal (λ y e. e) ∙ ap (λ k. replicate k true) count in
    ap (λ (f : ℕ). limit_at f (limits_of g.Q.QueueRule.most r.queues r.holds)) c.in_ok-rows.ensures.first
    ∙ ap (λ (hs : List Bool). limit_at 0 (limits_of g.Q.QueueRule.most r.queues hs)) all
    ∙ ap (λ (qs : List g.row.Q.Denot). limit_at 0 (limits_of g.Q.QueueRule.most qs (replicate n true))) c.in_ok-rows.ensures.queues
    ∙ ap (limit_at 0) (all_limits g.Q.QueueRule.most c.args.queues.items)

pub returns-clause-rate : goal.returns-clause-rate
returns-clause-rate g c = ap (λ (s : Shared). Some s.rate) c.in_ok-shares.ensures
