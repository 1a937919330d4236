use Rattle.std.proofs.Common.{◌≡◌, ◌∙◌, ap, sym, subst, arith, length, replicate, List, []}
use Rattle.leaf_queue.specs.declared.node.Entry.{Entry}
use Rattle.class_rows.specs.Rows.{Fit, RowsStand, limits_of, limits_sum}
use Rattle.class_rows.proofs.RowLemmas.{fit_none, rows_none, shown_none}
use Rattle.class_rows.proofs.rows.ClassQueues.build.Goals as goal

pub invariant_of-result : goal.invariant_of-result
invariant_of-result g c =
    let count : c.len.result ≡ length c.args.queues.items = omega arith in
    let lists : c.in_ok-lists.lists.lists ≡ replicate (length c.args.queues.items) [] = c.in_ok-lists.ensures.empty ∙ ap (λ n. replicate n []) count in
    let P : List (List Entry) → Type 0 = λ ls. Fit g.Q.QueueRule.most c.args.queues.items c.args.holds.items ls in
    record {
      fit = subst P (sym lists) (fit_none g.Q.QueueRule.most c.args.queues.items c.args.holds.items c.requires.one_each);
      sum = c.sum_of-room.ensures.sum ∙ ap (λ qs. limits_sum (limits_of g.Q.QueueRule.most qs c.deref-2.result.now)) c.deref.ensures.value
          ∙ ap (λ hs. limits_sum (limits_of g.Q.QueueRule.most c.args.queues.items hs)) c.deref-2.ensures.value;
      there = omega (arith, c.in_ok-lists.ensures.room);
      bound = c.sum_of-room.ensures.bound;
      count_bound = c.requires.most;
    }

pub returns-clause-recorded : goal.returns-clause-recorded
returns-clause-recorded g c =
    let count : c.len.result ≡ length c.args.queues.items = omega arith in
    let lists : c.in_ok-lists.lists.lists ≡ replicate (length c.args.queues.items) [] = c.in_ok-lists.ensures.empty ∙ ap (λ n. replicate n []) count in
    let P : List (List Entry) → Type 0 = λ ls. RowsStand g.Q.QueueRule.stands c.args.first c.args.queues.items ls [] in
    record {
      shown = shown_none c.args.first (length c.args.queues.items) c.in_ok-lists.lists.lists lists;
      rows = subst P (sym lists) (rows_none g.Q.QueueRule.stands c.args.first c.args.queues.items (λ k d l. (c.requires.queues k d l).recorded));
    }
