use Rattle.std.proofs.Common.{◌≡◌, ◌≤◌, ◌<◌, ◌∙◌, ℕ, Bool, false, Some, length, take, ap, arith, sym}
use Rattle.std.specs.Prelude.{slice_get, slice_index_or}
use Rattle.std.proofs.lemmas.List.Elements.{All-get_or}
use Rattle.std.proofs.lemmas.Option.{slice_get-get_or}
use Rattle.class_rows.specs.Rows.{limits_of, limits_sum}
use Rattle.class_rows.proofs.RowLemmas.{all_sum, most_small, sum_next}
use Rattle.class_rows.proofs.rows.sum_of.Goals as goal

pub loop-place-preserved : goal.loop-place-preserved
loop-place-preserved g c =
    let most = g.Q.QueueRule.most in
    let k = c.loop-place.place in
    let q = c.index-queues-place.result in
    let h : Bool = slice_index_or c.args.holds.now k false in
    let there : slice_get c.args.queues.now k ≡ Some q =
    slice_get-get_or c.args.queues.now k q c.loop-place-test.true ∙ ap Some (sym c.index-queues-place.is) in
    let inside : k < length c.args.holds.now = omega (arith, c.loop-place-test.true, c.requires.one_each) in
    let held : slice_get c.args.holds.now k ≡ Some h = slice_get-get_or c.args.holds.now k false inside in
    let one = All-get_or (λ (x : g.row.Q.Denot). most x ≤ 10000) c.args.queues.now k q c.loop-place-test.true c.requires.limits in
    let small : most q ≤ 10000 = omega (arith, ap most c.index-queues-place.is, one) in
    record {
      sum = omega (arith, sum_next most c.args.queues.now c.args.holds.now k q h there held, c.most_of-sum.ensures, c.loop-place.invariant.sum);
      bound = omega (arith, c.most_of-sum.ensures, most_small most q h, small, c.loop-place.invariant.bound);
    }

pub returns-clause-sum : goal.returns-clause-sum
returns-clause-sum g c =
    let most = g.Q.QueueRule.most in
    let end : c.loop-place.place ≡ length c.args.queues.now = omega arith in
    c.loop-place.invariant.sum
    ∙ ap (λ (k : ℕ). limits_sum (limits_of most (take k c.args.queues.now) (take k c.args.holds.now))) end
    ∙ all_sum most c.args.queues.now c.args.holds.now c.requires.one_each
