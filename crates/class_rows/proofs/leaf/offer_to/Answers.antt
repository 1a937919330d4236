use Rattle.std.proofs.Common.{◌≡◌, ◌∙◌, ap, arith, length, sym}
use Rattle.altq_model.specs.History.{is_kept}
use Rattle.leaf_queue.specs.Lists.{list_of}
use Rattle.class_rows.proofs.LeafLemmas.{all_wait}
use Rattle.class_rows.proofs.leaf.offer_to.Goals as goal

pub offer-verdict-requires-clause-room : goal.offer-verdict-requires-clause-room
offer-verdict-requires-clause-room g c =
    omega (arith, all_wait c.waiting-waiting.result (list_of c.args.lists.now.lists c.args.place) c.waiting-waiting.ensures, c.requires.bounded)

pub push-requires-clause-room : goal.push-requires-clause-room
push-requires-clause-room g c =
    let all = all_wait c.waiting-waiting.result (list_of c.args.lists.now.lists c.args.place) c.waiting-waiting.ensures in
    let less : length (list_of c.args.lists.now.lists c.args.place) ≡ g.Q.QueueRule.most c.args.queue.now → ⊥ =
    λ e. let full = ap is_kept (c.offer-verdict.ensures.full.1 (all ∙ e)) in (cc) in
    c.requires.room (omega (arith, less, c.requires.bounded))

pub returns-then-is_kept-clause-full : goal.returns-then-is_kept-clause-full
returns-then-is_kept-clause-full g c =
    let all = all_wait c.waiting-waiting.result (list_of c.args.lists.now.lists c.args.place) c.waiting-waiting.ensures in
    (λ e. sym all ∙ c.offer-verdict.ensures.full.0 e, λ e. c.offer-verdict.ensures.full.1 (all ∙ e))

pub returns-else-is_kept-clause-full : goal.returns-else-is_kept-clause-full
returns-else-is_kept-clause-full g c =
    let all = all_wait c.waiting-waiting.result (list_of c.args.lists.now.lists c.args.place) c.waiting-waiting.ensures in
    (λ e. sym all ∙ c.offer-verdict.ensures.full.0 e, λ e. c.offer-verdict.ensures.full.1 (all ∙ e))
