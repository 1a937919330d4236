use Rattle.std.proofs.Common.{◌≡◌, ◌∙◌, List, ℕ, length, ap, arith}
use Rattle.std.specs.Vec.{vec_len}
use Rattle.ranking.specs.Keys.{all_keys}
use Rattle.ranking.specs.Order.{is_in, without}
use Rattle.ranking.proofs.Ranks.{ranked_true, without_in}
use Rattle.ranking.proofs.Kept.{take_only, take_ranked, take_below}
use Rattle.ranking.proofs.Ranking.take_last.Goals as goal

rest : (c : goal.After-pop) → c.pop.new.self.items ≡ without c.args.self.now.order.items c.args.class
rest c =
    let alone = c.requires.alone in
    let one : vec_len c.args.self.now.order ≡ 1 = omega arith in
    take_only c.args.self.now.order.items c.pop.new.self.items c.args.class (vec_len c.args.self.now.order) alone one c.requires.there c.pop.ensures.rest

pub invariant_of-self : goal.invariant_of-self
invariant_of-self c = record {
  ranked = take_ranked (all_keys c.args.self.now.keys) c.args.self.now.order.items c.pop.new.self.items c.args.class (rest c) c.args.self.now.ranked;
  below = take_below (length (all_keys c.args.self.now.keys)) c.args.self.now.order.items c.pop.new.self.items c.args.class (rest c) c.args.self.now.below;
  room = let room = c.args.self.now.room in let same = c.pop.ensures.capacity in omega arith;
}

pub returns-clause-order : goal.returns-clause-order
returns-clause-order c =
    let alone = c.requires.alone in
    let one : vec_len c.args.self.now.order ≡ 1 = omega arith in
    take_only c.args.self.now.order.items c.pop.new.self.items c.args.class (vec_len c.args.self.now.order) alone one c.requires.there c.pop.ensures.rest

pub returns-clause-classes : goal.returns-clause-classes
returns-clause-classes c = λ d.
    ap (λ (xs : List ℕ). is_in d xs) (returns-clause-order c)
    ∙ without_in (all_keys c.args.self.now.keys) c.args.self.now.order.items c.args.class d
    (ranked_true (all_keys c.args.self.now.keys) c.args.self.now.order.items c.args.self.now.ranked)
