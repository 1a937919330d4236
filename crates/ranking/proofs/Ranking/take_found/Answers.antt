use Rattle.std.proofs.Common.{◌≡◌, ◌∙◌, List, ℕ, length, ap, arith}
use Rattle.ranking.specs.Keys.{all_keys}
use Rattle.ranking.specs.Order.{is_in, without}
use Rattle.ranking.proofs.Placed.{taken_found}
use Rattle.ranking.proofs.Ranks.{ranked_true, without_in}
use Rattle.ranking.proofs.Kept.{take_ranked, take_below}
use Rattle.ranking.proofs.Ranking.take_found.Goals as goal

pub take_at-requires : goal.take_at-requires
take_at-requires c =
    (taken_found (all_keys c.args.self.now.keys) c.args.self.now.order.items c.args.class c.args.place
    (ranked_true (all_keys c.args.self.now.keys) c.args.self.now.order.items c.args.self.now.ranked) c.requires.there c.requires.found).there

rest : (c : goal.After-take_at) → c.take_at.new.order.items ≡ without c.args.self.now.order.items c.args.class
rest c =
    c.take_at.ensures.items
    ∙ (taken_found (all_keys c.args.self.now.keys) c.args.self.now.order.items c.args.class c.args.place
    (ranked_true (all_keys c.args.self.now.keys) c.args.self.now.order.items c.args.self.now.ranked) c.requires.there c.requires.found).rest

pub invariant_of-self : goal.invariant_of-self
invariant_of-self c = record {
  ranked = take_ranked (all_keys c.args.self.now.keys) c.args.self.now.order.items c.take_at.new.order.items c.args.class (rest c) c.args.self.now.ranked;
  below = take_below (length (all_keys c.args.self.now.keys)) c.args.self.now.order.items c.take_at.new.order.items c.args.class (rest c) c.args.self.now.below;
  room = let room = c.args.self.now.room in let same = c.take_at.ensures.capacity in omega arith;
}

pub returns-clause-order : goal.returns-clause-order
returns-clause-order c =
    c.take_at.ensures.items
    ∙ (taken_found (all_keys c.args.self.now.keys) c.args.self.now.order.items c.args.class c.args.place
    (ranked_true (all_keys c.args.self.now.keys) c.args.self.now.order.items c.args.self.now.ranked) c.requires.there c.requires.found).rest

pub returns-clause-classes : goal.returns-clause-classes
returns-clause-classes c = λ d.
    ap (λ (xs : List ℕ). is_in d xs) (returns-clause-order c)
    ∙ without_in (all_keys c.args.self.now.keys) c.args.self.now.order.items c.args.class d
    (ranked_true (all_keys c.args.self.now.keys) c.args.self.now.order.items c.args.self.now.ranked)
