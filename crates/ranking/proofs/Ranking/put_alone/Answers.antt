use Rattle.std.proofs.Common.{◌≡◌, ◌∙◌, List, ℕ, ap, sym, arith}
use Rattle.std.specs.Prelude.{slice_set, Option}
use Rattle.ranking.specs.Keys.{all_keys}
use Rattle.ranking.specs.Order.{with_class}
use Rattle.ranking.proofs.Kept.{put_below, put_first, put_ranked, set_length}
use Rattle.ranking.proofs.Ranking.put_alone.Goals as goal

pub put_last-requires : goal.put_last-requires
put_last-requires c =
    let empty = c.requires.empty in
    let class = c.requires.class.room in
    let room = c.args.self.now.room in
    omega arith

items : (c : goal.After-put_last) → c.put_last.new.order.items ≡ with_class (slice_set (all_keys c.args.self.now.keys) c.args.class c.args.key) c.args.self.now.order.items c.args.class
items c =
    put_first (slice_set (all_keys c.args.self.now.keys) c.args.class c.args.key) c.args.self.now.order.items c.put_last.new.order.items c.args.class c.requires.empty c.put_last.ensures.items

pub invariant_of-self : goal.invariant_of-self
invariant_of-self c = record {
  ranked = put_ranked (all_keys c.args.self.now.keys) (all_keys c.set.new.self) c.args.self.now.order.items c.put_last.new.order.items c.args.class c.args.key c.set.ensures.keys (items c) c.requires.absent c.args.self.now.ranked;
  below = put_below (all_keys c.args.self.now.keys) (all_keys c.set.new.self) c.args.self.now.order.items c.put_last.new.order.items c.args.class c.args.key c.set.ensures.keys (items c) c.requires.class.room c.args.self.now.below;
  room =
      let room = c.args.self.now.room in
      let more = c.put_last.ensures.capacity in
      let same = set_length (all_keys c.args.self.now.keys) (all_keys c.set.new.self) c.args.class c.args.key c.set.ensures.keys in
      omega arith;
}

pub returns-clause-order : goal.returns-clause-order
returns-clause-order c =
    put_first (slice_set (all_keys c.args.self.now.keys) c.args.class c.args.key) c.args.self.now.order.items c.put_last.new.order.items c.args.class c.requires.empty c.put_last.ensures.items
    ∙ ap (λ (ks : List (Option ℕ)). with_class ks c.args.self.now.order.items c.args.class) (sym c.set.ensures.keys)
