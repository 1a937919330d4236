use Rattle.std.proofs.Common.{◌≡◌, ◌∙◌, List, None, ℕ, ap, sym, arith}
use Rattle.std.specs.Prelude.{slice_set, Option}
use Rattle.std.proofs.lemmas.List.{get_or-set_same}
use Rattle.ranking.specs.Keys.{all_keys}
use Rattle.ranking.specs.Order.{is_ranked, key_of, with_class}
use Rattle.ranking.proofs.Kept.{put_before, put_in, put_ranked, put_below, put_room, set_length}
use Rattle.ranking.proofs.Ranking.put_among.Goals as goal

pub place_of-place-requires-clause-ranked : goal.place_of-place-requires-clause-ranked
place_of-place-requires-clause-ranked c =
    let e = put_before (all_keys c.args.self.now.keys) c.args.self.now.order.items c.args.class c.args.key c.requires.absent c.args.self.now.ranked in
    ap (λ (ks : List (Option ℕ)). is_ranked ks c.deref.result.now) c.set.ensures.keys
    ∙ ap (λ (xs : List ℕ). is_ranked (slice_set (all_keys c.args.self.now.keys) c.args.class c.args.key) xs) c.deref.ensures.value
    ∙ e

pub place_of-place-requires-clause-key : goal.place_of-place-requires-clause-key
place_of-place-requires-clause-key c =
    sym (ap (λ (ks : List (Option ℕ)). key_of ks c.args.class) c.set.ensures.keys
    ∙ get_or-set_same (all_keys c.args.self.now.keys) c.args.class c.args.key None c.requires.class.room)

pub put_at-requires-clause-room : goal.put_at-requires-clause-room
put_at-requires-clause-room c =
    let short = put_room (all_keys c.args.self.now.keys) c.args.self.now.order.items c.args.class c.args.self.now.ranked c.args.self.now.below c.requires.class.room c.requires.absent in
    let room = c.args.self.now.room in
    omega arith

items : (c : goal.After-put_at) → c.put_at.new.order.items ≡ with_class (slice_set (all_keys c.args.self.now.keys) c.args.class c.args.key) c.args.self.now.order.items c.args.class
items c =
    c.put_at.ensures.items
    ∙ put_in (slice_set (all_keys c.args.self.now.keys) c.args.class c.args.key) (all_keys c.set.new.self) c.args.self.now.order.items c.deref.result.now c.args.class
    c.place_of-place.result c.set.ensures.keys c.deref.ensures.value c.place_of-place.ensures

pub invariant_of-self : goal.invariant_of-self
invariant_of-self c = record {
  ranked = put_ranked (all_keys c.args.self.now.keys) (all_keys c.set.new.self) c.args.self.now.order.items c.put_at.new.order.items c.args.class c.args.key c.set.ensures.keys (items c) c.requires.absent c.args.self.now.ranked;
  below = put_below (all_keys c.args.self.now.keys) (all_keys c.set.new.self) c.args.self.now.order.items c.put_at.new.order.items c.args.class c.args.key c.set.ensures.keys (items c) c.requires.class.room c.args.self.now.below;
  room =
      let room = c.args.self.now.room in
      let more = c.put_at.ensures.capacity in
      let same = set_length (all_keys c.args.self.now.keys) (all_keys c.set.new.self) c.args.class c.args.key c.set.ensures.keys in
      omega arith;
}

pub returns-clause-order : goal.returns-clause-order
returns-clause-order c =
    c.put_at.ensures.items
    ∙ put_in (slice_set (all_keys c.args.self.now.keys) c.args.class c.args.key) (all_keys c.set.new.self) c.args.self.now.order.items c.deref.result.now c.args.class
    c.place_of-place.result c.set.ensures.keys c.deref.ensures.value c.place_of-place.ensures
    ∙ ap (λ (ks : List (Option ℕ)). with_class ks c.args.self.now.order.items c.args.class) (sym c.set.ensures.keys)
