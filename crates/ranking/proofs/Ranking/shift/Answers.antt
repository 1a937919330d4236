use Rattle.std.proofs.Common.{◌<◌, ◌∙◌, List, None, ℕ, length, ap, arith, refl, subst, sym}
use Rattle.std.specs.Prelude.{slice_set, Option}
use Rattle.std.specs.List.{remove}
use Rattle.std.proofs.lemmas.List.{get_or-set_other, get_or-set_same}
use Rattle.ranking.specs.Keys.{all_keys}
use Rattle.ranking.specs.Order.{is_in, is_ranked, key_of, without}
use Rattle.ranking.proofs.Kept.{put_below, put_ranked, set_length, take_below, take_ranked}
use Rattle.ranking.proofs.Moved.{Shifts, gone, moved_in, others_ranked, shift_found, shift_taken, shift_within, shifted}
use Rattle.ranking.proofs.Ranking.shift.Goals as goal

pub place_beside-to-requires-clause-from : goal.place_beside-to-requires-clause-from
place_beside-to-requires-clause-from c =
    let there = (shift_taken c.args.self.now c.args.class c.args.from c.args.key (record { low = c.requires.class.room; there = c.requires.there; found = c.requires.found })).there in
    subst (λ (xs : List ℕ). c.args.from < length xs) (sym c.deref.ensures.value) there

pub place_beside-to-requires-clause-ranked : goal.place_beside-to-requires-clause-ranked
place_beside-to-requires-clause-ranked c =
    let rest = (shift_taken c.args.self.now c.args.class c.args.from c.args.key (record { low = c.requires.class.room; there = c.requires.there; found = c.requires.found })).rest in
    ap (λ (ks : List (Option ℕ)). is_ranked ks (remove c.deref.result.now c.args.from)) c.set.ensures.keys
    ∙ ap (λ (xs : List ℕ). is_ranked (slice_set (all_keys c.args.self.now.keys) c.args.class c.args.key) (remove xs c.args.from)) c.deref.ensures.value
    ∙ ap (λ (xs : List ℕ). is_ranked (slice_set (all_keys c.args.self.now.keys) c.args.class c.args.key) xs) rest
    ∙ others_ranked (all_keys c.args.self.now.keys) c.args.self.now.order.items c.args.class c.args.key c.args.self.now.ranked

pub move_to-requires-clause-from : goal.move_to-requires-clause-from
move_to-requires-clause-from c =
    (shift_taken c.args.self.now c.args.class c.args.from c.args.key (record { low = c.requires.class.room; there = c.requires.there; found = c.requires.found })).there

pub move_to-requires-clause-to : goal.move_to-requires-clause-to
move_to-requires-clause-to c =
    let s : Shifts c.args.self.now c.args.class c.args.from c.args.key = record { low = c.requires.class.room; there = c.requires.there; found = c.requires.found } in
    shift_within c.args.self.now c.args.class c.args.from c.place_beside-to.result c.args.key s
    (shift_found c.args.self.now c.args.class c.args.from c.place_beside-to.result c.args.key (all_keys c.set.new.self) c.deref.result.now s c.set.ensures.keys c.deref.ensures.value c.place_beside-to.ensures)

pub invariant_of-self : goal.invariant_of-self
invariant_of-self c =
    let keys = all_keys c.args.self.now.keys in
    let after = all_keys c.set.new.self in
    let order = c.args.self.now.order.items in
    let others = without order c.args.class in
    let s : Shifts c.args.self.now c.args.class c.args.from c.args.key = record { low = c.requires.class.room; there = c.requires.there; found = c.requires.found } in
    let items = shifted c.args.self.now c.args.class c.args.from c.place_beside-to.result c.args.key (all_keys c.set.new.self) c.deref.result.now c.move_to.new.order.items s
    c.set.ensures.keys c.deref.ensures.value c.place_beside-to.ensures c.move_to.ensures.items in
    record {
      ranked = put_ranked keys after others c.move_to.new.order.items c.args.class c.args.key c.set.ensures.keys items (gone keys order c.args.class c.args.self.now.ranked)
          (take_ranked keys order others c.args.class refl c.args.self.now.ranked);
      below = put_below keys after others c.move_to.new.order.items c.args.class c.args.key c.set.ensures.keys items c.requires.class.room
          (take_below (length keys) order others c.args.class refl c.args.self.now.below);
      room =
          let room = c.args.self.now.room in
          let same = set_length keys after c.args.class c.args.key c.set.ensures.keys in
          let capacity = c.move_to.ensures.capacity in
          omega arith;
    }

pub returns : goal.returns
returns c =
    let s : Shifts c.args.self.now c.args.class c.args.from c.args.key = record { low = c.requires.class.room; there = c.requires.there; found = c.requires.found } in
    let items = shifted c.args.self.now c.args.class c.args.from c.place_beside-to.result c.args.key (all_keys c.set.new.self) c.deref.result.now c.move_to.new.order.items s
    c.set.ensures.keys c.deref.ensures.value c.place_beside-to.ensures c.move_to.ensures.items in
    record {
      first = c.set.ensures.first;
      count = set_length (all_keys c.args.self.now.keys) (all_keys c.set.new.self) c.args.class c.args.key c.set.ensures.keys;
      classes = λ d. ap (λ (xs : List ℕ). is_in d xs) items
          ∙ moved_in (all_keys c.args.self.now.keys) (slice_set (all_keys c.args.self.now.keys) c.args.class c.args.key) c.args.self.now.order.items c.args.class d c.args.self.now.ranked;
      keyed = ap (λ (ks : List (Option ℕ)). key_of ks c.args.class) c.set.ensures.keys
          ∙ get_or-set_same (all_keys c.args.self.now.keys) c.args.class c.args.key None c.requires.class.room;
      others = λ d n. ap (λ (ks : List (Option ℕ)). key_of ks d) c.set.ensures.keys
          ∙ get_or-set_other (all_keys c.args.self.now.keys) c.args.class d c.args.key None n;
    }
