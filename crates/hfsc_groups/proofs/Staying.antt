-- A class that is the same to its parent leaves its lists as they are.
use Rattle.std.proofs.Common.{◌≡◌, ◌≤◌, ◌<◌, ℕ, Bool, true, false, List, Some, length, refl, sym, ap, arith, ◌∙◌}
use Rattle.std.specs.Prelude.{Option, ◌==◌, ◌&&◌, max, slice_get, slice_set, if◌then◌else◌}
use Rattle.std.proofs.lemmas.Bool.Decides.{nat_tests}
use Rattle.std.proofs.lemmas.List.{set-get_or}
use Rattle.std.proofs.lemmas.Option.{get_or_from_slice_get}
use Rattle.ranking.specs.Order.{is_in, key_of}
use Rattle.ranking.specs.Ranking.{keys_of, order_of}
use Rattle.ranking.proofs.Ranks.{same_test}
use Rattle.hfsc_model.specs.Tree.{is_number}
use Rattle.hfsc_groups.specs.declared.node.Node.{Node}
use Rattle.hfsc_groups.specs.declared.group.Group.{Group}
use Rattle.hfsc_groups.specs.Node.{active_in, parent_in, time_in, opens_in, is_child_in, is_active_child}
use Rattle.hfsc_groups.specs.Late.{is_late, late_order}
use Rattle.hfsc_groups.specs.Group.{AreRanked, AreRankedIn, GroupHolds, GroupsHold, IsChanged}
use Rattle.hfsc_groups.proofs.Found.{group_of}

-- of a class its parent sees no more than this
pub record IsSame (x y : Node) : Type 0 where
  pub parent : y.parent ≡ x.parent
  pub active : y.active ≡ x.active
  pub time : y.time ≡ x.time
  pub opens : y.opens ≡ x.opens

-- a class that stands in a list stays in it
stays : (class : ℕ) (xs : List ℕ) (b : Bool) → is_in class xs ≡ b → (c : ℕ) → is_in c xs ≡ (if class == c then b else is_in c xs)
stays class xs b i c = go (class == c) refl
  where
    go : (d : Bool) → (class == c) ≡ d → is_in c xs ≡ (if d then b else is_in c xs)
    go true e = let same : c ≡ class = grind (arith, nat_tests, e) in ap (λ n. is_in n xs) same ∙ i
    go false e = refl

high_stays : (high time : ℕ) → time ≤ high → high ≡ max high time
high_stays high time h = omega arith

group_same : (nodes : List Node) (class p : ℕ) (g : Group) (x y : Node) → slice_get nodes class ≡ Some x → GroupHolds nodes p g → x.parent ≡ Some p
    → x.active ≡ true → IsSame x y → IsChanged class y.active y.time y.opens g g
group_same nodes class p g x y at holds of a s = record {
  times = record {
    first = refl;
    count = refl;
    classes = stays class (order_of g.times) y.active (holds.times.exactly class ∙ here ∙ sym awake);
    keyed = holds.times.keys class here ∙ ap (λ n. Some n) (ap time_in at ∙ sym s.time)
        ∙ sym (ap (λ b. if b then Some y.time else key_of (keys_of g.times) class) awake);
    others = λ c n. refl;
  };
  moments = record {
    places = λ c place. place;
    classes = stays class (late_order g.moments) (y.active && is_late y.opens)
        (holds.moments.exactly class ∙ ap (λ b. b && is_late (opens_in (slice_get nodes class))) (here ∙ sym awake)
        ∙ ap (λ (o : Option ℕ). y.active && is_late o) opens);
    keyed = holds.moments.keys class here ∙ opens;
    others = λ c n. refl;
  };
  high = high_stays g.high y.time (let low = holds.high.highest class child in let same = ap time_in at in let time = s.time in omega arith);
}
  where
    child : is_child_in nodes p class ≡ true
    child = ap (λ (o : Option Node). is_number p (parent_in o)) at ∙ ap (is_number p) of ∙ same_test p

    here : is_active_child nodes p class ≡ true
    here = ap (λ b. b && active_in (slice_get nodes class)) child ∙ ap active_in at ∙ a

    awake : y.active ≡ true
    awake = s.active ∙ a

    opens : opens_in (slice_get nodes class) ≡ y.opens
    opens = ap opens_in at ∙ sym s.opens

pub same_ranked : (nodes : List Node) (groups : List Group) (class : ℕ) (x y : Node) → slice_get nodes class ≡ Some x → GroupsHold nodes groups
    → ((p : ℕ) → x.parent ≡ Some p → p < length groups) → x.active ≡ true → IsSame x y → AreRanked class y groups groups
same_ranked nodes groups class x y at holds low a s = record { none = λ e. refl; some = λ p e. ranked p (sym s.parent ∙ e) }
  where
    ranked : (p : ℕ) → x.parent ≡ Some p → AreRankedIn p class y groups groups
    ranked p of =
        let g = group_of groups p (low p of) in
        record {
          old = g.group;
          changed = g.group;
          at = g.at;
          set = sym (ap (λ (h : Group). slice_set groups p h) (sym (get_or_from_slice_get groups p g.group g.group g.at)) ∙ set-get_or groups p g.group);
          change = group_same nodes class p g.group x y at (holds.each p g.group g.at) of a s;
        }
