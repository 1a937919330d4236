-- Lists of classes.
use Rattle.std.proofs.Common.{◌≡◌, ◌<◌, inl, inr, ℕ, zero, suc, true, false, List, [], ◌∷◌, None, Some, length, get_or, refl, sym, ap, arith, ◌∙◌}
use Rattle.std.specs.Prelude.{Option, ◌&&◌, slice_get}
use Rattle.std.proofs.lemmas.Bool.{cases_lt}
use Rattle.std.proofs.lemmas.Option.{slice_get_past}
use Rattle.ranking.specs.Order.{is_in}
use Rattle.ranking.specs.declared.Ranking.{Ranking}
use Rattle.ranking.specs.Ranking.{order_of}
use Rattle.hfsc_model.specs.Tree.{is_number}
use Rattle.hfsc_groups.specs.declared.node.Node.{Node}
use Rattle.hfsc_groups.specs.Node.{active_in, parent_in, is_active_child}
use Rattle.hfsc_groups.specs.Group.{Ranks}
use Rattle.hfsc_groups.specs.declared.late.LimitedChildren.{LimitedChildren}
use Rattle.hfsc_groups.specs.Late.{late_keys, late_order}
use Rattle.ranking.specs.Search.{IsRanked}
use Rattle.ranking.proofs.Ranks.{ranked_true, same_test, in_more}

pub item_in : (xs : List ℕ) (k : ℕ) → k < length xs → is_in (get_or xs k 0) xs ≡ true
item_in [] k h = absurd (omega arith)
item_in (x ∷ xs) zero h = rw (same_test x) refl
item_in (x ∷ xs) (suc k) h = in_more x (get_or xs k 0) xs (item_in xs k (omega arith))

pub got_in : (xs : List ℕ) (k c : ℕ) → slice_get xs k ≡ Some c → is_in c xs ≡ true
got_in [] k c e = absurd cc
got_in (x ∷ xs) zero c e = let same : x ≡ c = cc in rw same (rw (same_test c) refl)
got_in (x ∷ xs) (suc k) c e = in_more x c xs (got_in xs k c e)

-- the children that open late stand in order
pub late_ranked : (l : LimitedChildren) → IsRanked (late_keys l) (late_order l)
late_ranked l = ranked_true (late_keys l) (late_order l) l.ranking.ranked

-- what stands in the list of a group is a class
pub ranked_low : (nodes : List Node) (p c : ℕ) (key : Option Node → Option ℕ) (r : Ranking) → Ranks nodes p key r → is_in c (order_of r) ≡ true → c < length nodes
ranked_low nodes p c key r ranks i = inside nodes c (go (slice_get nodes c) refl)
  where
    inside : (xs : List Node) (k : ℕ) → (slice_get xs k ≡ None → ⊥) → k < length xs
    inside xs k n = elim (cases_lt k (length xs)) [ inl h ↦ h | inr h ↦ absurd (n (slice_get_past xs k h)) ]

    go : (o : Option Node) → slice_get nodes c ≡ o → slice_get nodes c ≡ None → ⊥
    go o e f =
        let no : is_active_child nodes p c ≡ false = ap (λ (x : Option Node). is_number p (parent_in x) && active_in x) f in
        let yes = sym (ranks.exactly c) ∙ i in
        cc
