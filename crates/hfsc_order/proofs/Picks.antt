-- The choice by share goes down by the least virtual times.
use Rattle.std.proofs.Common.{◌≡◌, ◌≤◌, ◌<◌, ◌+◌, ◌⊎◌, inl, inr, ℕ, zero, suc, Bool, true, false, List, [], ◌∷◌, None, Some, length, refl, ap, sym, subst, arith, ◌∙◌}
use Rattle.std.specs.Prelude.{Option, ◌&&◌, nat_lt, not, MatchOption, if◌then◌else◌}
use Rattle.std.specs.List.{filter}
use Rattle.std.proofs.lemmas.Bool.{cases_eq}
use Rattle.std.proofs.lemmas.Bool.Decides.{nat_tests}
use Rattle.altq_model.specs.Play.{IsOneOf}
use Rattle.hfsc_model.specs.declared.HfscClass.{HfscClass}
use Rattle.hfsc_model.specs.Event.{HfscHistory}
use Rattle.hfsc_model.specs.Leaf.{leaf, is_waiting}
use Rattle.hfsc_model.specs.Tree.{class_of, numbers, is_child, is_leaf, is_parent, is_under, path, path_up, IsTree}
use Rattle.hfsc_model.specs.Share.{virtual_time}
use Rattle.hfsc_model.specs.Limit.{is_open, least_by, may_share, path_down, share_pick, shares_under}
use Rattle.hfsc_laws.proofs.Tree.{IsAny, and_true, true_and, any_is, is_any, below_is, child_within, parent_of}
use Rattle.hfsc_policy.specs.Classes.{IsClassTree}
use Rattle.hfsc_policy.proofs.Lists.{kept_is, is_kept, in_range}
use Rattle.hfsc_policy.proofs.Paths.{root_under}
use Rattle.hfsc_order.specs.Order.{AreLeastChildren, IsLeastChild, IsOpenChild, IsSharePick, NoneMayShare}
use Rattle.hfsc_order.proofs.Leasts.{AreRising, IsFirstLeast, IsLeastIn, filter_rising, least_in, numbers_rising}

abbrev sharers : List HfscClass → HfscHistory → (now c : ℕ) → List ℕ
sharers cs h now c = filter (shares_under cs h now) (filter (is_child cs c) (numbers cs))

sharers_rising : (cs : List HfscClass) (h : HfscHistory) (now c : ℕ) → AreRising (sharers cs h now c)
sharers_rising cs h now c =
    filter_rising (shares_under cs h now) (filter (is_child cs c) (numbers cs)) (filter_rising (is_child cs c) (numbers cs) (numbers_rising (length cs)))

sharer_is : (cs : List HfscClass) (h : HfscHistory) (now c d : ℕ) → IsOneOf d (sharers cs h now c) → IsOpenChild cs h now c d
sharer_is cs h now c d i =
    let one = kept_is (shares_under cs h now) (filter (is_child cs c) (numbers cs)) d i in
    record { child = (kept_is (is_child cs c) (numbers cs) d one.1).0; shares = one.0 }

is_sharer : (cs : List HfscClass) (h : HfscHistory) (now c d : ℕ) → IsOpenChild cs h now c d → IsOneOf d (sharers cs h now c)
is_sharer cs h now c d k =
    let low = child_within cs c d k.child in
    is_kept (shares_under cs h now) (filter (is_child cs c) (numbers cs)) d k.shares
    (is_kept (is_child cs c) (numbers cs) d k.child (in_range 0 (length cs) d (omega arith) (omega arith)))

least_child : (cs : List HfscClass) (h : HfscHistory) (now c d : ℕ) → IsFirstLeast (virtual_time cs h) (sharers cs h now c) d
    → IsLeastChild cs h now c d
least_child cs h now c d k = record {
  there = sharer_is cs h now c d k.there;
  least = λ e x. k.least e (is_sharer cs h now c e x);
  first = λ e x same. k.first e (is_sharer cs h now c e x) same;
}

-- the path of the root is the root, and that of another class goes on with that of its parent
lone : (cs : List HfscClass) (d : ℕ) → (class_of cs d).parent ≡ None → path cs d ≡ d ∷ []
lone cs d e = ap (λ (o : Option ℕ). d ∷ path_up 7 cs o) e

next_path : (cs : List HfscClass) (d p : ℕ) → IsTree cs → (class_of cs d).parent ≡ Some p → path cs d ≡ d ∷ path cs p
next_path cs d p t e = sym (t.levels d) ∙ ap (λ (o : Option ℕ). d ∷ path_up 8 cs o) e

path_bound : (n : ℕ) (cs : List HfscClass) (o : Option ℕ) → length (path_up n cs o) ≤ n
path_bound zero cs o = omega arith
path_bound (suc n) cs None = omega arith
path_bound (suc n) cs (Some c) = let rest = path_bound n cs (class_of cs c).parent in omega arith

-- a class of which no child shares is itself the leaf
ends_here : (cs : List HfscClass) (h : HfscHistory) (now c : ℕ) → IsTree cs → shares_under cs h now c ≡ true → sharers cs h now c ≡ []
    → may_share cs h now c ≡ true
ends_here cs h now c t s none = go (cases_eq x.one c)
  where
    x : IsAny (λ d. is_under cs c d && may_share cs h now d) 0 (length cs)
    x = any_is (λ d. is_under cs c d && may_share cs h now d) 0 (length cs) s

    both : (is_under cs c x.one ≡ true) × (may_share cs h now x.one ≡ true)
    both = and_true (is_under cs c x.one) (may_share cs h now x.one) x.passes

    go : (x.one ≡ c) ⊎ (x.one ≡ c → ⊥) → may_share cs h now c ≡ true
    go (inl e) = ap (may_share cs h now) (sym e) ∙ both.1
    go (inr n) =
        let b = below_is cs c x.one t both.0 n in
        let shares = is_any (λ d. is_under cs b.child d && may_share cs h now d) 0 (length cs) x.one x.from x.to
        (true_and (is_under cs b.child x.one) (may_share cs h now x.one) b.under both.1) in
        absurd (subst (λ (xs : List ℕ). IsOneOf b.child xs) none (is_sharer cs h now c b.child (record { child = b.of; shares = shares })))

down : (levels : ℕ) (cs : List HfscClass) (h : HfscHistory) (now c : ℕ) → IsTree cs → 9 ≤ levels + length (path cs c) → shares_under cs h now c ≡ true
    → AreLeastChildren cs h now (path cs c) → IsSharePick cs h now (path_down levels cs h now c)
down zero cs h now c t deep s l = let most = path_bound 8 cs (Some c) in absurd (omega (arith, most, deep))
down (suc levels) cs h now c t deep s l =
    go (least_by (virtual_time cs h) (sharers cs h now c)) (least_in (virtual_time cs h) (sharers cs h now c) (sharers_rising cs h now c))
    (λ d. down levels cs h now d t)
  where
    go : (o : Option ℕ) → IsLeastIn (virtual_time cs h) (sharers cs h now c) o
        → ((d : ℕ) → 9 ≤ levels + length (path cs d) → shares_under cs h now d ≡ true → AreLeastChildren cs h now (path cs d)
        → IsSharePick cs h now (path_down levels cs h now d))
        → IsSharePick cs h now (elim o [ None ↦ c | Some d ↦ path_down levels cs h now d ])
    go None none rest = record { opened = ends_here cs h now c t s none; levels = l }
    go (Some d) k rest =
        let child = least_child cs h now c d k in
        let next = next_path cs d c t (parent_of cs c d child.there.child) in
        let longer = ap (λ (xs : List ℕ). length xs) next in
        rest d (omega (arith, longer, deep)) child.there.shares
        (subst (λ (xs : List ℕ). AreLeastChildren cs h now xs) (sym next) (child, l))

pub picks : (cs : List HfscClass) (h : HfscHistory) (now : ℕ) → IsClassTree cs
    → MatchOption (share_pick cs h now) (NoneMayShare cs h now) (IsSharePick cs h now)
picks cs h now k = go (shares_under cs h now 0) refl
  where
    root_path : path cs 0 ≡ 0 ∷ []
    root_path = lone cs 0 k.tree.root

    nothing : (d : ℕ) (b : Bool) → shares_under cs h now 0 ≡ false → may_share cs h now d ≡ b → b ≡ false
    nothing d false e f = refl
    nothing d true e f =
        let is = (and_true (is_leaf cs d) (is_waiting (leaf h d).waiting && is_open cs h now d) f).0 in
        let low : d < length cs = let both = and_true (nat_lt d (length cs)) (not (is_parent cs d)) is in grind (arith, nat_tests, both.0) in
        let some : shares_under cs h now 0 ≡ true = is_any (λ x. is_under cs 0 x && may_share cs h now x) 0 (length cs) d (omega arith) (omega (arith, low))
        (true_and (is_under cs 0 d) (may_share cs h now d) (root_under (d + 1) cs d k (omega arith) low) f) in
        absurd (cc)

    go : (b : Bool) → shares_under cs h now 0 ≡ b
        → MatchOption (if b then Some (path_down 8 cs h now 0) else None) (NoneMayShare cs h now) (IsSharePick cs h now)
    go true e =
        let one : length (path cs 0) ≡ 1 = ap (λ (xs : List ℕ). length xs) root_path in
        down 8 cs h now 0 k.tree (omega (arith, one)) e (subst (λ (xs : List ℕ). AreLeastChildren cs h now xs) (sym root_path) tt)
    go false e = λ d. nothing d (may_share cs h now d) e refl
