-- The way down ends in a leaf that may be served.
use Rattle.std.proofs.Common.{◌≡◌, ◌≤◌, ◌<◌, ◌+◌, ℕ, zero, suc, Bool, true, false, List, [], ◌∷◌, None, Some, length, refl, ap, sym, subst, arith, ◌∙◌}
use Rattle.std.specs.Prelude.{Option, ◌&&◌, if◌then◌else◌}
use Rattle.std.specs.List.{filter}
use Rattle.ranking.specs.Order.{is_in}
use Rattle.hfsc_model.specs.declared.HfscClass.{HfscClass}
use Rattle.hfsc_model.specs.Event.{HfscHistory}
use Rattle.hfsc_model.specs.Leaf.{leaf, is_waiting}
use Rattle.hfsc_model.specs.Tree.{class_of, is_child, is_leaf, is_under, numbers, path, path_up, IsTree}
use Rattle.hfsc_model.specs.Share.{virtual_time}
use Rattle.hfsc_model.specs.Limit.{is_open, least_by, may_share, path_down, share_pick, shares_under}
use Rattle.hfsc_laws.proofs.Tree.{and_true, true_and, any_is, is_any, below_is, parent_of}
use Rattle.hfsc_groups.proofs.Opening.{leaf_alone, not_leaf}
use Rattle.hfsc_share.proofs.Starting.{child_in, in_filter}
use Rattle.hfsc_share.proofs.Picks.{filter_rises, least_is, least_none, number_is, range_rises}

-- a leaf below a class may be served
record SharesUnder (cs : List HfscClass) (h : HfscHistory) (now c : ℕ) : Type 0 where
  one : ℕ
  low : one < length cs
  under : is_under cs c one ≡ true
  may : may_share cs h now one ≡ true

shares_is : (cs : List HfscClass) (h : HfscHistory) (now c : ℕ) → shares_under cs h now c ≡ true → SharesUnder cs h now c
shares_is cs h now c e =
    let x = any_is (λ d. is_under cs c d && may_share cs h now d) 0 (length cs) e in
    let both = and_true (is_under cs c x.one) (may_share cs h now x.one) x.passes in
    record { one = x.one; low = (let to = x.to in omega arith); under = both.0; may = both.1 }

may_leaf : (cs : List HfscClass) (h : HfscHistory) (now d : ℕ) → may_share cs h now d ≡ true → is_leaf cs d ≡ true
may_leaf cs h now d e = (and_true (is_leaf cs d) (is_waiting (leaf h d).waiting && is_open cs h now d) e).0

-- no path has more than 8 classes, and that of a child has one more
short : (n : ℕ) (cs : List HfscClass) (o : Option ℕ) → length (path_up n cs o) ≤ n
short zero cs o = omega arith
short (suc n) cs None = omega arith
short (suc n) cs (Some c) = let one = short n cs (class_of cs c).parent in omega arith

longer : (cs : List HfscClass) (c e : ℕ) → IsTree cs → is_child cs c e ≡ true → length (path cs e) ≡ length (path cs c) + 1
longer cs c e t k =
    let next : path cs e ≡ e ∷ path cs c = sym (t.levels e) ∙ ap (λ (o : Option ℕ). e ∷ path_up 8 cs o) (parent_of cs c e k) in
    ap (λ (xs : List ℕ). length xs) next ∙ (let one : length (e ∷ path cs c) ≡ length (path cs c) + 1 = omega arith in one)

alone : (cs : List HfscClass) → IsTree cs → length (path cs 0) ≡ 1
alone cs t = ap (λ (o : Option ℕ). length (0 ∷ path_up 7 cs o)) t.root

-- a class that is no leaf has a child below which a leaf may be served
not_none : (cs : List HfscClass) (h : HfscHistory) (now c : ℕ) → IsTree cs → is_leaf cs c ≡ false → shares_under cs h now c ≡ true
    → filter (shares_under cs h now) (filter (is_child cs c) (numbers cs)) ≡ [] → ⊥
not_none cs h now c t l e none =
    let x = shares_is cs h now c e in
    let b = below_is cs c x.one t x.under (not_leaf cs c x.one l (may_leaf cs h now x.one x.may)) in
    let shares = is_any (λ d. is_under cs b.child d && may_share cs h now d) 0 (length cs) x.one (omega arith) (let low = x.low in omega arith)
    (true_and (is_under cs b.child x.one) (may_share cs h now x.one) b.under x.may) in
    let there = in_filter (shares_under cs h now) b.child (filter (is_child cs c) (numbers cs))
    ∙ true_and (shares_under cs h now b.child) (is_in b.child (filter (is_child cs c) (numbers cs))) shares (child_in cs c b.child ∙ b.of) in
    let no = ap (λ (xs : List ℕ). is_in b.child xs) none in
    absurd cc

down_ends : (n : ℕ) (cs : List HfscClass) (h : HfscHistory) (now c : ℕ) → IsTree cs → shares_under cs h now c ≡ true → 9 ≤ length (path cs c) + n
    → may_share cs h now (path_down n cs h now c) ≡ true
down_ends zero cs h now c t e deep = let most = short 8 cs (Some c) in absurd (omega arith)
down_ends (suc n) cs h now c t e deep = go (least_by (virtual_time cs h) (filter (shares_under cs h now) (filter (is_child cs c) (numbers cs)))) refl
    (λ d k f. down_ends n cs h now d t f (let one = longer cs c d t k in omega arith))
  where
    here : (b : Bool) → is_leaf cs c ≡ b → filter (shares_under cs h now) (filter (is_child cs c) (numbers cs)) ≡ [] → may_share cs h now c ≡ true
    here true l none =
        let x = shares_is cs h now c e in
        subst (λ m. may_share cs h now m ≡ true) (leaf_alone cs c x.one t l x.under) x.may
    here false l none = absurd (not_none cs h now c t l e none)

    go : (o : Option ℕ) → least_by (virtual_time cs h) (filter (shares_under cs h now) (filter (is_child cs c) (numbers cs))) ≡ o
        → ((d : ℕ) → is_child cs c d ≡ true → shares_under cs h now d ≡ true → may_share cs h now (path_down n cs h now d) ≡ true)
        → may_share cs h now (elim o [ None ↦ c | Some d ↦ path_down n cs h now d ]) ≡ true
    go None f rest = here (is_leaf cs c) refl (least_none (virtual_time cs h) (filter (shares_under cs h now) (filter (is_child cs c) (numbers cs))) f)
    go (Some d) f rest =
        let l = least_is (virtual_time cs h) (filter (shares_under cs h now) (filter (is_child cs c) (numbers cs))) d
        (filter_rises (shares_under cs h now) (filter (is_child cs c) (numbers cs)) (filter_rises (is_child cs c) (numbers cs) (range_rises 0 (length cs)))) f in
        let both = and_true (shares_under cs h now d) (is_in d (filter (is_child cs c) (numbers cs))) (sym (in_filter (shares_under cs h now) d (filter (is_child cs c) (numbers cs))) ∙ l.there) in
        rest d (sym (child_in cs c d) ∙ both.1) both.0

pub picked_may : (cs : List HfscClass) (h : HfscHistory) (now c : ℕ) → IsTree cs → share_pick cs h now ≡ Some c → may_share cs h now c ≡ true
picked_may cs h now c t e = go (shares_under cs h now 0) refl e
  where
    go : (b : Bool) → shares_under cs h now 0 ≡ b → ◌≡◌ {A = Option ℕ} (if b then Some (path_down 8 cs h now 0) else None) (Some c) → may_share cs h now c ≡ true
    go true f g =
        subst (λ m. may_share cs h now m ≡ true) (number_is (path_down 8 cs h now 0) c g)
        (down_ends 8 cs h now 0 t f (let one = alone cs t in omega arith))
    go false f g = absurd cc
