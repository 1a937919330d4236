-- The moment from which a class opens: its own limit's, and the first of those below it.
use Rattle.std.proofs.Common.{◌≡◌, ◌<◌, ◌⊎◌, inl, inr, ℕ, Bool, true, false, List, [], ◌∷◌, Some, length, refl, ap, sym, subst, arith, ◌∙◌}
use Rattle.std.specs.Prelude.{◌==◌, ◌&&◌, ◌||◌, nat_lt, not}
use Rattle.std.specs.List.{list_any, list_all}
use Rattle.std.proofs.lemmas.Bool.Decides.{nat_tests}
use Rattle.ranking.proofs.Ranks.{same_test}
use Rattle.hfsc_model.specs.declared.HfscClass.{HfscClass}
use Rattle.hfsc_model.specs.Event.{HfscHistory}
use Rattle.hfsc_model.specs.Leaf.{leaf, is_waiting}
use Rattle.hfsc_model.specs.Tree.{is_child, is_leaf, is_parent, is_under, path, IsTree}
use Rattle.hfsc_model.specs.Share.{waits_under, active}
use Rattle.hfsc_model.specs.Limit.{is_within}
use Rattle.hfsc_laws.proofs.Tree.{same_truth, and_true, true_and, any_is, is_any, child_within, below_is, under_is, under_self, parent_of}
use Rattle.hfsc_groups.specs.Classes.{is_open_to, opens_under}
use Rattle.hfsc_groups.proofs.Under.{under_low, in_line, same_or_up, IsUp}

-- each class of a path passes exactly where each that stands over its end does
pub all_over : (f : ℕ → Bool) (xs : List ℕ) → list_all f xs ≡ true → (x : ℕ) → list_any (λ y. y == x) xs ≡ true → f x ≡ true
all_over f [] e x a = absurd cc
all_over f (y ∷ ys) e x a =
    let both = and_true (f y) (list_all f ys) e in
    go (y == x) refl a both.0 (all_over f ys both.1 x)
  where
    go : (b : Bool) → (y == x) ≡ b → (b || list_any (λ z. z == x) ys) ≡ true → f y ≡ true → (list_any (λ z. z == x) ys ≡ true → f x ≡ true) → f x ≡ true
    go true g h k rest = subst (λ m. f m ≡ true) (grind (arith, nat_tests, g)) k
    go false g h k rest = rest h

pub over_all : (f : ℕ → Bool) (xs : List ℕ) → ((x : ℕ) → list_any (λ y. y == x) xs ≡ true → f x ≡ true) → list_all f xs ≡ true
over_all f [] g = refl
over_all f (y ∷ ys) g =
    true_and (f y) (list_all f ys) (g y (rw (same_test y) refl)) (over_all f ys (λ x a. g x (either (y == x) (list_any (λ z. z == x) ys) a)))
  where
    either : (a b : Bool) → b ≡ true → (a || b) ≡ true
    either true b e = refl
    either false b e = e

-- a packet waits in a leaf, and the classes from it up to c are within their limits
pub record Opens (cs : List HfscClass) (h : HfscHistory) (now c d : ℕ) : Type 0 where
  pub waits : waits_under cs h c d ≡ true
  pub within : (x : ℕ) → is_under cs x d ≡ true → is_under cs c x ≡ true → is_within cs h now x ≡ true

pub record IsOpened (cs : List HfscClass) (h : HfscHistory) (now c : ℕ) : Type 0 where
  pub one : ℕ
  pub opens : Opens cs h now c one

pub opens_is : (cs : List HfscClass) (h : HfscHistory) (now c : ℕ) → opens_under cs h now c ≡ true → IsOpened cs h now c
opens_is cs h now c e =
    let x = any_is (λ d. waits_under cs h c d && is_open_to cs h now c d) 0 (length cs) e in
    let both = and_true (waits_under cs h c x.one) (is_open_to cs h now c x.one) x.passes in
    record {
      one = x.one;
      opens = record {
        waits = both.0;
        within = λ y u v. apart (is_under cs c y) (is_within cs h now y) v (all_over (λ z. not (is_under cs c z) || is_within cs h now z) (path cs x.one) both.1 y u);
      };
    }
  where
    apart : (a b : Bool) → a ≡ true → (not a || b) ≡ true → b ≡ true
    apart true b e f = f
    apart false b e f = absurd cc

-- a leaf in which a packet waits is one of the classes, and stands under c
pub record Waits (cs : List HfscClass) (h : HfscHistory) (c d : ℕ) : Type 0 where
  pub leaf_is : is_leaf cs d ≡ true
  pub under : is_under cs c d ≡ true
  pub waiting : is_waiting (leaf h d).waiting ≡ true
  pub low : d < length cs

pub waits_is : (cs : List HfscClass) (h : HfscHistory) (c d : ℕ) → waits_under cs h c d ≡ true → Waits cs h c d
waits_is cs h c d e =
    let one = and_true (is_leaf cs d) (is_under cs c d && is_waiting (leaf h d).waiting) e in
    let two = and_true (is_under cs c d) (is_waiting (leaf h d).waiting) one.1 in
    record { leaf_is = one.0; under = two.0; waiting = two.1; low = grind (arith, nat_tests, (and_true (nat_lt d (length cs)) (not (is_parent cs d)) one.0).0) }

pub is_waits : (cs : List HfscClass) (h : HfscHistory) (c d : ℕ) → is_leaf cs d ≡ true → is_under cs c d ≡ true → is_waiting (leaf h d).waiting ≡ true
    → waits_under cs h c d ≡ true
is_waits cs h c d l u w = true_and (is_leaf cs d) (is_under cs c d && is_waiting (leaf h d).waiting) l (true_and (is_under cs c d) (is_waiting (leaf h d).waiting) u w)

pub is_opens : (cs : List HfscClass) (h : HfscHistory) (now c d : ℕ) → Opens cs h now c d → opens_under cs h now c ≡ true
is_opens cs h now c d o =
    is_any (λ e. waits_under cs h c e && is_open_to cs h now c e) 0 (length cs) d (omega arith) (let low = (waits_is cs h c d o.waits).low in omega arith)
    (true_and (waits_under cs h c d) (is_open_to cs h now c d) o.waits
    (over_all (λ z. not (is_under cs c z) || is_within cs h now z) (path cs d) (λ y u. together (is_under cs c y) (is_within cs h now y) (o.within y u))))
  where
    together : (a b : Bool) → (a ≡ true → b ≡ true) → (not a || b) ≡ true
    together true b f = f refl
    together false b f = refl

pub is_active : (cs : List HfscClass) (h : HfscHistory) (c d : ℕ) → waits_under cs h c d ≡ true → active cs h c ≡ true
is_active cs h c d w = is_any (waits_under cs h c) 0 (length cs) d (omega arith) (let low = (waits_is cs h c d w).low in omega arith) w

pub record IsActive (cs : List HfscClass) (h : HfscHistory) (c : ℕ) : Type 0 where
  pub one : ℕ
  pub waits : waits_under cs h c one ≡ true

pub active_is : (cs : List HfscClass) (h : HfscHistory) (c : ℕ) → active cs h c ≡ true → IsActive cs h c
active_is cs h c a = let x = any_is (waits_under cs h c) 0 (length cs) a in record { one = x.one; waits = x.passes }

-- no class has a child that is a leaf's
pub leaf_childless : (cs : List HfscClass) (c e : ℕ) → is_leaf cs c ≡ true → is_child cs c e ≡ true → ⊥
leaf_childless cs c e l k =
    let low = child_within cs c e k in
    clash (is_parent cs c) (is_any (is_child cs c) 0 (length cs) e (omega arith) (omega arith) k) (and_true (nat_lt c (length cs)) (not (is_parent cs c)) l).1
  where
    clash : (b : Bool) → b ≡ true → not b ≡ true → ⊥
    clash true e f = cc
    clash false e f = cc

-- what stands under a leaf is the leaf
pub leaf_alone : (cs : List HfscClass) (c d : ℕ) → IsTree cs → is_leaf cs c ≡ true → is_under cs c d ≡ true → d ≡ c
leaf_alone cs c d t l u = go (d == c) refl
  where
    go : (b : Bool) → (d == c) ≡ b → d ≡ c
    go true e = grind (arith, nat_tests, e)
    go false e = let x = below_is cs c d t u (λ s. grind (arith, nat_tests, e, s)) in absurd (leaf_childless cs c x.child l x.of)

-- a leaf opens with its limit
pub leaf_opens : (cs : List HfscClass) (h : HfscHistory) (now c : ℕ) → IsTree cs → is_leaf cs c ≡ true → active cs h c ≡ true
    → opens_under cs h now c ≡ is_within cs h now c
leaf_opens cs h now c t l a = same_truth (opens_under cs h now c) (is_within cs h now c) there back
  where
    there : opens_under cs h now c ≡ true → is_within cs h now c ≡ true
    there e =
        let x = opens_is cs h now c e in
        let u = (waits_is cs h c x.one x.opens.waits).under in
        x.opens.within c u (under_self cs c)

    back : is_within cs h now c ≡ true → opens_under cs h now c ≡ true
    back e =
        let x = active_is cs h c a in
        let same = leaf_alone cs c x.one t l (waits_is cs h c x.one x.waits).under in
        is_opens cs h now c c (record {
          waits = subst (λ m. waits_under cs h c m ≡ true) same x.waits;
          within = λ y u v. let low = under_low cs y c t u in let high = under_low cs c y t v in
              let equal : c ≡ y = omega arith in subst (λ m. is_within cs h now m ≡ true) equal e;
        })

-- another class opens with its limit and with a child that is open
pub record IsOpenChild (cs : List HfscClass) (h : HfscHistory) (now c : ℕ) : Type 0 where
  pub child : ℕ
  pub of : is_child cs c child ≡ true
  pub opens : opens_under cs h now child ≡ true
  pub active : active cs h child ≡ true

pub not_leaf : (cs : List HfscClass) (c d : ℕ) → is_leaf cs c ≡ false → is_leaf cs d ≡ true → d ≡ c → ⊥
not_leaf cs c d e f s = let one : is_leaf cs d ≡ is_leaf cs c = ap (is_leaf cs) s in cc

pub child_opens : (cs : List HfscClass) (h : HfscHistory) (now c : ℕ) → IsTree cs → is_leaf cs c ≡ false → opens_under cs h now c ≡ true
    → (is_within cs h now c ≡ true) × IsOpenChild cs h now c
child_opens cs h now c t l e =
    let x = opens_is cs h now c e in
    let w = waits_is cs h c x.one x.opens.waits in
    let b = below_is cs c x.one t w.under (not_leaf cs c x.one l w.leaf_is) in
    let waits = is_waits cs h b.child x.one w.leaf_is b.under w.waiting in (
      x.opens.within c w.under (under_self cs c),
      record {
        child = b.child;
        of = b.of;
        opens = is_opens cs h now b.child x.one (record { waits = waits; within = λ y u v. x.opens.within y u (under_is cs c b.child y t b.of v) });
        active = is_active cs h b.child x.one waits;
      },
    )

pub opens_child : (cs : List HfscClass) (h : HfscHistory) (now c : ℕ) → IsTree cs → is_within cs h now c ≡ true → IsOpenChild cs h now c
    → opens_under cs h now c ≡ true
opens_child cs h now c t within o = is_opens cs h now c x.one (record {
  waits = is_waits cs h c x.one w.leaf_is (under_is cs c o.child x.one t o.of w.under) w.waiting;
  within = λ y u v. each y u v (in_line cs o.child y x.one t w.under u);
})
  where
    x : IsOpened cs h now o.child
    x = opens_is cs h now o.child o.opens

    w : Waits cs h o.child x.one
    w = waits_is cs h o.child x.one x.opens.waits

    above : (y : ℕ) → is_under cs c y ≡ true → (o.child ≡ y) ⊎ IsUp cs y o.child → is_within cs h now y ≡ true
    above y v (inl s) = subst (λ m. is_within cs h now m ≡ true) s (x.opens.within o.child w.under (under_self cs o.child))
    above y v (inr p) =
        let same : p.parent ≡ c = number p.parent c (sym p.of ∙ parent_of cs c o.child o.of) in
        let low = under_low cs y p.parent t p.under in
        let high = under_low cs c y t v in
        let equal : c ≡ y = omega arith in
        subst (λ m. is_within cs h now m ≡ true) equal within
      where
        number : (a b : ℕ) → Some a ≡ Some b → a ≡ b
        number a b e = cc

    each : (y : ℕ) → is_under cs y x.one ≡ true → is_under cs c y ≡ true → (is_under cs o.child y ≡ true) ⊎ (is_under cs y o.child ≡ true) → is_within cs h now y ≡ true
    each y k v (inl u) = x.opens.within y k u
    each y k v (inr u) = above y v (same_or_up cs y o.child t u)

-- a class that is no leaf and is active has an active child
pub record IsActiveChild (cs : List HfscClass) (h : HfscHistory) (c : ℕ) : Type 0 where
  pub child : ℕ
  pub of : is_child cs c child ≡ true
  pub active : active cs h child ≡ true

pub active_child : (cs : List HfscClass) (h : HfscHistory) (c : ℕ) → IsTree cs → is_leaf cs c ≡ false → active cs h c ≡ true → IsActiveChild cs h c
active_child cs h c t l a =
    let x = active_is cs h c a in
    let w = waits_is cs h c x.one x.waits in
    let b = below_is cs c x.one t w.under (not_leaf cs c x.one l w.leaf_is) in
    record { child = b.child; of = b.of; active = is_active cs h b.child x.one (is_waits cs h b.child x.one w.leaf_is b.under w.waiting) }
