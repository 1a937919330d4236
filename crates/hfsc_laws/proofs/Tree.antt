-- What stands under a class of a tree.
use Rattle.std.proofs.Common.{◌≡◌, ◌≤◌, ◌<◌, ◌+◌, ◌⊎◌, inl, inr, ℕ, zero, suc, Bool, true, false, List, [], ◌∷◌, None, Some, length, refl, ap, sym, arith, ◌∙◌}
use Rattle.std.specs.Prelude.{Option, ◌==◌, ◌&&◌, ◌||◌}
use Rattle.std.specs.List.{list_any, range_with_len}
use Rattle.std.proofs.lemmas.Bool.{cases_lt}
use Rattle.std.proofs.lemmas.Bool.Decides.{nat_tests}
use Rattle.hfsc_model.specs.declared.HfscClass.{HfscClass}
use Rattle.hfsc_model.specs.Tree.{no_class, class_of, is_number, is_child, path_up, path, is_under, IsTree}

pub same_truth : (a b : Bool) → (a ≡ true → b ≡ true) → (b ≡ true → a ≡ true) → a ≡ b
same_truth true true f g = refl
same_truth true false f g = sym (f refl)
same_truth false true f g = g refl
same_truth false false f g = refl

pub and_true : (a b : Bool) → (a && b) ≡ true → (a ≡ true) × (b ≡ true)
and_true true b e = (refl, e)
and_true false b e = absurd cc

pub true_and : (a b : Bool) → a ≡ true → b ≡ true → (a && b) ≡ true
true_and a b e f = rw e f

-- a class among some numbers passes
pub record IsAny (f : ℕ → Bool) (a n : ℕ) : Type 0 where
  pub one : ℕ
  pub from : a ≤ one
  pub to : one < a + n
  pub passes : f one ≡ true

pub any_is : (f : ℕ → Bool) (a n : ℕ) → list_any f (range_with_len a n) ≡ true → IsAny f a n
any_is f a zero e = absurd cc
any_is f a (suc n) e = go (f a) refl e (any_is f (a + 1) n)
  where
    go : (b : Bool) → f a ≡ b → (b || list_any f (range_with_len (a + 1) n)) ≡ true → (list_any f (range_with_len (a + 1) n) ≡ true → IsAny f (a + 1) n) → IsAny f a (suc n)
    go true g e rest = record { one = a; from = omega arith; to = omega arith; passes = g }
    go false g e rest = let x = rest e in record { one = x.one; from = omega (arith, x.from); to = omega (arith, x.to); passes = x.passes }

pub is_any : (f : ℕ → Bool) (a n c : ℕ) → a ≤ c → c < a + n → f c ≡ true → list_any f (range_with_len a n) ≡ true
is_any f a zero c h k e = absurd (omega arith)
is_any f a (suc n) c h k e = go (cases_lt a c) (is_any f (a + 1) n c)
  where
    go : (a < c) ⊎ (c ≤ a) → (a + 1 ≤ c → c < a + 1 + n → f c ≡ true → list_any f (range_with_len (a + 1) n) ≡ true)
        → (f a || list_any f (range_with_len (a + 1) n)) ≡ true
    go (inl l) rest = elim (f a) as (λ v. (v || list_any f (range_with_len (a + 1) n)) ≡ true) [ true ↦ refl | false ↦ rest (omega arith) (omega arith) e ]
    go (inr l) rest = let same : a ≡ c = omega arith in rw (ap f same ∙ e) refl

-- a child is a class of the tree
beyond : (cs : List HfscClass) (c : ℕ) → length cs ≤ c → class_of cs c ≡ no_class
beyond [] c h = refl
beyond (k ∷ ks) zero h = absurd (omega arith)
beyond (k ∷ ks) (suc c) h = beyond ks c (omega arith)

pub parent_of : (cs : List HfscClass) (p c : ℕ) → is_child cs p c ≡ true → (class_of cs c).parent ≡ Some p
parent_of cs p c e = go (class_of cs c).parent refl e
  where
    go : (o : Option ℕ) → (class_of cs c).parent ≡ o → is_number p o ≡ true → o ≡ Some p
    go None f e = absurd cc
    go (Some q) f e = let same : q ≡ p = grind (arith, nat_tests, e) in ap Some same

pub child_within : (cs : List HfscClass) (p c : ℕ) → is_child cs p c ≡ true → c < length cs
child_within cs p c e = go (cases_lt c (length cs))
  where
    go : (c < length cs) ⊎ (length cs ≤ c) → c < length cs
    go (inl h) = h
    go (inr h) =
        let none = ap (λ (k : HfscClass). k.parent) (beyond cs c h) in
        let some = parent_of cs p c e in
        absurd cc

-- the path of a class goes on with that of its parent
next_path : (cs : List HfscClass) (d p : ℕ) → IsTree cs → (class_of cs d).parent ≡ Some p → path cs d ≡ d ∷ path cs p
next_path cs d p t e = sym (t.levels d) ∙ ap (λ (o : Option ℕ). d ∷ path_up 8 cs o) e

pub under_self : (cs : List HfscClass) (c : ℕ) → is_under cs c c ≡ true
under_self cs c = let same : (c == c) ≡ true = grind (arith, nat_tests) in rw same refl

pub under_up : (cs : List HfscClass) (c d p : ℕ) → IsTree cs → (class_of cs d).parent ≡ Some p → is_under cs c d ≡ ((d == c) || is_under cs c p)
under_up cs c d p t e = ap (λ (xs : List ℕ). list_any (λ x. x == c) xs) (next_path cs d p t e)

-- the path of the root is the root
lone : (cs : List HfscClass) (d : ℕ) → (class_of cs d).parent ≡ None → path cs d ≡ d ∷ []
lone cs d e = ap (λ (o : Option ℕ). d ∷ path_up 7 cs o) e

lone_under : (cs : List HfscClass) (c d : ℕ) → (class_of cs d).parent ≡ None → is_under cs c d ≡ true → d ≡ c
lone_under cs c d e u =
    let one : ((d == c) || false) ≡ true = sym (ap (λ (xs : List ℕ). list_any (λ x. x == c) xs) (lone cs d e)) ∙ u in
    go (d == c) refl one
  where
    go : (b : Bool) → (d == c) ≡ b → (b || false) ≡ true → d ≡ c
    go true f g = grind (arith, nat_tests, f)
    go false f g = absurd cc

-- what stands below a class stands under a child of it
pub record IsBelow (cs : List HfscClass) (c d : ℕ) : Type 0 where
  pub child : ℕ
  pub of : is_child cs c child ≡ true
  pub under : is_under cs child d ≡ true

is_child_of : (cs : List HfscClass) (p c : ℕ) → (class_of cs c).parent ≡ Some p → is_child cs p c ≡ true
is_child_of cs p c e = ap (is_number p) e ∙ (let same : (p == p) ≡ true = grind (arith, nat_tests) in same)

below_in : (n : ℕ) (cs : List HfscClass) (c d : ℕ) → IsTree cs → d < n → is_under cs c d ≡ true → (d ≡ c → ⊥) → IsBelow cs c d
below_in zero cs c d t h u o = absurd (omega arith)
below_in (suc n) cs c d t h u o = go (λ p l v w. below_in n cs c p t l v w) (class_of cs d).parent refl
  where
    either : (a b : Bool) → b ≡ true → (a || b) ≡ true
    either true b e = refl
    either false b e = e

    over : ((p : ℕ) → p < n → is_under cs c p ≡ true → (p ≡ c → ⊥) → IsBelow cs c p) → (p : ℕ) → (class_of cs d).parent ≡ Some p → (b : Bool) → (p == c) ≡ b
        → is_under cs c p ≡ true → IsBelow cs c d
    over rest p e true f v = let same : p ≡ c = grind (arith, nat_tests, f) in record { child = d; of = is_child_of cs c d (e ∙ ap Some same); under = under_self cs d }
    over rest p e false f v =
        let low = t.earlier d p e in
        let x = rest p (omega arith) v (λ s. grind (arith, nat_tests, f, s)) in
        record { child = x.child; of = x.of; under = under_up cs x.child d p t e ∙ either (d == x.child) (is_under cs x.child p) x.under }

    step : (p : ℕ) (b : Bool) → (d == c) ≡ b → (b || is_under cs c p) ≡ true → is_under cs c p ≡ true
    step p true f g = absurd (o (grind (arith, nat_tests, f)))
    step p false f g = g

    go : ((p : ℕ) → p < n → is_under cs c p ≡ true → (p ≡ c → ⊥) → IsBelow cs c p) → (q : Option ℕ) → (class_of cs d).parent ≡ q → IsBelow cs c d
    go rest None e = absurd (o (lone_under cs c d e u))
    go rest (Some p) e = over rest p e (p == c) refl (step p (d == c) refl (sym (under_up cs c d p t e) ∙ u))

pub below_is : (cs : List HfscClass) (c d : ℕ) → IsTree cs → is_under cs c d ≡ true → (d ≡ c → ⊥) → IsBelow cs c d
below_is cs c d t u o = below_in (suc d) cs c d t (omega arith) u o

-- what stands under a child of a class stands under the class
under_in : (n : ℕ) (cs : List HfscClass) (c e d : ℕ) → IsTree cs → d < n → is_child cs c e ≡ true → is_under cs e d ≡ true → is_under cs c d ≡ true
under_in zero cs c e d t h k u = absurd (omega arith)
under_in (suc n) cs c e d t h k u = here (λ p l v. under_in n cs c e p t l k v) (d == e) refl
  where
    either : (a b : Bool) → b ≡ true → (a || b) ≡ true
    either true b f = refl
    either false b f = f

    step : (p : ℕ) (b : Bool) → (d == e) ≡ false → (d == e) ≡ b → (b || is_under cs e p) ≡ true → is_under cs e p ≡ true
    step p true f g w = absurd cc
    step p false f g w = w

    up : ((p : ℕ) → p < n → is_under cs e p ≡ true → is_under cs c p ≡ true) → (q : Option ℕ) → (class_of cs d).parent ≡ q → (d == e) ≡ false → is_under cs c d ≡ true
    up rest None f g = let same = lone_under cs e d f u in absurd (grind (arith, nat_tests, g, same))
    up rest (Some p) f g =
        let low = t.earlier d p f in
        let v = step p (d == e) g refl (sym (under_up cs e d p t f) ∙ u) in
        under_up cs c d p t f ∙ either (d == c) (is_under cs c p) (rest p (omega arith) v)

    here : ((p : ℕ) → p < n → is_under cs e p ≡ true → is_under cs c p ≡ true) → (b : Bool) → (d == e) ≡ b → is_under cs c d ≡ true
    here rest true f =
        let same : d ≡ e = grind (arith, nat_tests, f) in
        let par = ap (λ m. (class_of cs m).parent) same ∙ parent_of cs c e k in
        under_up cs c d c t par ∙ either (d == c) (is_under cs c c) (under_self cs c)
    here rest false f = up rest (class_of cs d).parent refl f

pub under_is : (cs : List HfscClass) (c e d : ℕ) → IsTree cs → is_child cs c e ≡ true → is_under cs e d ≡ true → is_under cs c d ≡ true
under_is cs c e d t k u = under_in (suc d) cs c e d t (omega arith) k u
