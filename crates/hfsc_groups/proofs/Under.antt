-- What stands under what: a path is a line.
use Rattle.std.proofs.Common.{◌≡◌, ◌≤◌, ◌<◌, ◌⊎◌, inl, inr, ℕ, zero, suc, Bool, true, false, List, ◌∷◌, None, Some, refl, ap, sym, subst, arith, ◌∙◌}
use Rattle.std.specs.Prelude.{Option, ◌==◌, ◌||◌}
use Rattle.std.specs.List.{list_any}
use Rattle.std.proofs.lemmas.Bool.Decides.{nat_tests}
use Rattle.hfsc_model.specs.declared.HfscClass.{HfscClass}
use Rattle.hfsc_model.specs.Tree.{class_of, path_up, is_under, IsTree}
use Rattle.hfsc_laws.proofs.Tree.{under_up}

-- the path of a class goes up
lone : (cs : List HfscClass) (c d : ℕ) → (class_of cs d).parent ≡ None → is_under cs c d ≡ true → d ≡ c
lone cs c d e u =
    go (d == c) refl (sym (ap (λ (o : Option ℕ). list_any (λ x. x == c) (d ∷ path_up 7 cs o)) e) ∙ u)
  where
    go : (b : Bool) → (d == c) ≡ b → (b || false) ≡ true → d ≡ c
    go true f g = grind (arith, nat_tests, f)
    go false f g = absurd cc

-- what stands under a class is the class, or its parent stands under it
pub above : (P : ℕ → Type 0) (cs : List HfscClass) (c d : ℕ) → IsTree cs → is_under cs c d ≡ true → P d
    → ((p : ℕ) → (class_of cs d).parent ≡ Some p → is_under cs c p ≡ true → P c) → P c
above P cs c d t u here up = go (class_of cs d).parent refl
  where
    step : (p : ℕ) → (class_of cs d).parent ≡ Some p → (b : Bool) → (d == c) ≡ b → (b || is_under cs c p) ≡ true → P c
    step p e true f g = subst P (grind (arith, nat_tests, f)) here
    step p e false f g = up p e g

    go : (o : Option ℕ) → (class_of cs d).parent ≡ o → P c
    go None e = subst P (lone cs c d e u) here
    go (Some p) e = step p e (d == c) refl (sym (under_up cs c d p t e) ∙ u)

low_in : (n : ℕ) (cs : List HfscClass) (c d : ℕ) → IsTree cs → d < n → is_under cs c d ≡ true → c ≤ d
low_in zero cs c d t h u = absurd (omega arith)
low_in (suc n) cs c d t h u =
    above (λ x. x ≤ d) cs c d t u (omega arith)
    (λ p e v. let low = t.earlier d p e in let rest = low_in n cs c p t (omega arith) v in omega arith)

pub under_low : (cs : List HfscClass) (c d : ℕ) → IsTree cs → is_under cs c d ≡ true → c ≤ d
under_low cs c d t u = low_in (suc d) cs c d t (omega arith) u

-- a parent stands over what its child stands over
pub parent_over : (cs : List HfscClass) (c d p : ℕ) → IsTree cs → (class_of cs d).parent ≡ Some p → is_under cs c p ≡ true → is_under cs c d ≡ true
parent_over cs c d p t e u = under_up cs c d p t e ∙ either (d == c) (is_under cs c p) u
  where
    either : (a b : Bool) → b ≡ true → (a || b) ≡ true
    either true b f = refl
    either false b f = f

trans_in : (n : ℕ) (cs : List HfscClass) (a b c : ℕ) → IsTree cs → c < n → is_under cs a b ≡ true → is_under cs b c ≡ true → is_under cs a c ≡ true
trans_in zero cs a b c t h u v = absurd (omega arith)
trans_in (suc n) cs a b c t h u v =
    above (λ x. is_under cs a x ≡ true → is_under cs a c ≡ true) cs b c t v (λ w. w)
    (λ p e w y. parent_over cs a c p t e (trans_in n cs a b p t (let low = t.earlier c p e in omega arith) u w)) u

pub under_trans : (cs : List HfscClass) (a b c : ℕ) → IsTree cs → is_under cs a b ≡ true → is_under cs b c ≡ true → is_under cs a c ≡ true
under_trans cs a b c t u v = trans_in (suc c) cs a b c t (omega arith) u v

-- a class is the one that stands over it, or its parent stands under that
pub record IsUp (cs : List HfscClass) (c d : ℕ) : Type 0 where
  pub parent : ℕ
  pub of : (class_of cs d).parent ≡ Some parent
  pub under : is_under cs c parent ≡ true

pub same_or_up : (cs : List HfscClass) (c d : ℕ) → IsTree cs → is_under cs c d ≡ true → (d ≡ c) ⊎ IsUp cs c d
same_or_up cs c d t u = go (class_of cs d).parent refl
  where
    step : (p : ℕ) → (class_of cs d).parent ≡ Some p → (b : Bool) → (d == c) ≡ b → (b || is_under cs c p) ≡ true → (d ≡ c) ⊎ IsUp cs c d
    step p e true f g = inl (grind (arith, nat_tests, f))
    step p e false f g = inr (record { parent = p; of = e; under = g })

    go : (o : Option ℕ) → (class_of cs d).parent ≡ o → (d ≡ c) ⊎ IsUp cs c d
    go None e = inl (lone cs c d e u)
    go (Some p) e = step p e (d == c) refl (sym (under_up cs c d p t e) ∙ u)

-- of two classes over a third one stands over the other
line_in : (n : ℕ) (cs : List HfscClass) (a b d : ℕ) → IsTree cs → d < n → is_under cs a d ≡ true → is_under cs b d ≡ true
    → (is_under cs a b ≡ true) ⊎ (is_under cs b a ≡ true)
line_in zero cs a b d t h u v = absurd (omega arith)
line_in (suc n) cs a b d t h u v = go (same_or_up cs a d t u) (same_or_up cs b d t v) (λ p k w x. line_in n cs a b p t k w x)
  where
    number : (p q : ℕ) → Some p ≡ Some q → p ≡ q
    number p q e = cc

    go : (d ≡ a) ⊎ IsUp cs a d → (d ≡ b) ⊎ IsUp cs b d
        → ((p : ℕ) → p < n → is_under cs a p ≡ true → is_under cs b p ≡ true → (is_under cs a b ≡ true) ⊎ (is_under cs b a ≡ true))
        → (is_under cs a b ≡ true) ⊎ (is_under cs b a ≡ true)
    go (inl e) y rest = inr (subst (λ m. is_under cs b m ≡ true) e v)
    go (inr x) (inl f) rest = inl (subst (λ m. is_under cs a m ≡ true) f u)
    go (inr x) (inr y) rest =
        let low = t.earlier d x.parent x.of in
        rest x.parent (omega arith) x.under (subst (λ m. is_under cs b m ≡ true) (number y.parent x.parent (sym y.of ∙ x.of)) y.under)

pub in_line : (cs : List HfscClass) (a b d : ℕ) → IsTree cs → is_under cs a d ≡ true → is_under cs b d ≡ true
    → (is_under cs a b ≡ true) ⊎ (is_under cs b a ≡ true)
in_line cs a b d t u v = line_in (suc d) cs a b d t (omega arith) u v
