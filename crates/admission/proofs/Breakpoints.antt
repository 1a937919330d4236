-- Breakpoints of a list of curves.
use Rattle.std.proofs.Common.{◌≡◌, ◌≤◌, ◌<◌, ◌⊎◌, inl, inr, ℕ, min, max, List, [], ◌∷◌, ◌++◌, ◌+◌, length, take, get_or, refl, ap, sym, subst, ◌∙◌, arith}
use Rattle.std.specs.Prelude.{Option, None, Some}
use Rattle.std.specs.Prelude.{IfSome}
use Rattle.std.proofs.lemmas.Bool.{cases_lt}
use Rattle.std.proofs.lemmas.List.{take_more}
use Rattle.service_curve.specs.declared.Curve.{Curve}
use Rattle.service_curve.specs.Moment.{IsFirst}
use Rattle.admission.specs.Fit.{IsAbove, IsBend, IsBendAbove}
use Rattle.admission.specs.Bends.{last_bend, IsOwnBendAbove, IsBendAmong, earlier_of}

-- one more curve at the end
pub last_bend-more : (ss : List Curve) (s : Curve) → last_bend (ss ++ s ∷ []) ≡ max (last_bend ss) s.d
last_bend-more [] s = omega arith
last_bend-more (x ∷ ss) s = let rest = last_bend-more ss s in omega arith

pub last_bend-take : (ss : List Curve) (i : ℕ) (d : Curve) → i < length ss → last_bend (take (i + 1) ss) ≡ max (last_bend (take i ss)) (get_or ss i d).d
last_bend-take ss i d h = ap last_bend (take_more ss i d h) ∙ last_bend-more (take i ss) (get_or ss i d)

bend_before : (ss : List Curve) (s : Curve) (t : ℕ) → IsBend ss t → IsBend (ss ++ s ∷ []) t
bend_before [] s t b = absurd b
bend_before (x ∷ ss) s t (inl b) = inl b
bend_before (x ∷ ss) s t (inr b) = inr (bend_before ss s t b)

bend_at_end : (ss : List Curve) (s : Curve) (t : ℕ) → s.d ≡ t → 0 < t → IsBend (ss ++ s ∷ []) t
bend_at_end [] s t e h = inl (e, h)
bend_at_end (x ∷ ss) s t e h = inr (bend_at_end ss s t e h)

bend_is : (ss : List Curve) (s : Curve) (t : ℕ) → IsBend (ss ++ s ∷ []) t → IsBend ss t ⊎ ((s.d ≡ t) × (0 < t))
bend_is [] s t (inl b) = inr b
bend_is [] s t (inr b) = absurd b
bend_is (x ∷ ss) s t (inl b) = inl (inl b)
bend_is (x ∷ ss) s t (inr b) = go (bend_is ss s t b)
  where
    go : IsBend ss t ⊎ ((s.d ≡ t) × (0 < t)) → IsBend (x ∷ ss) t ⊎ ((s.d ≡ t) × (0 < t))
    go (inl c) = inl (inr c)
    go (inr c) = inr c

-- the first moment of either of two facts is the earlier of their first moments
first_of_either : (P Q R : ℕ → Type 0) (a b : Option ℕ) → IsFirst P a → IsFirst Q b
    → ((t : ℕ) → P t → R t) → ((t : ℕ) → Q t → R t) → ((t : ℕ) → R t → P t ⊎ Q t) → IsFirst R (earlier_of a b)
first_of_either P Q R None None f g p q r = λ t x. elim (r t x) [ inl y ↦ f t y | inr y ↦ g t y ]
first_of_either P Q R None (Some y) f g p q r = (q y g.0, λ t x. elim (r t x) [ inl z ↦ absurd (f t z) | inr z ↦ g.1 t z ])
first_of_either P Q R (Some x) None f g p q r = (p x f.0, λ t y. elim (r t y) [ inl z ↦ f.1 t z | inr z ↦ absurd (g t z) ])
first_of_either P Q R (Some x) (Some y) f g p q r = (go (cases_lt x y), λ t u. elim (r t u) [ inl z ↦ left t (f.1 t z) | inr z ↦ right t (g.1 t z) ])
  where
    go : (x < y) ⊎ (y ≤ x) → R (min x y)
    go (inl h) = let e : min x y ≡ x = omega arith in rw e (p x f.0)
    go (inr h) = let e : min x y ≡ y = omega arith in rw e (q y g.0)

    left : (t : ℕ) → x ≤ t → min x y ≤ t
    left t h = omega arith

    right : (t : ℕ) → y ≤ t → min x y ≤ t
    right t h = omega arith

-- one more curve in the search for the least breakpoint at which the sum is above
pub among_more : (rate : ℕ) (all some : List Curve) (s : Curve) (a b : Option ℕ) → IsFirst (IsBendAmong rate all some) a
    → IsFirst (IsOwnBendAbove rate all s) b → IsFirst (IsBendAmong rate all (some ++ s ∷ [])) (earlier_of a b)
among_more rate all some s a b f g =
    first_of_either (IsBendAmong rate all some) (IsOwnBendAbove rate all s) (IsBendAmong rate all (some ++ s ∷ [])) a b f g
    (λ t x. record { bend = bend_before some s t x.bend; above = x.above })
    (λ t x. record { bend = bend_at_end some s t x.bend x.after; above = x.above })
    (λ t x. go t x.above (bend_is some s t x.bend))
  where
    go : (t : ℕ) → IsAbove rate all t → IsBend some t ⊎ ((s.d ≡ t) × (0 < t)) → IsBendAmong rate all some t ⊎ IsOwnBendAbove rate all s t
    go t x (inl b) = inl (record { bend = b; above = x })
    go t x (inr b) = inr (record { bend = b.0; after = b.1; above = x })

pub among_taken : (rate : ℕ) (all : List Curve) (i : ℕ) (d : Curve) (a b : Option ℕ) → i < length all → IsFirst (IsBendAmong rate all (take i all)) a
    → IsFirst (IsOwnBendAbove rate all (get_or all i d)) b → IsFirst (IsBendAmong rate all (take (i + 1) all)) (earlier_of a b)
among_taken rate all i d a b h f g =
    subst (λ (ss : List Curve). IsFirst (IsBendAmong rate all ss) (earlier_of a b)) (sym (take_more all i d h))
    (among_more rate all (take i all) (get_or all i d) a b f g)

pub earlier_within : (most : ℕ) (a b : Option ℕ) → IfSome a (λ t. t ≤ most) → IfSome b (λ t. t ≤ most) → IfSome (earlier_of a b) (λ t. t ≤ most)
earlier_within most None b f g = g
earlier_within most (Some x) None f g = f
earlier_within most (Some x) (Some y) f g = omega arith

-- among all curves it is the one that is asked for
pub among_all : (rate : ℕ) (all : List Curve) (a : Option ℕ) → IsFirst (IsBendAmong rate all all) a → IsFirst (IsBendAbove rate all) a
among_all rate all None f = λ t x. f t (record { bend = x.bend; above = x.above })
among_all rate all (Some y) f =
    (record { bend = f.0.bend; above = f.0.above }, λ t x. f.1 t (record { bend = x.bend; above = x.above }))

-- the last breakpoint
pub last_bend_is : (ss : List Curve) → (last_bend ss ≡ 0) ⊎ IsBend ss (last_bend ss)
last_bend_is [] = inl refl
last_bend_is (s ∷ ss) = go (cases_lt (last_bend ss) s.d) (last_bend_is ss)
  where
    go : (last_bend ss < s.d) ⊎ (s.d ≤ last_bend ss) → (last_bend ss ≡ 0) ⊎ IsBend ss (last_bend ss)
        → (max s.d (last_bend ss) ≡ 0) ⊎ IsBend (s ∷ ss) (max s.d (last_bend ss))
    go (inl h) b = inr (inl (omega arith, omega arith))
    go (inr h) (inl b) = inl (omega arith)
    go (inr h) (inr b) = let e : max s.d (last_bend ss) ≡ last_bend ss = omega arith in inr (inr (rw e b))

pub bend_by_last : (ss : List Curve) (t : ℕ) → IsBend ss t → t ≤ last_bend ss
bend_by_last [] t b = absurd b
bend_by_last (s ∷ ss) t (inl b) = omega (arith, b.0)
bend_by_last (s ∷ ss) t (inr b) = let rest = bend_by_last ss t b in omega arith
