-- The order of classes by their keys is strict and total.
use Rattle.std.proofs.Common.{◌≡◌, ◌<◌, ℕ, zero, suc, true, false, List, [], ◌∷◌, None, Some, length, refl, arith, get_or}
use Rattle.std.specs.Prelude.{Option}
use Rattle.std.proofs.lemmas.Bool.Decides.{nat_tests}
use Rattle.hfsc_model.specs.RealTime.{goes_first}
use Rattle.ranking.specs.Order.{key_of, is_before}
use Rattle.ranking.specs.Search.{IsBeforeAll, IsRanked}

pub goes_trans : (a b e : Option ℕ) (x y z : ℕ) → goes_first a x b y ≡ true → goes_first b y e z ≡ true → goes_first a x e z ≡ true
goes_trans None None None x y z f g = grind (arith, nat_tests)
goes_trans None None (Some e) x y z f g = absurd (cc)
goes_trans None (Some b) e x y z f g = absurd (cc)
goes_trans (Some a) None None x y z f g = refl
goes_trans (Some a) None (Some e) x y z f g = absurd (cc)
goes_trans (Some a) (Some b) None x y z f g = refl
goes_trans (Some a) (Some b) (Some e) x y z f g = grind (arith, nat_tests)

pub goes_not : (a : Option ℕ) (x : ℕ) → goes_first a x a x ≡ false
goes_not None x = grind (arith, nat_tests)
goes_not (Some a) x = grind (arith, nat_tests)

pub goes_other : (a b : Option ℕ) (x y : ℕ) → goes_first a x b y ≡ false → (x ≡ y → ⊥) → goes_first b y a x ≡ true
goes_other None None x y f g = grind (arith, nat_tests)
goes_other None (Some b) x y f g = refl
goes_other (Some a) None x y f g = absurd (cc)
goes_other (Some a) (Some b) x y f g = grind (arith, nat_tests)

pub before_trans : (keys : List (Option ℕ)) (x y z : ℕ) → is_before keys x y ≡ true → is_before keys y z ≡ true → is_before keys x z ≡ true
before_trans keys x y z f g = goes_trans (key_of keys x) (key_of keys y) (key_of keys z) x y z f g

-- each class goes before those that stand behind it
behind : (keys : List (Option ℕ)) (c : ℕ) (ds : List ℕ) (j : ℕ) → IsBeforeAll keys c ds → j < length ds → is_before keys c (get_or ds j 0) ≡ true
behind keys c [] j r h = absurd (omega arith)
behind keys c (d ∷ ds) zero r h = r.0
behind keys c (d ∷ ds) (suc j) r h = behind keys c ds j r.1 (omega arith)

pub in_order : (keys : List (Option ℕ)) (cs : List ℕ) (i j : ℕ) → IsRanked keys cs → i < j → j < length cs → is_before keys (get_or cs i 0) (get_or cs j 0) ≡ true
in_order keys [] i j r h k = absurd (omega arith)
in_order keys (c ∷ cs) i zero r h k = absurd (omega arith)
in_order keys (c ∷ cs) zero (suc j) r h k = behind keys c cs j r.0 (omega arith)
in_order keys (c ∷ cs) (suc i) (suc j) r h k = in_order keys cs i j r.1 (omega arith) (omega arith)
