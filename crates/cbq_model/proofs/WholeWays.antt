-- A walk over 8 levels is the whole way in a tree of no more.
use Rattle.std.proofs.Common.{◌≡◌, ◌≤◌, ◌<◌, ℕ, zero, suc, Bool, true, false, List, [], ◌∷◌, length, refl, sym, subst, arith, None, Some}
use Rattle.std.specs.Prelude.{Option, if◌then◌else◌}
use Rattle.cbq_model.specs.declared.CbqClass.{CbqClass}
use Rattle.cbq_model.specs.Tree.{class_of, lender_of, lenders, lenders_up, path, path_up}
use Rattle.cbq_model.specs.Ways.{IsEightDeep, IsWay, IsWayOfLoans}

-- every class has a way to the root
record HasWay (cs : List CbqClass) (o : Option ℕ) : Type 0 where
  way : List ℕ
  is : IsWay cs o way

has_way : (n : ℕ) (cs : List CbqClass) (c : ℕ) → ((c p : ℕ) → (class_of cs c).parent ≡ Some p → p < c) → c < n → HasWay cs (Some c)
has_way zero cs c e l = absurd (omega arith)
has_way (suc n) cs c e l = go (class_of cs c).parent refl (λ p. has_way n cs p e)
  where
    go : (o : Option ℕ) → (class_of cs c).parent ≡ o → ((p : ℕ) → p < n → HasWay cs (Some p)) → HasWay cs (Some c)
    go None f rest = record { way = c ∷ []; is = (refl, subst (λ (o : Option ℕ). IsWay cs o []) (sym f) tt) }
    go (Some p) f rest =
        let low = e c p f in
        let x = rest p (omega (arith, low)) in
        record { way = c ∷ x.way; is = (refl, subst (λ (o : Option ℕ). IsWay cs o x.way) (sym f) x.is) }

-- a walk over as many levels as a way has classes is that way
walk_is : (levels : ℕ) (cs : List CbqClass) (o : Option ℕ) (way : List ℕ) → IsWay cs o way → length way ≤ levels → IsWay cs o (path_up levels cs o)
walk_is zero cs None way w l = tt
walk_is zero cs (Some c) [] w l = absurd w
walk_is zero cs (Some c) (d ∷ up) w l = absurd (omega (arith, l))
walk_is (suc n) cs None way w l = tt
walk_is (suc n) cs (Some c) [] w l = absurd w
walk_is (suc n) cs (Some c) (d ∷ up) w l = (refl, walk_is n cs (class_of cs c).parent up w.1 (omega (arith, l)))

pub whole_way : (cs : List CbqClass) (c : ℕ) → IsEightDeep cs → IsWay cs (Some c) (path cs c)
whole_way cs c k =
    let x = has_way (suc c) cs c k.earlier (omega arith) in
    walk_is 8 cs (Some c) x.way x.is (k.levels c x.way x.is)

-- those that may lend stand on the way to the root
loans_in : (levels : ℕ) (cs : List CbqClass) (o : Option ℕ) (way : List ℕ) → IsWay cs o way → length way ≤ levels
    → IsWayOfLoans cs o (lenders_up levels cs o)
loans_in zero cs None way w l = tt
loans_in zero cs (Some c) [] w l = absurd w
loans_in zero cs (Some c) (d ∷ up) w l = absurd (omega (arith, l))
loans_in (suc n) cs None way w l = tt
loans_in (suc n) cs (Some c) [] w l = absurd w
loans_in (suc n) cs (Some c) (d ∷ up) w l = (refl, go (class_of cs c).borrow (loans_in n cs (class_of cs c).parent up w.1 (omega (arith, l))) (none_lends n))
  where
    none_lends : (n : ℕ) → IsWayOfLoans cs None (lenders_up n cs None)
    none_lends zero = tt
    none_lends (suc n) = tt

    go : (b : Bool) → IsWayOfLoans cs (class_of cs c).parent (lenders_up n cs (class_of cs c).parent) → IsWayOfLoans cs None (lenders_up n cs None)
        → IsWayOfLoans cs (if b then (class_of cs c).parent else None) (lenders_up n cs (if b then (class_of cs c).parent else None))
    go true lent none = lent
    go false lent none = none

pub whole_loans : (cs : List CbqClass) (c : ℕ) → IsEightDeep cs → IsWayOfLoans cs (lender_of (class_of cs c)) (lenders cs c)
whole_loans cs c k = go (class_of cs c).borrow (parent_of (class_of cs c).parent refl)
  where
    parent_of : (o : Option ℕ) → (class_of cs c).parent ≡ o → IsWayOfLoans cs (class_of cs c).parent (lenders_up 8 cs (class_of cs c).parent)
    parent_of None f = subst (λ (o : Option ℕ). IsWayOfLoans cs o (lenders_up 8 cs o)) (sym f) tt
    parent_of (Some p) f =
        let x = has_way (suc p) cs p k.earlier (omega arith) in
        subst (λ (o : Option ℕ). IsWayOfLoans cs o (lenders_up 8 cs o)) (sym f) (loans_in 8 cs (Some p) x.way x.is (k.levels p x.way x.is))

    go : (b : Bool) → IsWayOfLoans cs (class_of cs c).parent (lenders_up 8 cs (class_of cs c).parent)
        → IsWayOfLoans cs (if b then (class_of cs c).parent else None) (lenders_up 8 cs (if b then (class_of cs c).parent else None))
    go true lent = lent
    go false lent = tt
