-- What passes among the first numbers.
use Rattle.std.proofs.Common.{◌≡◌, ◌<◌, ◌+◌, ◌-◌, ℕ, zero, suc, Bool, true, false, cond, List, [], ◌∷◌, ◌++◌, None, Some, map, refl, ap, sym, arith, ◌∙◌}
use Rattle.std.specs.Prelude.{Option}
use Rattle.std.specs.List.{filter, range_with_len}
use Rattle.std.proofs.lemmas.List.FromFn.{filter_of_map_range_with_len_more}
use Rattle.hfsc_model.specs.declared.HfscClass.{HfscClass}
use Rattle.hfsc_model.specs.Tree.{class_of, path_up}
use Rattle.share_gaps.specs.declared.siblings.Siblings.{Siblings}
use Rattle.share_gaps.specs.Rows.{are_siblings, pair, rows_from, rows_of}

next_in : (p : ℕ → Bool) (a n : ℕ) → filter p (range_with_len a (suc n)) ≡ filter p (range_with_len a n) ++ cond (p (a + n)) ((a + n) ∷ []) []
next_in p a zero = go (p a) (p (a + 0)) (ap p (let same : a ≡ a + 0 = omega arith in same))
  where
    here : a ≡ a + 0
    here = omega arith

    go : (b d : Bool) → b ≡ d → cond b (a ∷ []) [] ≡ cond d ((a + 0) ∷ []) []
    go true true e = ap {A = ℕ} {B = List ℕ} (λ m. m ∷ []) here
    go true false e = absurd cc
    go false true e = absurd cc
    go false false e = refl
next_in p a (suc n) = go (p a) (next_in p (a + 1) n)
  where
    there : a + 1 + n ≡ a + suc n
    there = omega arith

    at : filter p (range_with_len (a + 1) n) ++ cond (p (a + 1 + n)) ((a + 1 + n) ∷ []) [] ≡ filter p (range_with_len (a + 1) n) ++ cond (p (a + suc n)) ((a + suc n) ∷ []) []
    at = ap (λ (m : ℕ). filter p (range_with_len (a + 1) n) ++ cond (p m) (m ∷ []) []) there

    go : (b : Bool) → filter p (range_with_len (a + 1) (suc n)) ≡ filter p (range_with_len (a + 1) n) ++ cond (p (a + 1 + n)) ((a + 1 + n) ∷ []) []
        → cond b (a ∷ filter p (range_with_len (a + 1) (suc n))) (filter p (range_with_len (a + 1) (suc n)))
        ≡ cond b (a ∷ filter p (range_with_len (a + 1) n)) (filter p (range_with_len (a + 1) n)) ++ cond (p (a + suc n)) ((a + suc n) ∷ []) []
    go true rest = ap (λ (xs : List ℕ). a ∷ xs) (rest ∙ at)
    go false rest = rest ∙ at

-- one number more
pub more_passes : (p : ℕ → Bool) (n : ℕ) → p n ≡ true → filter p (range_with_len 0 (n + 1)) ≡ filter p (range_with_len 0 n) ++ n ∷ []
more_passes p n e =
    ap (λ (m : ℕ). filter p (range_with_len 0 m)) (let one : n + 1 ≡ suc n = omega arith in one) ∙ next_in p 0 n
    ∙ ap (λ (m : ℕ). filter p (range_with_len 0 n) ++ cond (p m) (m ∷ []) []) (let two : 0 + n ≡ n = omega arith in two)
    ∙ ap (λ (b : Bool). filter p (range_with_len 0 n) ++ cond b (n ∷ []) []) e

append_none : (xs : List ℕ) → xs ++ [] ≡ xs
append_none [] = refl
append_none (x ∷ xs) = ap (λ (ys : List ℕ). x ∷ ys) (append_none xs)

pub more_fails : (p : ℕ → Bool) (n : ℕ) → p n ≡ false → filter p (range_with_len 0 (n + 1)) ≡ filter p (range_with_len 0 n)
more_fails p n e =
    ap (λ (m : ℕ). filter p (range_with_len 0 m)) (let one : n + 1 ≡ suc n = omega arith in one) ∙ next_in p 0 n
    ∙ ap (λ (m : ℕ). filter p (range_with_len 0 n) ++ cond (p m) (m ∷ []) []) (let two : 0 + n ≡ n = omega arith in two)
    ∙ ap (λ (b : Bool). filter p (range_with_len 0 n) ++ cond b (n ∷ []) []) e
    ∙ append_none (filter p (range_with_len 0 n))

-- the pairs of one class more
push_rows : (cs : List HfscClass) (c n : ℕ) → filter (are_siblings cs) (map (pair c) (range_with_len 0 (n + 1)))
    ≡ filter (are_siblings cs) (map (pair c) (range_with_len 0 n)) ++ cond (are_siblings cs (pair c n)) (pair c n ∷ []) []
push_rows cs c n = filter_of_map_range_with_len_more (are_siblings cs) (pair c) 0 n n (omega arith)

pub row_joins : (cs : List HfscClass) (c n : ℕ) (old : List Siblings) → are_siblings cs (pair c n) ≡ true
    → (old ++ filter (are_siblings cs) (map (pair c) (range_with_len 0 n))) ++ pair c n ∷ []
    ≡ old ++ filter (are_siblings cs) (map (pair c) (range_with_len 0 (n + 1)))
row_joins cs c n old e =
    moved old (filter (are_siblings cs) (map (pair c) (range_with_len 0 n))) (pair c n ∷ [])
    ∙ ap (λ (xs : List Siblings). old ++ xs)
    (ap (λ (b : Bool). filter (are_siblings cs) (map (pair c) (range_with_len 0 n)) ++ cond b (pair c n ∷ []) []) (sym e) ∙ sym (push_rows cs c n))
  where
    moved : (xs ys zs : List Siblings) → (xs ++ ys) ++ zs ≡ xs ++ (ys ++ zs)
    moved [] ys zs = refl
    moved (x ∷ xs) ys zs = ap (λ (ws : List Siblings). x ∷ ws) (moved xs ys zs)

pub row_stays : (cs : List HfscClass) (c n : ℕ) (old : List Siblings) → are_siblings cs (pair c n) ≡ false
    → old ++ filter (are_siblings cs) (map (pair c) (range_with_len 0 n)) ≡ old ++ filter (are_siblings cs) (map (pair c) (range_with_len 0 (n + 1)))
row_stays cs c n old e =
    ap (λ (xs : List Siblings). old ++ xs)
    (sym (none (filter (are_siblings cs) (map (pair c) (range_with_len 0 n))))
    ∙ ap (λ (b : Bool). filter (are_siblings cs) (map (pair c) (range_with_len 0 n)) ++ cond b (pair c n ∷ []) []) (sym e) ∙ sym (push_rows cs c n))
  where
    none : (xs : List Siblings) → xs ++ [] ≡ xs
    none [] = refl
    none (x ∷ xs) = ap (λ (ys : List Siblings). x ∷ ys) (none xs)

-- the rows of one class more
rows_next : (cs : List HfscClass) (a n : ℕ) → rows_from cs (range_with_len a (suc n)) ≡ rows_from cs (range_with_len a n) ++ rows_of cs (a + n)
rows_next cs a zero = rows_none (rows_of cs a) ∙ ap (rows_of cs) (let here : a ≡ a + 0 = omega arith in here)
  where
    rows_none : (xs : List Siblings) → xs ++ [] ≡ xs
    rows_none [] = refl
    rows_none (x ∷ xs) = ap (λ (ys : List Siblings). x ∷ ys) (rows_none xs)
rows_next cs a (suc n) =
    ap (λ (ys : List Siblings). rows_of cs a ++ ys) (rows_next cs (a + 1) n)
    ∙ moved (rows_of cs a) (rows_from cs (range_with_len (a + 1) n)) (rows_of cs (a + 1 + n))
    ∙ ap (λ (m : ℕ). (rows_of cs a ++ rows_from cs (range_with_len (a + 1) n)) ++ rows_of cs m) (let there : a + 1 + n ≡ a + suc n = omega arith in there)
  where
    moved : (xs ys zs : List Siblings) → xs ++ (ys ++ zs) ≡ (xs ++ ys) ++ zs
    moved [] ys zs = refl
    moved (x ∷ xs) ys zs = ap (λ (ws : List Siblings). x ∷ ws) (moved xs ys zs)

pub rows_more : (cs : List HfscClass) (n : ℕ) → rows_from cs (range_with_len 0 (n + 1)) ≡ rows_from cs (range_with_len 0 n) ++ rows_of cs n
rows_more cs n =
    ap (λ (m : ℕ). rows_from cs (range_with_len 0 m)) (let one : n + 1 ≡ suc n = omega arith in one) ∙ rows_next cs 0 n
    ∙ ap (λ (m : ℕ). rows_from cs (range_with_len 0 n) ++ rows_of cs m) (let two : 0 + n ≡ n = omega arith in two)

-- one class more of a path
pub path_all : (n : ℕ) (cs : List HfscClass) (up : List ℕ) (o : Option ℕ) → o ≡ None → up ++ path_up n cs o ≡ up
path_all zero cs up o e = append_none up
path_all (suc n) cs up o e = ap (λ (x : Option ℕ). up ++ path_up (suc n) cs x) e ∙ append_none up

pub path_full : (n : ℕ) (cs : List HfscClass) (up : List ℕ) (o : Option ℕ) → n ≡ 0 → up ++ path_up n cs o ≡ up
path_full n cs up o e = ap (λ (m : ℕ). up ++ path_up m cs o) e ∙ append_none up

pub path_more : (k : ℕ) (cs : List HfscClass) (up : List ℕ) (c : ℕ) → k < 8 → up ++ path_up (8 - k) cs (Some c) ≡ (up ++ c ∷ []) ++ path_up (8 - (k + 1)) cs (class_of cs c).parent
path_more k cs up c low =
    ap (λ (n : ℕ). up ++ path_up n cs (Some c)) (let one : 8 - k ≡ suc (8 - (k + 1)) = omega (arith, low) in one)
    ∙ moved up c (path_up (8 - (k + 1)) cs (class_of cs c).parent)
  where
    moved : (xs : List ℕ) (x : ℕ) (ys : List ℕ) → xs ++ (x ∷ ys) ≡ (xs ++ x ∷ []) ++ ys
    moved [] x ys = refl
    moved (z ∷ zs) x ys = ap (λ (ws : List ℕ). z ∷ ws) (moved zs x ys)
