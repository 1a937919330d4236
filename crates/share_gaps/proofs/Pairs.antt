-- What the rows are, and where the rows of a path stand.
use Rattle.std.proofs.Common.{◌≡◌, ◌≤◌, ◌<◌, ◌+◌, ℕ, zero, suc, Bool, true, false, cond, List, [], ◌∷◌, ◌++◌, None, Some, length, map, refl, ap, sym, arith, ◌∙◌}
use Rattle.std.specs.Prelude.{Option, ◌||◌, ◌==◌, nat_lt, slice_get}
use Rattle.std.specs.List.{filter, range_with_len, slice_index}
use Rattle.std.proofs.lemmas.Bool.Decides.{nat_tests}
use Rattle.hfsc_model.specs.declared.HfscClass.{HfscClass}
use Rattle.hfsc_model.specs.Tree.{class_of, is_child, numbers, path, path_up, IsTree}
use Rattle.hfsc_laws.proofs.Tree.{and_true, child_within}
use Rattle.hfsc_groups.proofs.Under.{under_low}
use Rattle.share_gaps.specs.declared.siblings.Siblings.{Siblings}
use Rattle.share_gaps.specs.Rows.{are_siblings, first_in, firsts_in, is_in, pair, rows, rows_from, rows_of, second_in, seconds_in, share_parent}
use Rattle.share_gaps.specs.Within.{AreWithin}
use Rattle.share_gaps.proofs.Updates.{AreApart}

-- two children of one class
pub record IsPair (cs : List HfscClass) (s : Siblings) : Type 0 where
  pub parent : ℕ
  pub first : is_child cs parent s.first ≡ true
  pub second : is_child cs parent s.second ≡ true
  pub before : s.first < s.second

same_self : (p : ℕ) → (p == p) ≡ true
same_self p = grind (arith, nat_tests)

pub is_pair : (cs : List HfscClass) (s : Siblings) → are_siblings cs s ≡ true → IsPair cs s
is_pair cs s e =
    let both = and_true (nat_lt s.first s.second) (share_parent cs s.first s.second) e in
    go (class_of cs s.first).parent refl both.1 (grind (arith, nat_tests, both.0))
  where
    go : (o : Option ℕ) → (class_of cs s.first).parent ≡ o → (elim o [ None ↦ false | Some p ↦ is_child cs p s.second ]) ≡ true → s.first < s.second → IsPair cs s
    go None f k low = absurd cc
    go (Some p) f k low = record {
      parent = p;
      first = ap (λ (o : Option ℕ). elim o [ None ↦ false | Some q ↦ q == p ]) f ∙ same_self p;
      second = k;
      before = low;
    }

-- each row passes
abbrev AllPass : (Siblings → Bool) → List Siblings → Type 0
AllPass p [] = Unit {0}
AllPass p (s ∷ ss) = (p s ≡ true) × AllPass p ss

pass_filter : (p : Siblings → Bool) (ss : List Siblings) → AllPass p (filter p ss)
pass_filter p [] = tt
pass_filter p (s ∷ ss) = go (p s) refl (pass_filter p ss)
  where
    go : (b : Bool) → p s ≡ b → AllPass p (filter p ss) → AllPass p (cond b (s ∷ filter p ss) (filter p ss))
    go true e rest = (e, rest)
    go false e rest = rest

pass_append : (p : Siblings → Bool) (xs ys : List Siblings) → AllPass p xs → AllPass p ys → AllPass p (xs ++ ys)
pass_append p [] ys a b = b
pass_append p (x ∷ xs) ys a b = (a.0, pass_append p xs ys a.1 b)

pass_rows : (cs : List HfscClass) (xs : List ℕ) → AllPass (are_siblings cs) (rows_from cs xs)
pass_rows cs [] = tt
pass_rows cs (x ∷ xs) = pass_append (are_siblings cs) (rows_of cs x) (rows_from cs xs) (pass_filter (are_siblings cs) (map (pair x) (numbers cs))) (pass_rows cs xs)

pass_get : (p : Siblings → Bool) (ss : List Siblings) (i : ℕ) (s : Siblings) → AllPass p ss → slice_get ss i ≡ Some s → p s ≡ true
pass_get p [] i s a e = absurd (none i e)
  where
    none : (i : ℕ) → slice_get {X = Siblings} [] i ≡ Some s → ⊥
    none zero f = cc
    none (suc i) f = cc
pass_get p (x ∷ xs) zero s a e = let same : x ≡ s = cc in ap p (sym same) ∙ a.0
pass_get p (x ∷ xs) (suc i) s a e = pass_get p xs i s a.1 e

pub row_pair : (cs : List HfscClass) (ss : List Siblings) (i : ℕ) (s : Siblings) → ss ≡ rows cs → slice_get ss i ≡ Some s → IsPair cs s
row_pair cs ss i s same e =
    is_pair cs s (pass_get (are_siblings cs) (rows cs) i s (pass_rows cs (numbers cs)) (sym (ap (λ (xs : List Siblings). slice_get xs i) same) ∙ e))

pub rows_within : (cs : List HfscClass) (ss : List Siblings) → ss ≡ rows cs → AreWithin (length cs) ss
rows_within cs ss same = λ i s e.
    let x = row_pair cs ss i s same e in
    record { first = child_within cs x.parent s.first x.first; second = child_within cs x.parent s.second x.second }

-- the numbers that pass, each once
not_before : (p : ℕ → Bool) (a n c : ℕ) → c < a → is_in c (filter p (range_with_len a n)) ≡ false
not_before p a zero c low = refl
not_before p a (suc n) c low = go (p a) (a == c) refl (not_before p (a + 1) n c (omega (arith, low)))
  where
    go : (b d : Bool) → (a == c) ≡ d → is_in c (filter p (range_with_len (a + 1) n)) ≡ false
        → is_in c (cond b (a ∷ filter p (range_with_len (a + 1) n)) (filter p (range_with_len (a + 1) n))) ≡ false
    go true true e rest = absurd (grind (arith, nat_tests, e, low))
    go true false e rest = ap (λ (d : Bool). d || is_in c (filter p (range_with_len (a + 1) n))) e ∙ rest
    go false d e rest = rest

pub passes_apart : (p : ℕ → Bool) (a n : ℕ) → AreApart (filter p (range_with_len a n))
passes_apart p a zero = tt
passes_apart p a (suc n) = go (p a) (passes_apart p (a + 1) n)
  where
    go : (b : Bool) → AreApart (filter p (range_with_len (a + 1) n)) → AreApart (cond b (a ∷ filter p (range_with_len (a + 1) n)) (filter p (range_with_len (a + 1) n)))
    go true rest = (not_before p (a + 1) n a (omega arith), rest)
    go false rest = rest

pub passes_in : (p : ℕ → Bool) (a n c : ℕ) → a ≤ c → c < a + n → is_in c (filter p (range_with_len a n)) ≡ p c
passes_in p a zero c low high = absurd (omega (arith, low, high))
passes_in p a (suc n) c low high = go (p a) refl (a == c) refl (passes_in p (a + 1) n c)
  where
    go : (b : Bool) → p a ≡ b → (d : Bool) → (a == c) ≡ d → (a + 1 ≤ c → c < a + 1 + n → is_in c (filter p (range_with_len (a + 1) n)) ≡ p c)
        → is_in c (cond b (a ∷ filter p (range_with_len (a + 1) n)) (filter p (range_with_len (a + 1) n))) ≡ p c
    go true f true e rest =
        let same : a ≡ c = grind (arith, nat_tests, e) in
        ap (λ (d : Bool). d || is_in c (filter p (range_with_len (a + 1) n))) e ∙ sym (sym (ap p same) ∙ f)
    go true f false e rest =
        ap (λ (d : Bool). d || is_in c (filter p (range_with_len (a + 1) n))) e ∙ rest (grind (arith, nat_tests, e, low)) (omega (arith, high))
    go false f true e rest =
        let same : a ≡ c = grind (arith, nat_tests, e) in
        not_before p (a + 1) n c (omega (arith, same)) ∙ sym (sym (ap p same) ∙ f)
    go false f false e rest = rest (grind (arith, nat_tests, e, low)) (omega (arith, high))

-- each of the numbers that pass is below the count
pub below_all : (n : ℕ) (xs : List ℕ) → ((c : ℕ) → is_in c xs ≡ true → c < n) → (k : ℕ) → k < length xs → slice_index xs k < n
below_all n [] each k low = absurd (omega (arith, low))
below_all n (x ∷ xs) each zero low = each x (let here : (x == x) ≡ true = same_self x in ap (λ (d : Bool). d || is_in x xs) here)
below_all n (x ∷ xs) each (suc k) low = below_all n xs (λ c i. each c (later (x == c) (is_in c xs) i)) k (omega (arith, low))
  where
    later : (a b : Bool) → b ≡ true → (a || b) ≡ true
    later true b e = refl
    later false b e = e

in_range_below : (p : ℕ → Bool) (a n c : ℕ) → is_in c (filter p (range_with_len a n)) ≡ true → c < a + n
in_range_below p a zero c e = absurd cc
in_range_below p a (suc n) c e = go (p a) (a == c) refl e (in_range_below p (a + 1) n c)
  where
    go : (b d : Bool) → (a == c) ≡ d → is_in c (cond b (a ∷ filter p (range_with_len (a + 1) n)) (filter p (range_with_len (a + 1) n))) ≡ true
        → (is_in c (filter p (range_with_len (a + 1) n)) ≡ true → c < a + 1 + n) → c < a + suc n
    go true true f g rest = let same : a ≡ c = grind (arith, nat_tests, f) in omega (arith, same)
    go true false f g rest =
        let tail : is_in c (filter p (range_with_len (a + 1) n)) ≡ true = sym (ap (λ (d : Bool). d || is_in c (filter p (range_with_len (a + 1) n))) f) ∙ g in
        let low = rest tail in omega (arith, low)
    go false d f g rest = let low = rest g in omega (arith, low)

pub firsts_below : (ss : List Siblings) (way : List ℕ) (k : ℕ) → k < length (firsts_in ss way) → slice_index (firsts_in ss way) k < length ss
firsts_below ss way = below_all (length ss) (firsts_in ss way)
    (λ c i. let low = in_range_below (λ j. first_in way (slice_get ss j)) 0 (length ss) c i in omega (arith, low))

pub seconds_below : (ss : List Siblings) (way : List ℕ) (k : ℕ) → k < length (seconds_in ss way) → slice_index (seconds_in ss way) k < length ss
seconds_below ss way = below_all (length ss) (seconds_in ss way)
    (λ c i. let low = in_range_below (λ j. second_in way (slice_get ss j)) 0 (length ss) c i in omega (arith, low))

pub path_below : (cs : List HfscClass) (l : ℕ) → IsTree cs → l < length cs → (k : ℕ) → k < length (path cs l) → slice_index (path cs l) k < length cs
path_below cs l t low = below_all (length cs) (path cs l) (λ c i. let up = under_low cs c l t i in omega (arith, low, up))

-- no class stands twice on a path
path_apart_in : (n : ℕ) (cs : List HfscClass) (o : Option ℕ) → IsTree cs → AreApart (path_up n cs o)
path_apart_in zero cs o t = tt
path_apart_in (suc n) cs None t = tt
path_apart_in (suc n) cs (Some c) t = (high_out n (class_of cs c).parent (λ p e. t.earlier c p e), path_apart_in n cs (class_of cs c).parent t)
  where
    high_out : (m : ℕ) (o : Option ℕ) → ((p : ℕ) → o ≡ Some p → p < c) → is_in c (path_up m cs o) ≡ false
    high_out zero o low = refl
    high_out (suc m) None low = refl
    high_out (suc m) (Some p) low =
        let under = low p refl in
        let other : (p == c) ≡ false = grind (arith, nat_tests, under) in
        ap (λ (d : Bool). d || is_in c (path_up m cs (class_of cs p).parent)) other
        ∙ high_out m (class_of cs p).parent (λ q e. let more = t.earlier p q e in omega (arith, more, under))

pub path_apart : (cs : List HfscClass) (l : ℕ) → IsTree cs → AreApart (path cs l)
path_apart cs l t = path_apart_in 8 cs (Some l) t
