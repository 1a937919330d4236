-- Lists in order stay so where a class comes or goes.
use Rattle.std.proofs.Common.{◌≡◌, ◌<◌, ◌≤◌, ◌+◌, ℕ, zero, suc, Bool, true, false, List, [], ◌∷◌, length, refl, sym, ap, arith, ◌∙◌}
use Rattle.std.specs.Prelude.{◌==◌, nat_lt, if◌then◌else◌, Option}
use Rattle.std.proofs.lemmas.Bool.Decides.{nat_tests}
use Rattle.hfsc_model.specs.RealTime.{goes_first}
use Rattle.ranking.specs.Order.{key_of, is_before, is_before_all, is_ranked, are_below, is_in, with_class, without}
use Rattle.ranking.specs.Search.{IsBeforeAll, IsRanked, AreBelow}
use Rattle.ranking.proofs.Ordered.{goes_not, goes_other, before_trans}
use Rattle.ranking.proofs.Placed.{before_in}

-- what is before a class is before all behind it
before_more : (keys : List (Option ℕ)) (x y : ℕ) (ys : List ℕ) → is_before keys x y ≡ true → IsBeforeAll keys y ys → IsBeforeAll keys x ys
before_more keys x y [] e r = tt
before_more keys x y (z ∷ zs) e r = (before_trans keys x y z e r.0, before_more keys x y zs e r.1)

before_with : (keys : List (Option ℕ)) (x c : ℕ) (xs : List ℕ) → is_before keys x c ≡ true → IsBeforeAll keys x xs → IsBeforeAll keys x (with_class keys xs c)
before_with keys x c [] e r = (e, tt)
before_with keys x c (y ∷ ys) e r = go (is_before keys y c) (before_with keys x c ys e r.1)
  where
    go : (b : Bool) → IsBeforeAll keys x (with_class keys ys c) → IsBeforeAll keys x (if b then y ∷ with_class keys ys c else c ∷ y ∷ ys)
    go true w = (r.0, w)
    go false w = (e, r)

pub with_ranked : (keys : List (Option ℕ)) (xs : List ℕ) (c : ℕ) → IsRanked keys xs → is_in c xs ≡ false → IsRanked keys (with_class keys xs c)
with_ranked keys [] c r i = (tt, tt)
with_ranked keys (x ∷ xs) c r i = go (x == c) (is_before keys x c) refl refl i (with_ranked keys xs c r.1)
  where
    go : (a b : Bool) → (x == c) ≡ a → is_before keys x c ≡ b → (if a then true else is_in c xs) ≡ false
        → (is_in c xs ≡ false → IsRanked keys (with_class keys xs c)) → IsRanked keys (if b then x ∷ with_class keys xs c else c ∷ x ∷ xs)
    go true b e f i rest = absurd cc
    go false true e f i rest = (before_with keys x c xs f r.0, rest i)
    go false false e f i rest =
        let other : is_before keys c x ≡ true = goes_other (key_of keys x) (key_of keys c) x c f (λ same. grind (arith, nat_tests, same, e)) in
        ((other, before_more keys c x xs other r.0), r)

pub with_in : (keys : List (Option ℕ)) (xs : List ℕ) (c d : ℕ) → is_in d (with_class keys xs c) ≡ (if c == d then true else is_in d xs)
with_in keys [] c d = refl
with_in keys (x ∷ xs) c d = go (is_before keys x c) (x == d) (c == d) (with_in keys xs c d)
  where
    go : (a b e : Bool) → is_in d (with_class keys xs c) ≡ (if c == d then true else is_in d xs)
        → is_in d (if a then x ∷ with_class keys xs c else c ∷ x ∷ xs) ≡ (if c == d then true else if x == d then true else is_in d xs)
    go true b e rest = elim (x == d) as (λ v. (if v then true else is_in d (with_class keys xs c)) ≡ (if c == d then true else if v then true else is_in d xs))
        [ true ↦ elim (c == d) as (λ v. true ≡ (if v then true else true)) [ true ↦ refl | false ↦ refl ] | false ↦ rest ]
    go false b e rest = refl

with_length : (keys : List (Option ℕ)) (xs : List ℕ) (c : ℕ) → length (with_class keys xs c) ≡ length xs + 1
with_length keys [] c = refl
with_length keys (x ∷ xs) c = go (is_before keys x c) (with_length keys xs c)
  where
    go : (b : Bool) → length (with_class keys xs c) ≡ length xs + 1 → length (if b then x ∷ with_class keys xs c else c ∷ x ∷ xs) ≡ length (x ∷ xs) + 1
    go true e = omega arith
    go false e = omega arith

pub with_below : (keys : List (Option ℕ)) (n : ℕ) (xs : List ℕ) (c : ℕ) → c < n → AreBelow n xs → AreBelow n (with_class keys xs c)
with_below keys n [] c h r = (h, tt)
with_below keys n (x ∷ xs) c h r = go (is_before keys x c) (with_below keys n xs c h r.1)
  where
    go : (b : Bool) → AreBelow n (with_class keys xs c) → AreBelow n (if b then x ∷ with_class keys xs c else c ∷ x ∷ xs)
    go true w = (r.0, w)
    go false w = (h, r)

-- without a class
before_without : (keys : List (Option ℕ)) (x c : ℕ) (xs : List ℕ) → IsBeforeAll keys x xs → IsBeforeAll keys x (without xs c)
before_without keys x c [] r = tt
before_without keys x c (y ∷ ys) r = go (y == c) (before_without keys x c ys r.1)
  where
    go : (b : Bool) → IsBeforeAll keys x (without ys c) → IsBeforeAll keys x (if b then ys else y ∷ without ys c)
    go true w = r.1
    go false w = (r.0, w)

pub without_ranked : (keys : List (Option ℕ)) (xs : List ℕ) (c : ℕ) → IsRanked keys xs → IsRanked keys (without xs c)
without_ranked keys [] c r = tt
without_ranked keys (x ∷ xs) c r = go (x == c) (without_ranked keys xs c r.1)
  where
    go : (b : Bool) → IsRanked keys (without xs c) → IsRanked keys (if b then xs else x ∷ without xs c)
    go true w = r.1
    go false w = (before_without keys x c xs r.0, w)

-- a class does not stand behind itself
pub not_behind : (keys : List (Option ℕ)) (x : ℕ) (xs : List ℕ) (b : Bool) → is_in x xs ≡ b → IsBeforeAll keys x xs → b ≡ false
not_behind keys x xs false e r = refl
not_behind keys x xs true e r =
    let yes : is_before keys x x ≡ true = before_in keys x x xs r e in
    let no : is_before keys x x ≡ false = goes_not (key_of keys x) x in
    absurd cc

pub without_in : (keys : List (Option ℕ)) (xs : List ℕ) (c d : ℕ) → IsRanked keys xs → is_in d (without xs c) ≡ (if c == d then false else is_in d xs)
without_in keys [] c d r = elim (c == d) as (λ v. false ≡ (if v then false else false)) [ true ↦ refl | false ↦ refl ]
without_in keys (x ∷ xs) c d r = go (x == c) (x == d) (c == d) refl refl refl (without_in keys xs c d r.1)
  where
    go : (a b e : Bool) → (x == c) ≡ a → (x == d) ≡ b → (c == d) ≡ e → is_in d (without xs c) ≡ (if c == d then false else is_in d xs)
        → is_in d (if a then xs else x ∷ without xs c) ≡ (if e then false else if b then true else is_in d xs)
    go true true true f g h rest =
        let same : x ≡ d = grind (arith, nat_tests, g) in
        ap (λ n. is_in n xs) (sym same) ∙ not_behind keys x xs (is_in x xs) refl r.0
    go true true false f g h rest = absurd (grind (arith, nat_tests, f, g, h))
    go true false true f g h rest = absurd (grind (arith, nat_tests, f, g, h))
    go true false false f g h rest = refl
    go false true true f g h rest = absurd (grind (arith, nat_tests, f, g, h))
    go false true false f g h rest = rw g refl
    go false false true f g h rest = rw g (rest ∙ rw h refl)
    go false false false f g h rest = rw g (rest ∙ rw h refl)

pub without_length : (xs : List ℕ) (c : ℕ) → is_in c xs ≡ true → length (without xs c) + 1 ≡ length xs
without_length [] c i = absurd cc
without_length (x ∷ xs) c i = go (x == c) i (without_length xs c)
  where
    go : (b : Bool) → (if b then true else is_in c xs) ≡ true → (is_in c xs ≡ true → length (without xs c) + 1 ≡ length xs)
        → length (if b then xs else x ∷ without xs c) + 1 ≡ length (x ∷ xs)
    go true i rest = omega arith
    go false i rest = let e = rest i in omega arith

pub without_below : (n : ℕ) (xs : List ℕ) (c : ℕ) → AreBelow n xs → AreBelow n (without xs c)
without_below n [] c r = tt
without_below n (x ∷ xs) c r = go (x == c) (without_below n xs c r.1)
  where
    go : (b : Bool) → AreBelow n (without xs c) → AreBelow n (if b then xs else x ∷ without xs c)
    go true w = r.1
    go false w = (r.0, w)

-- as many classes as there are numbers
below_less : (n : ℕ) (xs : List ℕ) → AreBelow (suc n) xs → is_in n xs ≡ false → AreBelow n xs
below_less n [] r i = tt
below_less n (x ∷ xs) r i = go (x == n) refl i (below_less n xs r.1)
  where
    go : (b : Bool) → (x == n) ≡ b → (if b then true else is_in n xs) ≡ false → (is_in n xs ≡ false → AreBelow n xs) → (x < n) × AreBelow n xs
    go true e i rest = absurd cc
    go false e i rest = (grind (arith, nat_tests, e, r.0), rest i)

pub same_test : (m : ℕ) → (m == m) ≡ true
same_test m = grind (arith, nat_tests)

ranked_short : (keys : List (Option ℕ)) (n : ℕ) (xs : List ℕ) → IsRanked keys xs → AreBelow n xs → length xs ≤ n
ranked_short keys zero [] r b = omega arith
ranked_short keys zero (x ∷ xs) r b = absurd (omega (arith, b.0))
ranked_short keys (suc n) xs r b = go (is_in n xs) refl (ranked_short keys n xs r) (ranked_short keys n (without xs n) (without_ranked keys xs n r))
  where
    go : (v : Bool) → is_in n xs ≡ v → (AreBelow n xs → length xs ≤ n) → (AreBelow n (without xs n) → length (without xs n) ≤ n) → length xs ≤ suc n
    go true e f g =
        let gone : is_in n (without xs n) ≡ false = without_in keys xs n n r ∙ rw (same_test n) refl in
        let short = g (below_less n (without xs n) (without_below (suc n) xs n b) gone) in
        let one = without_length xs n e in
        omega arith
    go false e f g = let short = f (below_less n xs b e) in omega arith

pub has_room : (keys : List (Option ℕ)) (n : ℕ) (xs : List ℕ) (c : ℕ) → IsRanked keys xs → AreBelow n xs → c < n → is_in c xs ≡ false → length xs < n
has_room keys n xs c r b h i =
    let short = ranked_short keys n (with_class keys xs c) (with_ranked keys xs c r i) (with_below keys n xs c h b) in
    let one = with_length keys xs c in
    omega arith

pub in_more : (y d : ℕ) (ys : List ℕ) → is_in d ys ≡ true → is_in d (y ∷ ys) ≡ true
in_more y d ys i = elim (y == d) as (λ v. (if v then true else is_in d ys) ≡ true) [ true ↦ refl | false ↦ i ]

-- other keys of classes that are not in the list
before_rekeyed : (keys new : List (Option ℕ)) (x : ℕ) (xs : List ℕ) → key_of new x ≡ key_of keys x
    → ((d : ℕ) → is_in d xs ≡ true → key_of new d ≡ key_of keys d) → IsBeforeAll keys x xs → IsBeforeAll new x xs
before_rekeyed keys new x [] e f r = tt
before_rekeyed keys new x (y ∷ ys) e f r =
    let one : key_of new y ≡ key_of keys y = f y (rw (same_test y) refl) in (
      ap (λ (k : Option ℕ). goes_first k x (key_of new y) y) e ∙ ap (λ (k : Option ℕ). goes_first (key_of keys x) x k y) one ∙ r.0,
      before_rekeyed keys new x ys e (λ d i. f d (in_more y d ys i)) r.1,
    )

pub rekeyed : (keys new : List (Option ℕ)) (xs : List ℕ) → ((d : ℕ) → is_in d xs ≡ true → key_of new d ≡ key_of keys d) → IsRanked keys xs → IsRanked new xs
rekeyed keys new [] f r = tt
rekeyed keys new (x ∷ xs) f r = (
  before_rekeyed keys new x xs (f x (rw (same_test x) refl)) (λ d i. f d (in_more x d xs i)) r.0,
  rekeyed keys new xs (λ d i. f d (in_more x d xs i)) r.1,
)

-- the computed truths
pub before_all_true : (keys : List (Option ℕ)) (c : ℕ) (ds : List ℕ) → is_before_all keys c ds ≡ true → IsBeforeAll keys c ds
before_all_true keys c [] e = tt
before_all_true keys c (d ∷ ds) e = go (is_before keys c d) refl e (before_all_true keys c ds)
  where
    go : (b : Bool) → is_before keys c d ≡ b → (if b then is_before_all keys c ds else false) ≡ true
        → (is_before_all keys c ds ≡ true → IsBeforeAll keys c ds) → (is_before keys c d ≡ true) × IsBeforeAll keys c ds
    go true f e rest = (f, rest e)
    go false f e rest = absurd cc

pub true_before_all : (keys : List (Option ℕ)) (c : ℕ) (ds : List ℕ) → IsBeforeAll keys c ds → is_before_all keys c ds ≡ true
true_before_all keys c [] r = refl
true_before_all keys c (d ∷ ds) r = rw r.0 (true_before_all keys c ds r.1)

pub ranked_true : (keys : List (Option ℕ)) (cs : List ℕ) → is_ranked keys cs ≡ true → IsRanked keys cs
ranked_true keys [] e = tt
ranked_true keys (c ∷ cs) e = go (is_before_all keys c cs) refl e (ranked_true keys cs)
  where
    go : (b : Bool) → is_before_all keys c cs ≡ b → (if b then is_ranked keys cs else false) ≡ true
        → (is_ranked keys cs ≡ true → IsRanked keys cs) → IsBeforeAll keys c cs × IsRanked keys cs
    go true f e rest = (before_all_true keys c cs f, rest e)
    go false f e rest = absurd cc

pub true_ranked : (keys : List (Option ℕ)) (cs : List ℕ) → IsRanked keys cs → is_ranked keys cs ≡ true
true_ranked keys [] r = refl
true_ranked keys (c ∷ cs) r = rw (true_before_all keys c cs r.0) (true_ranked keys cs r.1)

pub below_true : (n : ℕ) (cs : List ℕ) → are_below n cs ≡ true → AreBelow n cs
below_true n [] e = tt
below_true n (c ∷ cs) e = go (nat_lt c n) refl e (below_true n cs)
  where
    go : (b : Bool) → nat_lt c n ≡ b → (if b then are_below n cs else false) ≡ true → (are_below n cs ≡ true → AreBelow n cs) → (c < n) × AreBelow n cs
    go true f e rest = (grind (arith, nat_tests, f), rest e)
    go false f e rest = absurd cc

pub true_below : (n : ℕ) (cs : List ℕ) → AreBelow n cs → are_below n cs ≡ true
true_below n [] r = refl
true_below n (c ∷ cs) r = let e : nat_lt c n ≡ true = grind (arith, nat_tests, r.0) in rw e (true_below n cs r.1)
