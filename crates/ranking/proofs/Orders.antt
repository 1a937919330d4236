-- A ranking in the words of a key that is a function.
use Rattle.std.proofs.Common.{◌≡◌, ◌<◌, ◌≤◌, ◌+◌, ◌⊎◌, inl, inr, ℕ, zero, suc, Bool, true, false, List, [], ◌∷◌, None, Some, take, length, get_or, refl, sym, ap, arith, ◌∙◌}
use Rattle.std.proofs.lemmas.Bool.{cases_lt}
use Rattle.std.specs.Prelude.{Option, ◌==◌, cond, if◌then◌else◌}
use Rattle.std.specs.List.{find}
use Rattle.std.proofs.lemmas.Bool.Decides.{nat_tests}
use Rattle.hfsc_model.specs.RealTime.{goes_first}
use Rattle.ranking.specs.Order.{key_of, is_ranked, are_below, is_in, GoesBefore, AreInOrder, IsOrderOf}
use Rattle.ranking.specs.Search.{IsBeforeAll, IsRanked, AreBelow}
use Rattle.ranking.specs.declared.Ranking.{Ranking}
use Rattle.ranking.specs.Ranking.{IsReplaced, keys_of}
use Rattle.ranking.proofs.Ranks.{ranked_true, below_true, same_test, in_more}

goes_before : (keys : List (Option ℕ)) (key : ℕ → Option ℕ) (c : ℕ) (ds : List ℕ) → key_of keys c ≡ key c
    → ((d : ℕ) → is_in d ds ≡ true → key_of keys d ≡ key d) → IsBeforeAll keys c ds → GoesBefore key c ds
goes_before keys key c [] e f r = tt
goes_before keys key c (d ∷ ds) e f r =
    let one : key_of keys d ≡ key d = f d (rw (same_test d) refl) in (
      sym (ap (λ (k : Option ℕ). goes_first k c (key_of keys d) d) e ∙ ap (λ (k : Option ℕ). goes_first (key c) c k d) one) ∙ r.0,
      goes_before keys key c ds e (λ x i. f x (in_more d x ds i)) r.1,
    )

in_order : (keys : List (Option ℕ)) (key : ℕ → Option ℕ) (cs : List ℕ) → ((d : ℕ) → is_in d cs ≡ true → key_of keys d ≡ key d) → IsRanked keys cs → AreInOrder key cs
in_order keys key [] f r = tt
in_order keys key (c ∷ cs) f r =
    (goes_before keys key c cs (f c (rw (same_test c) refl)) (λ d i. f d (in_more c d cs i)) r.0, in_order keys key cs (λ d i. f d (in_more c d cs i)) r.1)

-- what stands in a list is below the count of its classes
not_in : (n : ℕ) (c : ℕ) (xs : List ℕ) → AreBelow n xs → n ≤ c → is_in c xs ≡ false
not_in n c [] r h = refl
not_in n c (x ∷ xs) r h = go (x == c) refl (not_in n c xs r.1 h)
  where
    go : (b : Bool) → (x == c) ≡ b → is_in c xs ≡ false → (if b then true else is_in c xs) ≡ false
    go true e i = absurd (grind (arith, nat_tests, e, r.0, h))
    go false e i = i

pub outside : (n : ℕ) (c : ℕ) (xs : List ℕ) → are_below n xs ≡ true → n ≤ c → is_in c xs ≡ false
outside n c xs r h = not_in n c xs (below_true n xs r) h

pub is_order : (keys : List (Option ℕ)) (key : ℕ → Option ℕ) (passes : ℕ → Bool) (xs : List ℕ) → is_ranked keys xs ≡ true
    → ((c : ℕ) → is_in c xs ≡ passes c) → ((d : ℕ) → passes d ≡ true → key_of keys d ≡ key d) → IsOrderOf key passes xs
is_order keys key passes xs r i f = record { in_order = in_order keys key xs (λ d j. f d (sym (i d) ∙ j)) (ranked_true keys xs r); exactly = i }

-- of a list in order the first that passes a test goes before all others that do
pub record IsFirstThat (key : ℕ → Option ℕ) (test : ℕ → Bool) (xs : List ℕ) (c : ℕ) : Type 0 where
  pub passes : test c ≡ true
  pub there : is_in c xs ≡ true
  pub first : (d : ℕ) → is_in d xs ≡ true → test d ≡ true → (d ≡ c → ⊥) → goes_first (key c) c (key d) d ≡ true

pub goes : (key : ℕ → Option ℕ) (c d : ℕ) (ds : List ℕ) → GoesBefore key c ds → is_in d ds ≡ true → goes_first (key c) c (key d) d ≡ true
goes key c d [] r i = absurd cc
goes key c d (x ∷ xs) r i = go (x == d) refl i (goes key c d xs r.1)
  where
    go : (b : Bool) → (x == d) ≡ b → (if b then true else is_in d xs) ≡ true → (is_in d xs ≡ true → goes_first (key c) c (key d) d ≡ true) → goes_first (key c) c (key d) d ≡ true
    go true e i rest = let same : x ≡ d = grind (arith, nat_tests, e) in ap (λ n. goes_first (key c) c (key n) n) (sym same) ∙ r.0
    go false e i rest = rest i

pub behind : (x d : ℕ) (xs : List ℕ) → is_in d (x ∷ xs) ≡ true → (x ≡ d → ⊥) → is_in d xs ≡ true
behind x d xs i n = go (x == d) refl i
  where
    go : (b : Bool) → (x == d) ≡ b → (if b then true else is_in d xs) ≡ true → is_in d xs ≡ true
    go true e i = absurd (n (grind (arith, nat_tests, e)))
    go false e i = i

differs : (test : ℕ → Bool) (x d : ℕ) → test x ≡ false → test d ≡ true → x ≡ d → ⊥
differs test x d f t s = let one : test x ≡ test d = ap test s in cc

pub found_first : (key : ℕ → Option ℕ) (test : ℕ → Bool) (xs : List ℕ) (c : ℕ) → AreInOrder key xs → find test xs ≡ Some c → IsFirstThat key test xs c
found_first key test [] c r e = absurd cc
found_first key test (x ∷ xs) c r e = go (test x) refl e (found_first key test xs c r.1)
  where
    go : (b : Bool) → test x ≡ b → cond b (Some x) (find test xs) ≡ Some c → (find test xs ≡ Some c → IsFirstThat key test xs c) → IsFirstThat key test (x ∷ xs) c
    go true f e rest =
        let same : x ≡ c = cc in
        record {
          passes = ap test (sym same) ∙ f;
          there = rw same (rw (same_test c) refl);
          first = λ d i t n. ap (λ m. goes_first (key m) m (key d) d) (sym same) ∙ goes key x d xs r.0 (behind x d xs i (λ s. n (sym s ∙ same)));
        }
    go false f e rest =
        let found = rest e in
        record {
          passes = found.passes;
          there = in_more x c xs found.there;
          first = λ d i t n. found.first d (behind x d xs i (differs test x d f t)) t n;
        }

-- where none is found none passes
pub found_none : (test : ℕ → Bool) (xs : List ℕ) (d : ℕ) → find test xs ≡ None → is_in d xs ≡ true → test d ≡ true → ⊥
found_none test [] d e i t = cc
found_none test (x ∷ xs) d e i t = go (test x) refl e (found_none test xs d)
  where
    go : (b : Bool) → test x ≡ b → cond b (Some x) (find test xs) ≡ None → (find test xs ≡ None → is_in d xs ≡ true → test d ≡ true → ⊥) → ⊥
    go true f e rest = cc
    go false f e rest = rest e (behind x d xs i (differs test x d f t)) t

-- where no class of the list passes none is found
pub find_none : (test : ℕ → Bool) (xs : List ℕ) → ((c : ℕ) → is_in c xs ≡ true → test c ≡ false) → find test xs ≡ None
find_none test [] f = refl
find_none test (x ∷ xs) f =
    let fails : test x ≡ false = f x (rw (same_test x) refl) in
    rw fails (find_none test xs (λ c i. f c (in_more x c xs i)))

-- the look at one class more
find_next : (test : ℕ → Bool) (xs : List ℕ) (k : ℕ) → find test (take k xs) ≡ None → k < length xs → test (get_or xs k 0) ≡ false → find test (take (suc k) xs) ≡ None
find_next test [] k e h f = absurd (omega arith)
find_next test (x ∷ xs) zero e h f = rw f refl
find_next test (x ∷ xs) (suc k) e h f = go (test x) refl e (find_next test xs k)
  where
    go : (b : Bool) → test x ≡ b → cond b (Some x) (find test (take k xs)) ≡ None
        → (find test (take k xs) ≡ None → k < length xs → test (get_or xs k 0) ≡ false → find test (take (suc k) xs) ≡ None)
        → cond b (Some x) (find test (take (suc k) xs)) ≡ None
    go true g e rest = e
    go false g e rest = rest e (omega arith) f

pub find_more : (test : ℕ → Bool) (xs : List ℕ) (k : ℕ) → find test (take k xs) ≡ None → k < length xs → test (get_or xs k 0) ≡ false → find test (take (k + 1) xs) ≡ None
find_more test xs k e h f = let one : k + 1 ≡ suc k = omega arith in ap (λ n. find test (take n xs)) one ∙ find_next test xs k e h f

pub find_hit : (test : ℕ → Bool) (xs : List ℕ) (k : ℕ) → find test (take k xs) ≡ None → k < length xs → test (get_or xs k 0) ≡ true → Some (get_or xs k 0) ≡ find test xs
find_hit test [] k e h f = absurd (omega arith)
find_hit test (x ∷ xs) zero e h f = rw f refl
find_hit test (x ∷ xs) (suc k) e h f = go (test x) refl e (find_hit test xs k)
  where
    go : (b : Bool) → test x ≡ b → cond b (Some x) (find test (take k xs)) ≡ None
        → (find test (take k xs) ≡ None → k < length xs → test (get_or xs k 0) ≡ true → Some (get_or xs k 0) ≡ find test xs)
        → Some (get_or xs k 0) ≡ cond b (Some x) (find test xs)
    go true g e rest = absurd cc
    go false g e rest = rest e (omega arith) f

-- each class of a list is below the count of its classes
at_below : (n : ℕ) (xs : List ℕ) (k : ℕ) → AreBelow n xs → k < length xs → get_or xs k 0 < n
at_below n [] k r h = absurd (omega arith)
at_below n (x ∷ xs) zero r h = r.0
at_below n (x ∷ xs) (suc k) r h = at_below n xs k r.1 (omega arith)

pub item_below : (n : ℕ) (xs : List ℕ) (k : ℕ) → are_below n xs ≡ true → k < length xs → get_or xs k 0 < n
item_below n xs k r h = at_below n xs k (below_true n xs r) h

pub in_below : (n : ℕ) (c : ℕ) (xs : List ℕ) → are_below n xs ≡ true → is_in c xs ≡ true → c < n
in_below n c xs r i = go (cases_lt c n)
  where
    go : (c < n) ⊎ (n ≤ c) → c < n
    go (inl h) = h
    go (inr h) = let no : is_in c xs ≡ false = outside n c xs r h in absurd cc

-- a class that was put in has its new key
pub key_in : (class : ℕ) (is : Bool) (key : Option ℕ) (old new : Ranking) → IsReplaced class is key old new → is ≡ true → key_of (keys_of new) class ≡ key
key_in class is key old new r e = r.keyed ∙ ap (λ b. if b then key else key_of (keys_of old) class) e
