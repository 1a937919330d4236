-- The first of a list whose number is the greatest.
use Rattle.std.proofs.Common.{◌≡◌, ℕ, ◌<◌, ◌≤◌, ◌==◌, max, Bool, true, false, cond, List, [], ◌∷◌, map, Option, Some, refl, ap, ◌∙◌, arith}
use Rattle.std.specs.Prelude.{All, find, fold}
use Rattle.std.proofs.lemmas.Bool.Decides.{nat_tests}
use Rattle.std.proofs.lemmas.List.Elements.{All-head, All-tail}

-- a fold by max
pub max_grows : {X : Type 0} (rule : X → ℕ) (a : ℕ) (xs : List X) → a ≤ fold max a (map rule xs)
max_grows rule a [] = omega arith
max_grows rule a (x ∷ xs) = omega (arith, max_grows rule (max a (rule x)) xs)

pub max_bounded : {X : Type 0} (rule : X → ℕ) (r a : ℕ) (xs : List X) → a ≤ r → All (λ x. rule x ≤ r) xs → fold max a (map rule xs) ≤ r
max_bounded rule r a [] h all = h
max_bounded rule r a (x ∷ xs) h all =
    let here : rule x ≤ r = All-head (λ x. rule x ≤ r) x xs all in
    max_bounded rule r (max a (rule x)) xs (omega arith) (All-tail (λ x. rule x ≤ r) x xs all)

max_found_step : {X : Type 0} (b : Bool) (x y : X) (n r m : ℕ) (rest : Option X) → (b ≡ true → n ≡ r) → n ≤ m → (rest ≡ Some y → r ≤ m)
    → cond b (Some x) rest ≡ Some y → r ≤ m
max_found_step true x y n r m rest e h k found = let same : n ≡ r = e refl in omega arith
max_found_step false x y n r m rest e h k found = k found

same_number : (m n : ℕ) → (m == n) ≡ true → m ≡ n
same_number m n h = grind (arith, nat_tests)

pub max_found : {X : Type 0} (rule : X → ℕ) (r a : ℕ) (xs : List X) (y : X) → find (λ x. rule x == r) xs ≡ Some y → r ≤ fold max a (map rule xs)
max_found rule r a [] y h = cc
max_found rule r a (x ∷ xs) y h =
    let most = fold max (max a (rule x)) (map rule xs) in
    let grows : max a (rule x) ≤ most = max_grows rule (max a (rule x)) xs in
    max_found_step (rule x == r) x y (rule x) r most (find (λ x. rule x == r) xs) (same_number (rule x) r) (omega arith)
    (max_found rule r (max a (rule x)) xs y) h

-- the first whose number is the greatest
abbrev pub best : {X : Type 0} → (X → ℕ) → List X → Option X
best rule xs = find (λ x. rule x == fold max 0 (map rule xs)) xs

-- the same, said of one
pub record IsFirstGreatest {X : Type 0} (rule : X → ℕ) (xs : List X) (b : X) : Type 0 where
  pub found : find (λ x. rule x == rule b) xs ≡ Some b
  pub most : All (λ x. rule x ≤ rule b) xs

pub best_is : {X : Type 0} (rule : X → ℕ) (xs : List X) (b : X) → IsFirstGreatest rule xs b → best rule xs ≡ Some b
best_is rule xs b h =
    let low : rule b ≤ fold max 0 (map rule xs) = max_found rule (rule b) 0 xs b h.found in
    let high : fold max 0 (map rule xs) ≤ rule b = max_bounded rule (rule b) 0 xs (omega arith) h.most in
    let same : fold max 0 (map rule xs) ≡ rule b = omega arith in
    ap (λ n. find (λ x. rule x == n) xs) same ∙ h.found

-- a number and another one
pub itself : (m : ℕ) → (m == m) ≡ true
itself m = grind (arith, nat_tests)

pub differs : (m n : ℕ) → m < n → (m == n) ≡ false
differs m n h = grind (arith, nat_tests)
