-- The first of a list that has a name: where it stands, and what is found once it is changed, or another stands behind.
use Rattle.std.proofs.Common.{◌≡◌, ◌+◌, ◌∙◌, ℕ, suc, Bool, true, false, List, [], ◌∷◌, ◌++◌, Option, Some, None, position, slice_get, slice_set, bytes_eq, cond, refl, sym, ap, arith}
use Rattle.std.specs.List.{find, position_from}
use Rattle.std.proofs.lemmas.Iterator.Adapters.{position_from-zero}
use Rattle.std.proofs.lemmas.Slice.Eq.{bytes_eq-Decides}

pub equal_names : (a b : List ℕ) → bytes_eq a b ≡ true → a ≡ b
equal_names a b h = (bytes_eq-Decides a b).0 h

pub same_name : (a : List ℕ) → bytes_eq a a ≡ true
same_name a = (bytes_eq-Decides a a).1 refl

module _ {X : Type 0} (name : X → List ℕ) where
  abbrev pub named : List ℕ → List X → Option X
  named x xs = find (λ y. bytes_eq x (name y)) xs

  -- the first of a name stands at a place
  pub data First (x : List ℕ) : List X → ℕ → X → Type 0 where
    here : (y : X) (xs : List X) → bytes_eq x (name y) ≡ true → First x (y ∷ xs) 0 y
    there : (y : X) (xs : List X) (k : ℕ) (z : X) → bytes_eq x (name y) ≡ false → First x xs k z → First x (y ∷ xs) (suc k) z

  pub found : (x : List ℕ) (xs : List X) (k : ℕ) (z : X) → First x xs k z → named x xs ≡ Some z
  found x _ _ _ (here y xs e) = rw e refl
  found x _ _ _ (there y xs k z e f) = rw e (found x xs k z f)

  pub stands : (x : List ℕ) (xs : List X) (k : ℕ) (z : X) → First x xs k z → slice_get xs k ≡ Some z
  stands x _ _ _ (here y xs e) = refl
  stands x _ _ _ (there y xs k z e f) = stands x xs k z f

  pub is_named : (x : List ℕ) (xs : List X) (k : ℕ) (z : X) → First x xs k z → x ≡ name z
  is_named x _ _ _ (here y xs e) = equal_names x (name y) e
  is_named x _ _ _ (there y xs k z e f) = is_named x xs k z f

  first_from : (x : List ℕ) (xs : List X) (k i : ℕ) (z : X) → First x xs k z → position_from (λ y. bytes_eq x (name y)) i xs ≡ Some (i + k)
  first_from x _ _ i _ (here y xs e) = rw e (ap (λ n. Some n) (omega arith))
  first_from x _ _ i _ (there y xs k z e f) = rw e (first_from x xs k (i + 1) z f ∙ ap (λ n. Some n) (omega arith))

  none_from : (x : List ℕ) (xs : List X) (i : ℕ) → named x xs ≡ None → position_from (λ y. bytes_eq x (name y)) i xs ≡ None
  none_from x [] i e = refl
  none_from x (y ∷ xs) i e = go (bytes_eq x (name y)) e (none_from x xs (i + 1))
    where
      go : (b : Bool) → cond b (Some y) (named x xs) ≡ None → (named x xs ≡ None → position_from (λ y. bytes_eq x (name y)) (i + 1) xs ≡ None)
          → cond b (Some i) (position_from (λ y. bytes_eq x (name y)) (i + 1) xs) ≡ None
      go true e ih = absurd cc
      go false e ih = ih e

  pub at_place : (x : List ℕ) (xs : List X) (k : ℕ) (z : X) → First x xs k z → position (λ y. bytes_eq x (name y)) xs ≡ Some k
  at_place x xs k z f = position_from-zero (λ y. bytes_eq x (name y)) xs ∙ first_from x xs k 0 z f ∙ ap (λ n. Some n) (omega arith)

  pub at_none : (x : List ℕ) (xs : List X) → named x xs ≡ None → position (λ y. bytes_eq x (name y)) xs ≡ None
  at_none x xs e = position_from-zero (λ y. bytes_eq x (name y)) xs ∙ none_from x xs 0 e

  -- what is found is the first
  pub first_of_found : (x : List ℕ) (xs : List X) (z : X) → named x xs ≡ Some z → (k : ℕ) × First x xs k z
  first_of_found x [] z e = absurd cc
  first_of_found x (y ∷ xs) z e = go (bytes_eq x (name y)) refl e (first_of_found x xs z)
    where
      go : (b : Bool) → bytes_eq x (name y) ≡ b → cond b (Some y) (named x xs) ≡ Some z → (named x xs ≡ Some z → (k : ℕ) × First x xs k z)
          → (k : ℕ) × First x (y ∷ xs) k z
      go true h e ih = let same : y ≡ z = cc in (0, rw (← same) (here y xs h))
      go false h e ih = let t = ih e in (suc t.0, there y xs t.0 z h t.1)

  -- what stands at the place of a name is the first of this name
  pub looked : (x : List ℕ) (xs : List X) (k : ℕ) (z : X) → position (λ y. bytes_eq x (name y)) xs ≡ Some k → slice_get xs k ≡ Some z → First x xs k z
  looked x xs k z e f = go (named x xs) refl
    where
      go : (o : Option X) → named x xs ≡ o → First x xs k z
      go None h = let none = at_none x xs h in absurd cc
      go (Some w) h =
          let t = first_of_found x xs w h in
          let place = at_place x xs t.0 w t.1 in
          let there = stands x xs t.0 w t.1 in
          let same : t.0 ≡ k = cc in
          let it : w ≡ z = cc in
          rw (← same, ← it) t.1

  pub none_looked : (x : List ℕ) (xs : List X) → position (λ y. bytes_eq x (name y)) xs ≡ None → named x xs ≡ None
  none_looked x xs e = go (named x xs) refl
    where
      go : (o : Option X) → named x xs ≡ o → o ≡ None
      go None h = refl
      go (Some w) h =
          let t = first_of_found x xs w h in
          let place = at_place x xs t.0 w t.1 in
          absurd cc

  -- CHANGED to another of the same name
  pub named_set : (x u : List ℕ) (xs : List X) (k : ℕ) (z w : X) → First x xs k z → name w ≡ x
      → named u (slice_set xs k w) ≡ cond (bytes_eq u x) (Some w) (named u xs)
  named_set x u _ _ _ w (here y xs e) same =
      let n : name y ≡ x = sym (equal_names x (name y) e) in
      rw (same, n) (go (bytes_eq u x))
    where
      go : (b : Bool) → cond b (Some w) (named u xs) ≡ cond b (Some w) (cond b (Some y) (named u xs))
      go true = refl
      go false = refl
  named_set x u _ _ _ w (there y xs k z e f) same = rw (named_set x u xs k z w f same) (go (bytes_eq u (name y)) (bytes_eq u x) refl refl)
    where
      go : (a b : Bool) → bytes_eq u (name y) ≡ a → bytes_eq u x ≡ b
          → cond a (Some y) (cond b (Some w) (named u xs)) ≡ cond b (Some w) (cond a (Some y) (named u xs))
      go true true g h =
          let i : x ≡ name y = sym (equal_names u x h) ∙ equal_names u (name y) g in
          let yes : bytes_eq x (name y) ≡ true = (bytes_eq-Decides x (name y)).1 i in
          absurd cc
      go true false g h = refl
      go false b g h = refl

-- ANOTHER BEHIND
abbrev pub or_else : {X : Type 0} → Option X → Option X → Option X
or_else None other = other
or_else (Some z) other = Some z

pub named_push : {X : Type 0} (name : X → List ℕ) (u : List ℕ) (xs : List X) (y : X)
    → named name u (xs ++ y ∷ []) ≡ or_else (named name u xs) (cond (bytes_eq u (name y)) (Some y) None)
named_push name u [] y = refl
named_push {X} name u (z ∷ xs) y = go (bytes_eq u (name z)) (named_push name u xs y)
  where
    other : Option X
    other = cond (bytes_eq u (name y)) (Some y) None

    go : (b : Bool) → named name u (xs ++ y ∷ []) ≡ or_else (named name u xs) other
        → cond b (Some z) (named name u (xs ++ y ∷ [])) ≡ or_else (cond b (Some z) (named name u xs)) other
    go true ih = refl
    go false ih = ih
