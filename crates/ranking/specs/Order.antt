-- Classes in the order of their keys: a list of classes, each with a key, in which every class goes before those that stand
-- behind it. A key of `None` comes after all others, and of equal keys the class that stands earlier in the file goes first.
use Rattle.std.specs.Prelude.{◌≡◌, ◌==◌, ℕ, nat_lt, Bool, true, false, List, [], ◌∷◌, Option, None, slice_index_or, if◌then◌else◌}
use Rattle.hfsc_model.specs.RealTime.{goes_first}

-- the key of a class
abbrev pub key_of : List (Option ℕ) → ℕ → Option ℕ
key_of keys c = slice_index_or keys c None

abbrev pub is_before : List (Option ℕ) → ℕ → ℕ → Bool
is_before keys c d = goes_first (key_of keys c) c (key_of keys d) d

-- a class goes before each of these
abbrev pub is_before_all : List (Option ℕ) → ℕ → List ℕ → Bool
is_before_all keys c [] = true
is_before_all keys c (d ∷ ds) = if is_before keys c d then is_before_all keys c ds else false

-- each class goes before those that stand behind it
abbrev pub is_ranked : List (Option ℕ) → List ℕ → Bool
is_ranked keys [] = true
is_ranked keys (c ∷ cs) = if is_before_all keys c cs then is_ranked keys cs else false

-- a class is in a list
abbrev pub is_in : ℕ → List ℕ → Bool
is_in c [] = false
is_in c (d ∷ ds) = if d == c then true else is_in c ds

abbrev pub are_below : ℕ → List ℕ → Bool
are_below n [] = true
are_below n (c ∷ cs) = if nat_lt c n then are_below n cs else false

-- with one class more, before the first that it goes before
abbrev pub with_class : List (Option ℕ) → List ℕ → ℕ → List ℕ
with_class keys [] c = c ∷ []
with_class keys (d ∷ ds) c = if is_before keys d c then d ∷ with_class keys ds c else c ∷ d ∷ ds

-- without a class
abbrev pub without : List ℕ → ℕ → List ℕ
without [] c = []
without (d ∷ ds) c = if d == c then ds else d ∷ without ds c

-- the same order by a key that is a function: a class goes before each of these, and each before those that stand behind it
abbrev pub GoesBefore : (ℕ → Option ℕ) → ℕ → List ℕ → Type 0
GoesBefore key c [] = Unit {0}
GoesBefore key c (d ∷ ds) = (goes_first (key c) c (key d) d ≡ true) × GoesBefore key c ds

abbrev pub AreInOrder : (ℕ → Option ℕ) → List ℕ → Type 0
AreInOrder key [] = Unit {0}
AreInOrder key (c ∷ cs) = GoesBefore key c cs × AreInOrder key cs

-- the list has exactly the classes that pass a test, in the order of a key
pub record IsOrderOf (key : ℕ → Option ℕ) (passes : ℕ → Bool) (xs : List ℕ) : Type 0 where
  pub in_order : AreInOrder key xs
  pub exactly : (c : ℕ) → is_in c xs ≡ passes c
