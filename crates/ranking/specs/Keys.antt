-- The keys of classes from a first one on, by the numbers of the classes.
use Rattle.std.specs.Prelude.{◌≡◌, ◌≤◌, ◌<◌, ◌+◌, ℕ, zero, suc, List, ◌∷◌, length, Option, None, slice_set}
use Rattle.ranking.specs.Order.{key_of}
use Rattle.ranking.specs.declared.keys.Keys.{Keys}

-- no key for the classes before the first
abbrev pub keys_from : ℕ → List (Option ℕ) → List (Option ℕ)
keys_from zero ks = ks
keys_from (suc n) ks = None ∷ keys_from n ks

-- the key of each class
abbrev pub all_keys : Keys → List (Option ℕ)
all_keys k = keys_from k.first k.items.items

-- one key for all of `classes` classes from `first` on
pub record AreSame (first classes : ℕ) (key : Option ℕ) (k : Keys) : Type 0 where
  pub first_is : k.first ≡ first
  pub count : length (all_keys k) ≡ first + classes
  pub keys : (c : ℕ) → first ≤ c → c < first + classes → key_of (all_keys k) c ≡ key

-- a class with another key
pub record IsSet (class : ℕ) (key : Option ℕ) (old new : Keys) : Type 0 where
  pub first : new.first ≡ old.first
  pub keys : all_keys new ≡ slice_set (all_keys old) class key
