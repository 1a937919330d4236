-- What contracts see of a ranking.
use Rattle.std.specs.Prelude.{◌≡◌, ◌≤◌, ◌<◌, ◌==◌, ℕ, Bool, List, length, Option, if◌then◌else◌}
use Rattle.ranking.specs.declared.Ranking.{Ranking}
use Rattle.ranking.specs.Order.{is_in, key_of}
use Rattle.ranking.specs.Keys.{all_keys}

-- the key of each class, none for those before the first
abbrev pub keys_of : Ranking → List (Option ℕ)
keys_of r = all_keys r.keys

-- the first class that has a place
abbrev pub first_of : Ranking → ℕ
first_of r = r.keys.first

-- a class has a place
pub record HasPlace (r : Ranking) (class : ℕ) : Type 0 where
  pub from : first_of r ≤ class
  pub room : class < length (keys_of r)

-- the classes that are there, in their order
abbrev pub order_of : Ranking → List ℕ
order_of r = r.order.items

-- a class is there with its key, or is not there and keeps the key that it had; the others are as they were
pub record IsReplaced (class : ℕ) (is : Bool) (key : Option ℕ) (old new : Ranking) : Type 0 where
  pub first : first_of new ≡ first_of old
  pub count : length (keys_of new) ≡ length (keys_of old)
  pub classes : (c : ℕ) → is_in c (order_of new) ≡ (if class == c then is else is_in c (order_of old))
  pub keyed : key_of (keys_of new) class ≡ (if is then key else key_of (keys_of old) class)
  pub others : (c : ℕ) → (c ≡ class → ⊥) → key_of (keys_of new) c ≡ key_of (keys_of old) c
