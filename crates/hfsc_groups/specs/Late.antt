-- The children that open late, in the order of the moments from which they open.
use Rattle.std.specs.Prelude.{◌≡◌, ◌+◌, ◌&&◌, ◌==◌, ℕ, nat_lt, Bool, true, false, List, [], ◌∷◌, length, Option, None, Some, if◌then◌else◌}
use Rattle.ranking.specs.Order.{is_in, key_of}
use Rattle.ranking.specs.Ranking.{HasPlace, first_of, keys_of, order_of}
use Rattle.ranking.specs.declared.Ranking.{Ranking}
use Rattle.hfsc_groups.specs.NeverLimited.{IsNeverLimited}
use Rattle.hfsc_groups.specs.declared.late.LimitedChildren.{LimitedChildren}

-- the key of each class
abbrev pub late_keys : LimitedChildren → List (Option ℕ)
late_keys l = keys_of l.ranking

-- the classes that are there, in their order
abbrev pub late_order : LimitedChildren → List ℕ
late_order l = order_of l.ranking

-- there is a place for the key of a class
abbrev pub HasLatePlace : LimitedChildren → ℕ → Type 0
HasLatePlace l c = HasPlace l.ranking c

-- no class is there; there is a place for each of `count` classes from `from` on
pub record IsNewLate (from count : ℕ) (l : LimitedChildren) : Type 0 where
  pub order : late_order l ≡ []
  pub first : first_of l.ranking ≡ from
  pub places : length (keys_of l.ranking) ≡ from + count

-- a moment is after 0 or never comes
abbrev pub is_late : Option ℕ → Bool
is_late None = true
is_late (Some t) = nat_lt 0 t

-- nor is a class that opens from this moment
pub record StaysNeverLimited (opens : Option ℕ) (r : Ranking) : Type 0 where
  pub never_limited : IsNeverLimited r
  pub at_once : is_late opens ≡ false

abbrev pub first_key : List (Option ℕ) → List ℕ → Option ℕ
first_key keys [] = Some 0
first_key keys (c ∷ cs) = key_of keys c

-- what holds before a child is placed anew, and after
pub record MayDelay (class : ℕ) (was : Bool) (old : LimitedChildren) : Type 0 where
  pub place : HasLatePlace old class
  pub there : is_in class (late_order old) ≡ (was && is_late (key_of (late_keys old) class))

pub record IsDelayed (class : ℕ) (is : Bool) (opens : Option ℕ) (old new : LimitedChildren) : Type 0 where
  pub places : (c : ℕ) → HasLatePlace old c → HasLatePlace new c
  pub classes : (c : ℕ) → is_in c (late_order new) ≡ (if class == c then is && is_late opens else is_in c (late_order old))
  pub keyed : key_of (late_keys new) class ≡ opens
  pub others : (c : ℕ) → (c ≡ class → ⊥) → key_of (late_keys new) c ≡ key_of (late_keys old) c

-- the same of the list alone
pub record MayDelayIn (class : ℕ) (was : Bool) (old : Ranking) : Type 0 where
  pub place : HasPlace old class
  pub there : is_in class (order_of old) ≡ (was && is_late (key_of (keys_of old) class))

pub record IsDelayedIn (class : ℕ) (is : Bool) (opens : Option ℕ) (old new : Ranking) : Type 0 where
  pub first : first_of new ≡ first_of old
  pub count : length (keys_of new) ≡ length (keys_of old)
  pub classes : (c : ℕ) → is_in c (order_of new) ≡ (if class == c then is && is_late opens else is_in c (order_of old))
  pub keyed : key_of (keys_of new) class ≡ opens
  pub others : (c : ℕ) → (c ≡ class → ⊥) → key_of (keys_of new) c ≡ key_of (keys_of old) c
