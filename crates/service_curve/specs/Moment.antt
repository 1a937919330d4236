-- The first moment at which something holds. Moments are nanoseconds; `None` means never.
use Rattle.std.specs.Prelude.{◌≤◌, ℕ, Option, None, Some}

-- the least moment at which P holds, or none exactly where P holds at no moment
abbrev pub IsFirst : (ℕ → Type 0) → Option ℕ → Type 0
IsFirst P None = (t : ℕ) → P t → ⊥
IsFirst P (Some first) = P first × ((t : ℕ) → P t → first ≤ t)

-- the moment is there and not later than t
abbrev pub HasCome : Option ℕ → ℕ → Type 0
HasCome None t = ⊥
HasCome (Some first) t = first ≤ t
