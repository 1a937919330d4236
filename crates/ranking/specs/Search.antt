-- The same order as facts, and what a binary search knows on its way.
use Rattle.std.specs.Prelude.{◌≡◌, ◌<◌, ◌≤◌, ℕ, true, false, List, [], ◌∷◌, length, slice_index, Option}
use Rattle.ranking.specs.Order.{is_before}

-- a class goes before each of these
abbrev pub IsBeforeAll : List (Option ℕ) → ℕ → List ℕ → Type 0
IsBeforeAll keys c [] = Unit {0}
IsBeforeAll keys c (d ∷ ds) = (is_before keys c d ≡ true) × IsBeforeAll keys c ds

abbrev pub IsRanked : List (Option ℕ) → List ℕ → Type 0
IsRanked keys [] = Unit {0}
IsRanked keys (c ∷ cs) = IsBeforeAll keys c cs × IsRanked keys cs

abbrev pub AreBelow : ℕ → List ℕ → Type 0
AreBelow n [] = Unit {0}
AreBelow n (c ∷ cs) = (c < n) × AreBelow n cs

-- below the first place every class goes before this one, from the second on none does
pub record IsFound (keys : List (Option ℕ)) (order : List ℕ) (class low high : ℕ) : Type 0 where
  pub in_order : low ≤ high
  pub within : high ≤ length order
  pub before : (k : ℕ) → k < low → is_before keys (slice_index order k) class ≡ true
  pub from : (k : ℕ) → high ≤ k → k < length order → is_before keys (slice_index order k) class ≡ false
