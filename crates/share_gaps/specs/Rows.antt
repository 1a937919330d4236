-- The pairs of siblings, in rows, and which of them a sending touches.
use Rattle.std.specs.Prelude.{◌≡◌, ◌==◌, ◌&&◌, ℕ, nat_lt, Bool, false, List, [], ◌∷◌, ◌++◌, length, map, slice_get, Option, None, Some}
use Rattle.std.specs.List.{filter, list_any, range_with_len}
use Rattle.hfsc_model.specs.declared.HfscClass.{HfscClass}
use Rattle.hfsc_model.specs.Tree.{class_of, is_child, is_leaf, numbers, path}
use Rattle.share_gaps.specs.declared.siblings.Siblings.{Siblings}
use Rattle.share_gaps.specs.declared.place.Place.{Place}

abbrev pub pair : (first second : ℕ) → Siblings
pair c d = record { first = c; second = d }

-- c and d have the same parent
abbrev pub share_parent : List HfscClass → (c d : ℕ) → Bool
share_parent cs c d = elim (class_of cs c).parent [ None ↦ false | Some p ↦ is_child cs p d ]

-- two siblings, the first of which stands earlier in the file
abbrev pub are_siblings : List HfscClass → Siblings → Bool
are_siblings cs s = nat_lt s.first s.second && share_parent cs s.first s.second

-- the pairs with this class as the first, and all pairs, in the order of the file of the first, then of the second
abbrev pub rows_of : List HfscClass → (c : ℕ) → List Siblings
rows_of cs c = filter (are_siblings cs) (map (pair c) (numbers cs))

abbrev pub rows_from : List HfscClass → List ℕ → List Siblings
rows_from cs [] = []
rows_from cs (c ∷ rest) = rows_of cs c ++ rows_from cs rest

abbrev pub rows : List HfscClass → List Siblings
rows cs = rows_from cs (numbers cs)

-- the numbers of the rows whose first or second stands in a list
abbrev pub is_in : (c : ℕ) → List ℕ → Bool
is_in c xs = list_any (λ x. x == c) xs

abbrev pub first_in : List ℕ → Option Siblings → Bool
first_in path None = false
first_in path (Some s) = is_in s.first path

abbrev pub second_in : List ℕ → Option Siblings → Bool
second_in path None = false
second_in path (Some s) = is_in s.second path

abbrev pub firsts_in : List Siblings → List ℕ → List ℕ
firsts_in ss path = filter (λ i. first_in path (slice_get ss i)) (range_with_len 0 (length ss))

abbrev pub seconds_in : List Siblings → List ℕ → List ℕ
seconds_in ss path = filter (λ i. second_in path (slice_get ss i)) (range_with_len 0 (length ss))

-- what a class has above it: its path, whether it is a leaf, and the rows of those whose first or second stands on the path
pub record IsPlace (cs : List HfscClass) (ss : List Siblings) (c : ℕ) (x : Place) : Type 0 where
  pub way : x.path.items ≡ path cs c
  pub ends : x.leaf ≡ is_leaf cs c
  pub firsts : x.firsts.items ≡ firsts_in ss (path cs c)
  pub seconds : x.seconds.items ≡ seconds_in ss (path cs c)
