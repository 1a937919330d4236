-- What contracts see of the lists of the classes: the lists in the order of the classes, and the room for the entries of all.
use Rattle.std.specs.Prelude.{◌+◌, ℕ, List, [], ◌∷◌, length, slice_index_or}
use Rattle.leaf_queue.specs.declared.node.Entry.{Entry}

pub record Listed : Type 0 where
  pub lists : List (List Entry)
  pub room : ℕ

-- the list of a class
abbrev pub list_of : List (List Entry) → (class : ℕ) → List Entry
list_of lists class = slice_index_or lists class []

-- how many entries stand in all lists
abbrev pub total_of : List (List Entry) → ℕ
total_of [] = 0
total_of (xs ∷ lists) = length xs + total_of lists

-- the precedences of a list's entries
abbrev pub precs_in : List Entry → List ℕ
precs_in [] = []
precs_in (x ∷ xs) = x.prec ∷ precs_in xs
