-- Bytes that are changed in place.
use Rattle.std.specs.Prelude.{ℕ, List, ◌++◌, take, drop, length}

-- the bytes, their front overwritten by these
abbrev pub overwritten : List ℕ → List ℕ → List ℕ
overwritten old front = take (length old) (front ++ drop (length front) old)
