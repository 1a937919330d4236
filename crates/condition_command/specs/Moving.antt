-- How far a marker has written what becomes of a file's bytes to another file.
use Rattle.std.specs.Prelude.{◌≡◌, ◌≢◌, ◌++◌, ℕ, List, [], Some, IsSome, IsTrue}
use Rattle.frame_classes.specs.Frames.{Classes, placed_by}
use Rattle.marked_files.specs.Markings.{Marking}
use Rattle.marked_files.specs.Standing.{IsAtRecordEnd}
use Rattle.play_base.specs.View.{View, NoneAppears}
use Rattle.traffic_marks.specs.Marked.{Conditioning}
use Rattle.condition_command.specs.Marking.{KeepsOthers}

-- the two files are there and, where the files tell, have two names
pub record AreApart (v : View) (from to : ℕ) : Type 0 where
  pub from_there : IsSome (v.part from)
  pub to_there : IsSome (v.part to)
  pub names : IsTrue v.tells → v.name from ≢ v.name to

-- these bytes were taken from one file, and those were written to the other
pub record HasMoved (old new : View) (from to : ℕ) (taken written : List ℕ) : Type 0 where
  pub left : IsTrue old.tells → (all : List ℕ) → old.left from ≡ Some all → (rest : List ℕ) × (all ≡ taken ++ rest) × (new.left from ≡ Some rest)
  pub grown : IsTrue old.tells → (before : List ℕ) → old.bytes (old.name to) ≡ Some before → new.bytes (old.name to) ≡ Some (before ++ written)
  pub keeps : KeepsOthers old new from to
  pub none : NoneAppears old new
  pub said : new.said ≡ old.said

-- and the marker stands for them, behind those that it stood for
pub record IsOn (old new : View) (from to : ℕ) (m n : Marking Classes) : Type 0 where
  pub taken : List ℕ
  pub written : List ℕ
  pub moved : HasMoved old new from to taken written
  pub stands : (c : Conditioning) (first : List ℕ) → IsAtRecordEnd placed_by c first [] m → IsAtRecordEnd placed_by c (first ++ taken) written n
