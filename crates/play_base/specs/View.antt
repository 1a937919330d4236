-- What an object of files tells, and what each call on it does. The names and bytes are lists of bytes, parts and
-- files are numbers.
use Rattle.std.specs.Prelude.{◌≡◌, ◌≢◌, ℕ, ◌+◌, ◌-◌, ◌^◌, ◌≤◌, min, Bool, IsTrue, List, [], ◌++◌, take, length, None, Some, IsSome}
use Rattle.std.specs.declared.option.Option.{Option}

-- What each part means. If `tells` is false, as for files of a disk, nothing is claimed of `bytes`, `said` and `name`;
-- what a file has left is told for each file by itself.
pub record View : Type 0 where
  pub tells : Bool
  -- the bytes under each name: None where the name isn't there
  pub bytes : List ℕ → Option (List ℕ)
  -- the text printed so far
  pub said : List ℕ
  -- the part under which each file was opened or created: None for a number that no call answered
  pub part : ℕ → Option ℕ
  -- the name under which each file was opened or created
  pub name : ℕ → List ℕ
  -- the bytes that each file has left to read: None where that isn't told
  pub left : ℕ → Option (List ℕ)
  -- the faults of each part
  pub read_faults : ℕ → ℕ
  pub write_faults : ℕ → ℕ
  -- what no call changes of an object that borrows other files: the name of the reference, and more that it fixes; [] for all others
  pub fixed : List ℕ

-- where the object tells, it tells what each of its files has left
abbrev pub TellsLeft : View → Type 0
TellsLeft v = (file part : ℕ) → IsTrue v.tells → v.part file ≡ Some part → IsSome (v.left file)

-- a count rose, or is at its greatest value, 2^64 - 1
abbrev pub Rose : ℕ → ℕ → Type 0
Rose old new = min (old + 1) (2 ^ 64 - 1) ≤ new

-- no count falls, and what is fixed stays
pub record Later (old new : View) : Type 0 where
  pub read : (part : ℕ) → old.read_faults part ≤ new.read_faults part
  pub write : (part : ℕ) → old.write_faults part ≤ new.write_faults part
  pub fixed : new.fixed ≡ old.fixed

-- every count stands
pub record SameCounts (old new : View) : Type 0 where
  pub read : (part : ℕ) → new.read_faults part ≡ old.read_faults part
  pub write : (part : ℕ) → new.write_faults part ≡ old.write_faults part

-- every count stands but that of the read faults of this part
pub record SameButReads (part : ℕ) (old new : View) : Type 0 where
  pub read : (p : ℕ) → p ≢ part → new.read_faults p ≡ old.read_faults p
  pub write : (p : ℕ) → new.write_faults p ≡ old.write_faults p

-- every count stands but that of the write faults of this part
pub record SameButWrites (part : ℕ) (old new : View) : Type 0 where
  pub read : (p : ℕ) → new.read_faults p ≡ old.read_faults p
  pub write : (p : ℕ) → p ≢ part → new.write_faults p ≡ old.write_faults p

-- The names in N keep their bytes and the files in F keep what they have left. No file changes its part or its name,
-- and no count falls.
pub record Keeps (N : List ℕ → Type 0) (F : ℕ → Type 0) (old new : View) : Type 0 where
  pub tells : new.tells ≡ old.tells
  pub bytes : (n : List ℕ) → N n → new.bytes n ≡ old.bytes n
  pub left : (f p : ℕ) → old.part f ≡ Some p → F f → new.left f ≡ old.left f
  pub part : (f p : ℕ) → old.part f ≡ Some p → new.part f ≡ Some p
  pub name : (f p : ℕ) → old.part f ≡ Some p → new.name f ≡ old.name f
  pub later : Later old new

-- every name, and every file
abbrev pub Everything : {X : Type 0} → X → Type 0
Everything x = Unit {0}

-- where the object tells: every name but this
abbrev pub OtherThan : View → List ℕ → List ℕ → Type 0
OtherThan v name n = IsTrue v.tells × (n ≢ name)

-- where the object tells: the files with another name than this
abbrev pub NotNamed : View → List ℕ → ℕ → Type 0
NotNamed v name f = IsTrue v.tells × (v.name f ≢ name)

-- no number that no call answered comes to be a file
abbrev pub NoneAppears : View → View → Type 0
NoneAppears old new = (f : ℕ) → old.part f ≡ None → new.part f ≡ None

-- nothing changes but counts
pub record Unchanged (old new : View) : Type 0 where
  pub keeps : Keeps Everything Everything old new
  pub none : NoneAppears old new
  pub said : new.said ≡ old.said

-- a file that the object did not have before, with this part and name
pub record IsNewFile (old new : View) (part_given : ℕ) (name_given : List ℕ) (file : ℕ) : Type 0 where
  pub fresh : old.part file ≡ None
  pub part : new.part file ≡ Some part_given
  pub name : IsTrue old.tells → new.name file ≡ name_given
  pub none : (f : ℕ) → f ≢ file → old.part f ≡ None → new.part f ≡ None
  pub said : new.said ≡ old.said

-- the new file has the bytes under the name left
pub record Opened (old new : View) (part : ℕ) (name : List ℕ) (file : ℕ) : Type 0 where
  pub is_new : IsNewFile old new part name file
  pub left : IsTrue old.tells → IsSome (old.bytes name) × (new.left file ≡ old.bytes name)
  pub keeps : Keeps Everything Everything old new

-- The name is there and empty, and the new file has nothing left. What older files of that name have left is open.
pub record Created (old new : View) (part : ℕ) (name : List ℕ) (file : ℕ) : Type 0 where
  pub is_new : IsNewFile old new part name file
  pub empty : IsTrue old.tells → (new.bytes name ≡ Some []) × (new.left file ≡ Some [])
  pub keeps : Keeps (λ n. n ≢ name) (λ f. old.name f ≢ name) old new

-- the file loses these bytes from the front of what it has left
pub record Took (old new : View) (file : ℕ) (bytes : List ℕ) : Type 0 where
  pub left : (all : List ℕ) → old.left file ≡ Some all → (rest : List ℕ) × (all ≡ bytes ++ rest) × (new.left file ≡ Some rest)
  pub keeps : Keeps Everything (λ f. f ≢ file) old new
  pub none : NoneAppears old new
  pub said : new.said ≡ old.said

-- The bytes under the file's name grow by these. What files of that name have left is open.
pub record Wrote (old new : View) (file : ℕ) (bytes : List ℕ) : Type 0 where
  pub grown : IsTrue old.tells → (all : List ℕ) → old.bytes (old.name file) ≡ Some all → new.bytes (old.name file) ≡ Some (all ++ bytes)
  pub keeps : Keeps (λ n. n ≢ old.name file) (λ f. old.name f ≢ old.name file) old new
  pub none : NoneAppears old new
  pub said : new.said ≡ old.said

-- the bytes under the file's name grow by a front of these
abbrev pub WroteFront : View → View → ℕ → List ℕ → Type 0
WroteFront old new file bytes = (k : ℕ) × Wrote old new file (take k bytes)

-- the text said grows by this
pub record Said (old new : View) (text : List ℕ) : Type 0 where
  pub grown : IsTrue old.tells → new.said ≡ old.said ++ text
  pub keeps : Keeps Everything Everything old new
  pub none : NoneAppears old new

-- the count of read faults of the file's part rose
abbrev pub ReadFault : View → View → ℕ → Type 0
ReadFault old new file = (p : ℕ) → old.part file ≡ Some p → Rose (old.read_faults p) (new.read_faults p)

-- the count of write faults of the file's part rose
abbrev pub WriteFault : View → View → ℕ → Type 0
WriteFault old new file = (p : ℕ) → old.part file ≡ Some p → Rose (old.write_faults p) (new.write_faults p)

-- the name is told not to be there
abbrev pub IsAbsent : View → List ℕ → Type 0
IsAbsent old name = IsTrue old.tells × (old.bytes name ≡ None)

-- the name is told not to be there, and no count rose
abbrev pub IsMissed : View → View → List ℕ → Type 0
IsMissed old new name = IsAbsent old name × SameCounts old new

-- the file is told to have nothing left
abbrev pub IsAtEnd : View → ℕ → Type 0
IsAtEnd v file = (rest : List ℕ) → v.left file ≡ Some rest → length rest ≡ 0

-- an object that tells everything, on which no call was made
pub record IsFresh (v : View) : Type 0 where
  pub tells : IsTrue v.tells
  pub said : v.said ≡ []
  pub part : (f : ℕ) → v.part f ≡ None
  pub read_faults : (part : ℕ) → v.read_faults part ≡ 0
  pub write_faults : (part : ℕ) → v.write_faults part ≡ 0
