-- What a play leaves as it was.
use Rattle.std.specs.Prelude.{◌≡◌, ◌≢◌, ◌++◌, ℕ, List, Some, IsTrue}
use Rattle.play_base.specs.View.{View, Keeps, NoneAppears}
use Rattle.play_loop.specs.declared.fault.Opened.{Opened}

-- the name is that of neither file
abbrev pub IsOther : View → (dep fat : ℕ) → List ℕ → Type 0
IsOther v dep fat n = (n ≢ v.name dep) × (n ≢ v.name fat)

-- every name keeps its bytes but those of the two files, and every file of another name what it has left
abbrev pub KeepsBut : (dep fat : ℕ) → View → View → Type 0
KeepsBut dep fat old new = Keeps (IsOther old dep fat) (λ f. IsOther old dep fat (old.name f)) old new

-- the same but for what one file has left
abbrev pub KeepsBeside : (arr dep fat : ℕ) → View → View → Type 0
KeepsBeside arr dep fat old new = Keeps (IsOther old dep fat) (λ f. (f ≢ arr) × IsOther old dep fat (old.name f)) old new

-- where the object tells, every name that is there holds what it held, and maybe more behind it
abbrev pub Grows : View → View → Type 0
Grows old new = IsTrue old.tells → (n bytes : List ℕ) → old.bytes n ≡ Some bytes → (more : List ℕ) × (new.bytes n ≡ Some (bytes ++ more))

-- nothing changed but what writes to the two files change
pub record OnlyWrote (dep fat : ℕ) (old new : View) : Type 0 where
  pub keeps : KeepsBut dep fat old new
  pub grows : Grows old new
  pub none : NoneAppears old new
  pub said : new.said ≡ old.said

-- what the file has left is an end of what it had left
abbrev pub HasTailLeft : (file : ℕ) → View → View → Type 0
HasTailLeft file old new = (all : List ℕ) → old.left file ≡ Some all → (front : List ℕ) × (rest : List ℕ) × (all ≡ front ++ rest) × (new.left file ≡ Some rest)

-- so it is of the one file where it has another name than the two
abbrev pub TookBeside : (arr dep fat : ℕ) → View → View → Type 0
TookBeside arr dep fat old new = (p : ℕ) → old.part arr ≡ Some p → IsOther old dep fat (old.name arr) → HasTailLeft arr old new

-- nothing changed but what writes to the two files and reads of one change
pub record OnlyPlayed (arr dep fat : ℕ) (old new : View) : Type 0 where
  pub keeps : KeepsBeside arr dep fat old new
  pub grows : Grows old new
  pub took : TookBeside arr dep fat old new
  pub none : NoneAppears old new
  pub said : new.said ≡ old.said

-- the name is that of no output
abbrev pub IsNoOutput : View → Opened → List ℕ → Type 0
IsNoOutput v o n = (n ≢ v.name o.departures) × (n ≢ v.name o.fates) × (n ≢ v.name o.stats)

-- every name keeps its bytes but those of the outputs, and every file of another name but the arrivals what it has left
abbrev pub KeepsPlayed : Opened → View → View → Type 0
KeepsPlayed o old new = Keeps (IsNoOutput old o) (λ f. (f ≢ o.arrivals) × IsNoOutput old o (old.name f)) old new

-- from the arrivals bytes were only taken, where they have another name than each output
abbrev pub TookOnly : Opened → View → View → Type 0
TookOnly o old new = IsNoOutput old o (old.name o.arrivals) → HasTailLeft o.arrivals old new
