-- One output file among several.
use Rattle.std.specs.Prelude.{◌≡◌, ◌≢◌, ℕ, List, Some, IsTrue, IsSome}
use Rattle.play_base.specs.View.{View}

-- the file is there, and where the object tells, these are the bytes under its name
pub record HoldsAt (v : View) (file : ℕ) (bytes_held : List ℕ) : Type 0 where
  pub there : IsSome (v.part file)
  pub bytes : IsTrue v.tells → v.bytes (v.name file) ≡ Some bytes_held

-- where the object tells, the two files have different names
abbrev pub Apart : View → ℕ → ℕ → Type 0
Apart v f g = IsTrue v.tells → v.name f ≢ v.name g
