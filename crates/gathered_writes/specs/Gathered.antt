-- A file whose bytes are gathered before they are written.
use Rattle.std.specs.Prelude.{◌≡◌, ℕ, List, ◌++◌}
use Rattle.play_base.specs.View.{View, Wrote}
use Rattle.play_base.specs.Holds.{HoldsAt}

-- a front of what had been gathered and of these bytes was written, and the rest is gathered
pub record Grew (old new : View) (file : ℕ) (before after bytes : List ℕ) : Type 0 where
  pub written : List ℕ
  pub wrote : Wrote old new file written
  pub split : written ++ after ≡ before ++ bytes

-- a front of what had been gathered and of these bytes was written; what became of the rest is left open
pub record Stopped (old new : View) (file : ℕ) (before bytes : List ℕ) : Type 0 where
  pub written : List ℕ
  pub rest : List ℕ
  pub wrote : Wrote old new file written
  pub split : written ++ rest ≡ before ++ bytes

-- the file's text so far: what it holds, and then what is gathered
pub record HasText (v : View) (file : ℕ) (pending text : List ℕ) : Type 0 where
  pub written : List ℕ
  pub holds : HoldsAt v file written
  pub split : written ++ pending ≡ text

-- the file holds a front of this text
pub record HoldsFront (v : View) (file : ℕ) (text : List ℕ) : Type 0 where
  pub written : List ℕ
  pub rest : List ℕ
  pub holds : HoldsAt v file written
  pub split : written ++ rest ≡ text
