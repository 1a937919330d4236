-- The text of fates: a head row, and rows as the fates of a play have them.
use Rattle.std.specs.Prelude.{◌≡◌, ◌≢◌, ◌<◌, ◌+◌, ◌^◌, ◌⊎◌, ℕ, List, [], ◌∷◌, ◌++◌, length}
use Rattle.altq_model.specs.declared.Fate.{Fate}
use Rattle.altq_model.specs.declared.Fate.TheVariants.{Dropped, Sent}
use Rattle.play_text.specs.Texts.{fate_text, fates_header}
use Rattle.play_text.specs.Names.{NameList, HasClass, name_of}
use Rattle.fate_check.specs.declared.reading.Row.{Row}

-- the text of a row
abbrev pub text_of : NameList → Row → List ℕ
text_of names r = fate_text r.number r.at r.len (name_of names r.class) r.fate

abbrev pub texts_of : NameList → List Row → List ℕ
texts_of names [] = []
texts_of names (r ∷ rs) = text_of names r ++ texts_of names rs

-- start and end are below 2^64
abbrev pub FateFits : Fate → Type 0
FateFits (Dropped reason) = Unit {0}
FateFits (Sent start end rule) = (start < 2 ^ 64) × (end < 2 ^ 64)

-- a row's class is one of those, and its numbers fit: its length is below 2^32, all others are below 2^64
pub record IsRow (names : NameList) (r : Row) : Type 0 where
  pub class : HasClass names r.class
  pub number : r.number < 2 ^ 64
  pub at : r.at < 2 ^ 64
  pub len : r.len < 2 ^ 32
  pub fate : FateFits r.fate

abbrev pub AreRows : NameList → List Row → Type 0
AreRows names [] = Unit {0}
AreRows names (r ∷ rs) = IsRow names r × AreRows names rs

-- a text is the head row and these rows
pub record Reads (names : NameList) (text : List ℕ) (rs : List Row) : Type 0 where
  pub rows : AreRows names rs
  pub whole : text ≡ fates_header ++ texts_of names rs

-- the head row does not stand at the front
abbrev pub HasNoHead : (text : List ℕ) → Type 0
HasNoHead text = (rest : List ℕ) → text ≢ fates_header ++ rest

-- no row stands at the front
abbrev pub HasNoRow : NameList → (text : List ℕ) → Type 0
HasNoRow names text = (r : Row) (rest : List ℕ) → IsRow names r → text ≢ text_of names r ++ rest

-- after the head row and some rows the text goes on, and not with a row
pub record StopsAt (names : NameList) (text : List ℕ) (row : ℕ) : Type 0 where
  pub before : List Row
  pub rest : List ℕ
  pub rows : AreRows names before
  pub whole : text ≡ fates_header ++ (texts_of names before ++ rest)
  pub some : 0 < length rest
  pub none : HasNoRow names rest
  pub place : row ≡ length before + 1

-- the first row that is none; the head row is row 0
abbrev pub FailsAt : NameList → (text : List ℕ) → (row : ℕ) → Type 0
FailsAt names text row = ((row ≡ 0) × HasNoHead text) ⊎ StopsAt names text row
