-- What a text of fates holds, and how far it is read.
use Rattle.std.specs.Prelude.{◌≡◌, ◌⊎◌, ◌++◌, ℕ, List, []}
use Rattle.fate_check.specs.declared.reading.Row.{Row}
use Rattle.fate_check.specs.Text.{AreRows, FailsAt, Reads, texts_of}
use Rattle.given_fates.specs.declared.fates.Fates.{Fates}
use Rattle.given_fates.specs.declared.fates.Fates.TheVariants as fates
use Rattle.play_text.specs.Names.{NameList}
use Rattle.play_text.specs.Texts.{fates_header}

-- a text is the head row and these rows, or this row is the first that is none
abbrev pub HasFates : NameList → (text : List ℕ) → Fates → Type 0
HasFates names text (fates.Rows rows) = Reads names text rows.items
HasFates names text (fates.FailsAt row) = FailsAt names text row

-- rows were read at the front of a text, and passed: what is left of it stands behind the head row
pub record ArePassed (names : NameList) (rows : List Row) (left text : List ℕ) : Type 0 where
  pub rest : List ℕ
  pub headed : left ≡ fates_header ++ rest
  pub whole : text ≡ fates_header ++ (texts_of names rows ++ rest)

-- none was read yet, or some were and passed
pub record IsReadTo (names : NameList) (rows : List Row) (left text : List ℕ) : Type 0 where
  pub are : AreRows names rows
  pub parts : ((rows ≡ []) × (text ≡ left)) ⊎ ArePassed names rows left text
