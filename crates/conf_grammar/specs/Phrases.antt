-- How phrases are put together.
use Rattle.std.specs.Prelude.{◌++◌, ℕ, Bool, false, ◌||◌, List, [], ◌∷◌}
use Rattle.conf_lines.specs.declared.item.What.{What}
use Rattle.conf_lines.specs.declared.item.What.TheVariants as what
use Rattle.conf_lines.specs.declared.options.Key.{Key}
use Rattle.conf_grammar.specs.Words.{Phrase}

-- a word that says only which statement it is
pub data Fixed (text : List ℕ) : List (List ℕ) → List What → Type 0 where
  fixed : Fixed text (text ∷ []) []

-- the word of an option, and what stands behind it
pub data Option (text : List ℕ) (key : Key) (Behind : Phrase) : List (List ℕ) → List What → Type 0 where
  option : {words : List (List ℕ)} {says : List What} → Behind words says → Option text key Behind (text ∷ words) (what.Key key ∷ says)

-- one phrase, and behind it another
infixr 5 ◌▷◌
pub data ◌▷◌ (First Second : Phrase) : List (List ℕ) → List What → Type 0 where
  then : {words more : List (List ℕ)} {says rest : List What} → First words says → Second more rest
      → (First ▷ Second) (words ++ more) (says ++ rest)

-- one phrase or another
pub data Either (First Second : Phrase) : List (List ℕ) → List What → Type 0 where
  first : {words : List (List ℕ)} {says : List What} → First words says → Either First Second words says
  second : {words : List (List ℕ)} {says : List What} → Second words says → Either First Second words says

-- square brackets: a phrase or nothing
pub data Maybe (Of : Phrase) : List (List ℕ) → List What → Type 0 where
  absent : Maybe Of [] []
  present : {words : List (List ℕ)} {says : List What} → Of words says → Maybe Of words says

-- ( .. | .. )*: any number of these, in any order
pub data Many (Of : Phrase) : List (List ℕ) → List What → Type 0 where
  none : Many Of [] []
  more : {words rest : List (List ℕ)} {says others : List What} → Of words says → Many Of rest others → Many Of (words ++ rest) (says ++ others)

-- one of these options is among them
abbrev pub has : (Key → Bool) → List What → Bool
has test [] = false
has test (what.Key key ∷ says) = test key || has test says
has test (_ ∷ says) = has test says
