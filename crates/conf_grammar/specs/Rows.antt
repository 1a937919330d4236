-- Lines of the worked examples, of each statement one, with what they say.
use Rattle.std.specs.Prelude.{ℕ, List, [], ◌∷◌, codes}
use Rattle.line_text.specs.Words.{words_of}
use Rattle.conf_lines.specs.declared.item.What.{What}
use Rattle.conf_lines.specs.declared.item.What.TheVariants.{Any, Ip4, Ip6, Key, Name, Rate, Skipped, Whole}
use Rattle.conf_lines.specs.declared.options.Key.TheVariants as key
use Rattle.conf_grammar.specs.Words.{Phrase}

-- a line spells this, and spells nothing
abbrev pub Says : Phrase → List ℕ → List What → Type 0
Says Spelled line says = Spelled (words_of line) says

abbrev pub SaysNothing : Phrase → List ℕ → Type 0
SaysNothing Spelled line = (says : List What) → Spelled (words_of line) says → ⊥

abbrev pub interface_says : List What
interface_says = Name (codes "if0") ∷ Key key.Bandwidth ∷ Rate 9500000 ∷ Key key.Tbrsize ∷ Skipped ∷ Key key.Hfsc ∷ []

abbrev pub hfsc_says : List What
hfsc_says =
    Name (codes "if0") ∷ Name (codes "data") ∷ Name (codes "root") ∷ Key key.Rt ∷ Rate 0 ∷ Whole 10 ∷ Rate 2000000
    ∷ Key key.Ls ∷ Rate 3000000 ∷ Whole 0 ∷ Rate 3000000 ∷ Key key.Ul ∷ Rate 6000000 ∷ Whole 20 ∷ Rate 4000000 ∷ Key key.Ecn
    ∷ Key key.Admission ∷ Skipped ∷ Key key.Default ∷ []

abbrev pub root_says : List What
root_says = Name (codes "if1") ∷ Name (codes "root") ∷ Name (codes "NULL") ∷ Key key.Qlimit ∷ Whole 20 ∷ []

abbrev pub filter_says : List What
filter_says =
    Name (codes "if0") ∷ Name (codes "voice") ∷ Key key.Name ∷ Skipped ∷ Key key.Ruleno ∷ Whole 10 ∷ Ip4 (10 ∷ 0 ∷ 0 ∷ 0 ∷ []) ∷ Key key.Netmask
    ∷ Ip4 (255 ∷ 0 ∷ 0 ∷ 0 ∷ []) ∷ Whole 0 ∷ Any ∷ Whole 5060 ∷ Whole 17 ∷ Key key.Tos ∷ Whole 184 ∷ []

abbrev pub filter6_says : List What
filter6_says =
    Name (codes "if0") ∷ Name (codes "voice") ∷ Ip6 (0 ∷ 0 ∷ 0 ∷ 0 ∷ 0 ∷ 0 ∷ 0 ∷ 0 ∷ 0 ∷ 0 ∷ 0 ∷ 0 ∷ 0 ∷ 0 ∷ 0 ∷ 1 ∷ []) 64 ∷ Whole 5004 ∷ Any ∷ Whole 0
    ∷ Whole 58 ∷ []

abbrev pub conditioner_says : List What
conditioner_says =
    Name (codes "if0") ∷ Name (codes "data") ∷ Key key.Trtcm ∷ Rate 16000000 ∷ Whole 2000 ∷ Rate 8000000 ∷ Whole 1000 ∷ Whole 4 ∷ []
