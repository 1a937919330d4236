-- The kinds by which a status of code 2 names a refusal of the words.
use Rattle.std.specs.Prelude.{ℕ}
use Rattle.play_words.specs.declared.words.WordsFault.{WordsFault}
use Rattle.play_words.specs.declared.words.WordsFault.TheVariants.{NoCommand, Options, NamesEqual, BadNumber}

abbrev pub words_kind : WordsFault → ℕ
words_kind NoCommand = 1
words_kind Options = 2
words_kind NamesEqual = 3
words_kind BadNumber = 4
