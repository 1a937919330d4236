-- Why words are not read.
use Rattle.std.specs.Prelude.{◌≡◌, ℕ, Bool, true, false, Option, Some, if◌then◌else◌}
use Rattle.clap.specs.declared.error.kind.ErrorKind.{ErrorKind}
use Rattle.clap.specs.declared.error.kind.ErrorKind.TheVariants.{OutOfMemory}
use Rattle.play_words.specs.declared.words.Unread.{Unread}
use Rattle.play_words.specs.declared.words.Unread.TheVariants.{Refused, NoMemory}
use Rattle.play_words.specs.declared.words.WordsFault.TheVariants.{Options}
use Rattle.play_words.specs.Kinds.{words_kind}

-- a refusal has the kind of the first test that the words fail; where memory ran out nothing is claimed of them
abbrev pub Explains : Option ℕ → Unread → Type 0
Explains kind (Refused fault) = kind ≡ Some (words_kind fault)
Explains kind NoMemory = Unit {0}

abbrev pub is_memory : ErrorKind → Bool
is_memory OutOfMemory = true
is_memory _ = false

-- any other error of clap, a call for help too, refuses the options
abbrev pub cause_of : ErrorKind → Unread
cause_of kind = if is_memory kind then NoMemory else Refused Options
