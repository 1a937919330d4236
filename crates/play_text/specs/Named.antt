-- What a stored queue class stands for.
use Rattle.std.specs.Prelude.{ℕ, List, map, string_bytes}
use Rattle.play_text.specs.declared.names.Named.{Named}
use Rattle.play_text.specs.Names.{NameList}

abbrev pub pair_of : Named → ℕ × List ℕ
pair_of named = (named.class, string_bytes named.name)

abbrev pub pairs_of : List Named → NameList
pairs_of entries = map pair_of entries
