use Rattle.std.specs.Prelude.{length}
use Rattle.play_words.proofs.words.+are_all_distinct.Given as goal

abbrev pub decreases-are_all_distinct : goal.decreases-are_all_distinct
decreases-are_all_distinct l = length l.names.now
