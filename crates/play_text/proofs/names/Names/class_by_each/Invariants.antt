use Rattle.play_text.specs.Named.{pair_of}
use Rattle.play_text.proofs.NameLemmas.{Decide}
use Rattle.play_text.proofs.names.Names.class_by_each.Given as goal

-- the entries from here on decide
abbrev pub invariant-loop-named : goal.invariant-loop-named
invariant-loop-named l = Decide pair_of l.named-items l.name 0 l.named-index
