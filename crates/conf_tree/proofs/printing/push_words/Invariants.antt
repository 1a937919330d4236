use Rattle.std.proofs.Common.{◌≡◌, ◌++◌, drop, map, string_bytes}
use Rattle.conf_tree.specs.Printed.{rest_of, word_of}
use Rattle.conf_tree.proofs.printing.push_words.Given as goal

abbrev pub invariant-loop-what : goal.invariant-loop-what
invariant-loop-what l =
    string_bytes l.out ++ rest_of (map word_of (drop l.what-index l.whats)) ≡ string_bytes l.initial.out ++ rest_of (map word_of l.whats)
