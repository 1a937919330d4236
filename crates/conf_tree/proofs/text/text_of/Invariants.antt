use Rattle.std.proofs.Common.{◌≡◌, ◌++◌, drop, string_bytes}
use Rattle.conf_tree.specs.Canonical.{canonical_text}
use Rattle.conf_tree.proofs.text.text_of.Given as goal

abbrev pub invariant-loop-interface : goal.invariant-loop-interface
invariant-loop-interface l =
    string_bytes l.out ++ canonical_text (drop l.interface-index l.interfaces) ≡ canonical_text l.interfaces
