use Rattle.std.proofs.Common.{string_bytes, refl}
use Rattle.conf_tree.specs.Canonical.{interface_lines, canonical_lines, canonical_text}
use Rattle.conf_tree.proofs.PrintedLines.{one_more}
use Rattle.conf_tree.proofs.text.text_of.Goals as goal

pub loop-interface-preserved : goal.loop-interface-preserved
loop-interface-preserved c =
    one_more interface_lines canonical_lines (λ x xs. refl) (string_bytes c.loop-interface.out) (string_bytes c.push_interface.new.out)
    (canonical_text c.args.interfaces.now) c.args.interfaces.now c.loop-interface.interface-index c.interface-item.result c.loop-interface-test.true
    c.interface-item.is c.in_ok-push_interface.ensures c.loop-interface.invariant
