use Rattle.std.proofs.Common.{◌≡◌, bytes_eq, find, drop}
use Rattle.conf_tree.proofs.conf.find_interface.Given as goal

abbrev pub invariant-loop-interface : goal.invariant-loop-interface
invariant-loop-interface l =
    find (λ i. bytes_eq l.name i.name) (drop l.interface-index l.interfaces) ≡ find (λ i. bytes_eq l.name i.name) l.interfaces
