use Rattle.cbq_sharing.proofs.fixed.+has_root.Given as goal

abbrev pub decreases-has_root : goal.decreases-has_root
decreases-has_root l = l.levels
