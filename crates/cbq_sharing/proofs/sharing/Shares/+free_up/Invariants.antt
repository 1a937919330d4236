use Rattle.cbq_sharing.proofs.sharing.Shares.+free_up.Given as goal

abbrev pub decreases-free_up : goal.decreases-free_up
decreases-free_up l = l.levels
