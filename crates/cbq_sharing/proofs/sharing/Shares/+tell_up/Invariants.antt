use Rattle.cbq_sharing.proofs.sharing.Shares.+tell_up.Given as goal

abbrev pub decreases-tell_up : goal.decreases-tell_up
decreases-tell_up l = l.levels
