use Rattle.cbq_sharing.proofs.sharing.Shares.+lends.Given as goal

abbrev pub decreases-lends : goal.decreases-lends
decreases-lends l = l.levels
