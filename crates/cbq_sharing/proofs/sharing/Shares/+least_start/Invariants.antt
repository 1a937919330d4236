use Rattle.cbq_sharing.proofs.sharing.Shares.+least_start.Given as goal

abbrev pub decreases-least_start : goal.decreases-least_start
decreases-least_start l = l.levels
