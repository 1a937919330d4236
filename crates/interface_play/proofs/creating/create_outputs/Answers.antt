-- As many of the outputs came to be as were created.
use Rattle.std.proofs.Common.{[], ◌∷◌}
use Rattle.file_plans.proofs.CameLaws.{came_more, came_none, came_unchanged}
use Rattle.file_plans.proofs.EndLaws.{came_all, came_some}
use Rattle.interface_play.proofs.creating.create_outputs.Goals as goal

pub returns-in_err-departures-clause-along : goal.returns-in_err-departures-clause-along
returns-in_err-departures-clause-along g c = came_some [] _ [] _ _ (came_unchanged [] [] _ _ _ (came_none _) c.in_err-departures.ensures.refused)

pub returns-in_err-fates-clause-along : goal.returns-in_err-fates-clause-along
returns-in_err-fates-clause-along g c =
    came_some (_ ∷ []) _ _ _ _ (came_unchanged _ _ _ _ _ c.in_ok-departures.ensures.came c.in_err-fates.ensures.refused)

pub returns-in_err-stats-clause-along : goal.returns-in_err-stats-clause-along
returns-in_err-stats-clause-along g c =
    came_some (_ ∷ _ ∷ []) _ _ _ _
    (came_unchanged _ _ _ _ _ (came_more _ _ _ _ _ _ _ c.in_ok-departures.ensures.came c.in_ok-fates.ensures.came) c.in_err-stats.ensures.refused)

pub returns-clause-along : goal.returns-clause-along
returns-clause-along g c =
    came_all _ _ _ _ (came_more _ _ _ _ _ _ _ (came_more _ _ _ _ _ _ _ c.in_ok-departures.ensures.came c.in_ok-fates.ensures.came) c.in_ok-stats.ensures.came)
