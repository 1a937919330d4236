use Rattle.gathered_writes.proofs.GatherLemmas.{grew_more, stopped_more, stopped_longer}
use Rattle.gathered_writes.proofs.gathered.gather_each.Goals as goal

pub returns-in-Err-clause-stopped : goal.returns-in-Err-clause-stopped
returns-in-Err-clause-stopped g c = stopped_longer _ _ _ _ _ _ c.in-Err.ensures.stopped

pub returns-in-Ok-gather-clause-grew : goal.returns-in-Ok-gather-clause-grew
returns-in-Ok-gather-clause-grew g c = grew_more _ _ _ _ _ _ _ _ _ c.requires c.in-Ok.ensures.grew c.in-Ok-gather.ensures.grew

pub returns-in-Err-gather-clause-stopped : goal.returns-in-Err-gather-clause-stopped
returns-in-Err-gather-clause-stopped g c = stopped_more _ _ _ _ _ _ _ _ c.requires c.in-Ok.ensures.grew c.in-Err-gather.ensures.stopped
