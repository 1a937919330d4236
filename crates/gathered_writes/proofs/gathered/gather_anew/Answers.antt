use Rattle.gathered_writes.proofs.GatherLemmas.{stopped_at_front, stopped_behind, stopped_between, grew_by_itself}
use Rattle.gathered_writes.proofs.gathered.gather_anew.Goals as goal

pub returns-in-Err-clause-stopped : goal.returns-in-Err-clause-stopped
returns-in-Err-clause-stopped g c = stopped_at_front _ _ _ _ _ c.in-Err.ensures.front

pub returns-in-Ok-write_all-clause-grew : goal.returns-in-Ok-write_all-clause-grew
returns-in-Ok-write_all-clause-grew g c =
    grew_by_itself _ _ _ _ _ _ _ c.requires c.in-Ok.ensures.wrote c.in-Ok-write_all.ensures.wrote c.in-Ok.ensures.empty

pub returns-in-Err-write_all-clause-stopped : goal.returns-in-Err-write_all-clause-stopped
returns-in-Err-write_all-clause-stopped g c = stopped_behind _ _ _ _ _ _ c.requires c.in-Ok.ensures.wrote c.in-Err-write_all.ensures.front

pub returns-in-Err-extend_from_slice-clause-stopped : goal.returns-in-Err-extend_from_slice-clause-stopped
returns-in-Err-extend_from_slice-clause-stopped g c = stopped_between _ _ _ _ _ c.in-Ok.ensures.wrote
