use Rattle.std.proofs.Common.{◌∙◌, sym}
use Rattle.std.proofs.lemmas.List.{append-nil}
use Rattle.gathered_writes.proofs.GatherLemmas.{stopped_flushed}
use Rattle.gathered_writes.proofs.rows.bound_rows.Goals as goal

pub returns-in-Err-clause-stopped : goal.returns-in-Err-clause-stopped
returns-in-Err-clause-stopped g c = stopped_flushed _ _ _ _ _ _ (c.flush_pending.ensures ∙ sym (append-nil _)) c.in-Err.ensures.front
