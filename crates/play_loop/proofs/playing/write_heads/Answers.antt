use Rattle.play_base.proofs.ViewLaws.{same_trans}
use Rattle.play_loop.proofs.KeptLemmas.{fates_later, wrote_both, wrote_first}
use Rattle.play_loop.proofs.OutputLemmas.{heads_first, heads_second, heads_whole, rows_first, rows_second}
use Rattle.play_loop.proofs.playing.write_heads.Goals as goal

pub returns-in-Err-clause-stopped : goal.returns-in-Err-clause-stopped
returns-in-Err-clause-stopped g c = λ h. heads_first c.head_bytes.ensures h c.in-Err.ensures.front

pub returns-in-Ok-write_all-clause-wrote : goal.returns-in-Ok-write_all-clause-wrote
returns-in-Ok-write_all-clause-wrote g c = λ h. heads_whole c.head_bytes.ensures c.fates_header.ensures h c.in-Ok.ensures.wrote c.in-Ok-write_all.ensures.wrote

pub returns-in-Err-write_all-clause-stopped : goal.returns-in-Err-write_all-clause-stopped
returns-in-Err-write_all-clause-stopped g c = λ h. heads_second c.head_bytes.ensures c.fates_header.ensures h c.in-Ok.ensures.wrote c.in-Err-write_all.ensures.front

pub returns-in-Err-write_all-clause-others : goal.returns-in-Err-write_all-clause-others
returns-in-Err-write_all-clause-others g c = wrote_both c.requires.departures c.requires.fates c.in-Ok.ensures.wrote c.in-Err-write_all.ensures.front.1

pub returns-in-Err-write_all-clause-why : goal.returns-in-Err-write_all-clause-why
returns-in-Err-write_all-clause-why g c = fates_later (g.F.Files.view c.write_all-2.new.files) c.in-Err-write_all.trouble c.output_fault-in-Err-write_all.result c.in-Ok.ensures.wrote c.output_fault-in-Err-write_all.ensures c.in-Err-write_all.ensures.failed

pub returns-in-Ok-write_all-clause-no_fault : goal.returns-in-Ok-write_all-clause-no_fault
returns-in-Ok-write_all-clause-no_fault g c = same_trans _ _ _ c.in-Ok.ensures.counts c.in-Ok-write_all.ensures.counts

pub returns-in-Ok-write_all-clause-others : goal.returns-in-Ok-write_all-clause-others
returns-in-Ok-write_all-clause-others g c = wrote_both c.requires.departures c.requires.fates c.in-Ok.ensures.wrote c.in-Ok-write_all.ensures.wrote

pub returns-in-Err-clause-rows : goal.returns-in-Err-clause-rows
returns-in-Err-clause-rows g c = λ h. rows_first h c.in-Err.ensures.front

pub returns-in-Err-write_all-clause-rows : goal.returns-in-Err-write_all-clause-rows
returns-in-Err-write_all-clause-rows g c = λ h. rows_second c.head_bytes.ensures h c.in-Ok.ensures.wrote c.in-Err-write_all.ensures.front

pub returns-in-Err-clause-others : goal.returns-in-Err-clause-others
returns-in-Err-clause-others g c = wrote_first c.in-Err.ensures.front.1
