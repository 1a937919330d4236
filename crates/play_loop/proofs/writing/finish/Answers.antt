use Rattle.gathered_writes.proofs.GatheredLaws.{text_whole}
use Rattle.play_base.proofs.ViewLaws.{same_trans}
use Rattle.play_loop.proofs.KeptLemmas.{fates_later, wrote_both, wrote_first}
use Rattle.play_loop.proofs.OutputLemmas.{flushed_first, flushed_second, flushed_whole}
use Rattle.play_loop.proofs.writing.finish.Goals as goal

pub returns-in-Err-clause-stopped : goal.returns-in-Err-clause-stopped
returns-in-Err-clause-stopped g c = λ ds ts h. flushed_first h c.in-Err.ensures.front

pub returns-in-Err-flush_rows-clause-stopped : goal.returns-in-Err-flush_rows-clause-stopped
returns-in-Err-flush_rows-clause-stopped g c = λ ds ts h. flushed_second h c.in-Ok.ensures.wrote c.in-Err-flush_rows.ensures.front

pub returns-in-Err-flush_rows-clause-others : goal.returns-in-Err-flush_rows-clause-others
returns-in-Err-flush_rows-clause-others g c = wrote_both c.requires.departures c.requires.fates c.in-Ok.ensures.wrote c.in-Err-flush_rows.ensures.front.1

pub returns-in-Err-flush_rows-clause-why : goal.returns-in-Err-flush_rows-clause-why
returns-in-Err-flush_rows-clause-why g c = fates_later (g.F.Files.view c.flush_rows.new.files) c.in-Err-flush_rows.trouble c.output_fault-in-Err-flush_rows.result c.in-Ok.ensures.wrote c.output_fault-in-Err-flush_rows.ensures c.in-Err-flush_rows.ensures.failed

pub returns-in-Ok-flush_rows-clause-departures_whole : goal.returns-in-Ok-flush_rows-clause-departures_whole
returns-in-Ok-flush_rows-clause-departures_whole g c = λ ds ts h. text_whole _ _ ds (flushed_whole h c.in-Ok.ensures.wrote c.in-Ok-flush_rows.ensures.wrote).departures

pub returns-in-Ok-flush_rows-clause-fates_whole : goal.returns-in-Ok-flush_rows-clause-fates_whole
returns-in-Ok-flush_rows-clause-fates_whole g c = λ ds ts h. text_whole _ _ ts (flushed_whole h c.in-Ok.ensures.wrote c.in-Ok-flush_rows.ensures.wrote).fates

pub returns-in-Ok-flush_rows-clause-no_fault : goal.returns-in-Ok-flush_rows-clause-no_fault
returns-in-Ok-flush_rows-clause-no_fault g c = same_trans _ _ _ c.in-Ok.ensures.no_fault c.in-Ok-flush_rows.ensures.no_fault

pub returns-in-Ok-flush_rows-clause-others : goal.returns-in-Ok-flush_rows-clause-others
returns-in-Ok-flush_rows-clause-others g c = wrote_both c.requires.departures c.requires.fates c.in-Ok.ensures.wrote c.in-Ok-flush_rows.ensures.wrote

pub returns-in-Err-clause-others : goal.returns-in-Err-clause-others
returns-in-Err-clause-others g c = wrote_first c.in-Err.ensures.front.1
