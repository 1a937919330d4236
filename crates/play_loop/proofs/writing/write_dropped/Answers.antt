use Rattle.std.proofs.Common.{refl}
use Rattle.play_loop.proofs.KeptLemmas.{fates_cause, wrote_second}
use Rattle.play_loop.proofs.OutputLemmas.{texts_rowed, fronts_rowed}
use Rattle.play_loop.proofs.writing.write_dropped.Goals as goal

pub returns-in-Ok-clause-added : goal.returns-in-Ok-clause-added
returns-in-Ok-clause-added g c = record { wrote = λ ds ts h. texts_rowed h c.in-Ok.ensures.grew; counted = c.count.ensures }

pub returns-in-Err-clause-stopped : goal.returns-in-Err-clause-stopped
returns-in-Err-clause-stopped g c = λ ds ts h. fronts_rowed h c.in-Err.ensures.stopped

pub returns-in-Ok-clause-only : goal.returns-in-Ok-clause-only
returns-in-Ok-clause-only g c = record {
  same = record { departures = refl; fates = refl };
  others = wrote_second c.in-Ok.ensures.grew.wrote;
  no_fault = c.in-Ok.ensures.no_fault;
  why = tt;
}

pub returns-in-Err-clause-only : goal.returns-in-Err-clause-only
returns-in-Err-clause-only g c = record {
  same = record { departures = refl; fates = refl };
  others = wrote_second c.in-Err.ensures.stopped.wrote;
  no_fault = tt;
  why = fates_cause c.args.outputs.now.departures c.args.outputs.now.fates (g.F.Files.view c.args.files.now) (g.F.Files.view c.gather_row.new.files) c.in-Err.trouble
      c.output_fault.result c.output_fault.ensures c.in-Err.ensures.failed;
}
