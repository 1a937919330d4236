use Rattle.std.proofs.Common.{sym, subst}
use Rattle.std.specs.declared.option.Option.{Option}
use Rattle.play_core.specs.declared.turn.Dropped.{Dropped}
use Rattle.play_loop.specs.Outputs.{AddsDropped, StopsDropped}
use Rattle.play_loop.proofs.OutputLemmas.{fronts_files, fronts_of_texts}
use Rattle.play_loop.proofs.telling.add_dropped.Goals as goal

pub returns-in-Err-clause-stopped : goal.returns-in-Err-clause-stopped
returns-in-Err-clause-stopped g c =
    let P : Option Dropped → Type 0 = λ o. StopsDropped c.args.names.now (g.F.Files.view c.args.files.now) (g.F.Files.view c.write_dropped.new.files) c.args.outputs.now c.args.class o in
    subst P (sym c.in-Some.is) c.in-Err.ensures.stopped

pub returns-in-Ok-keep-clause-added : goal.returns-in-Ok-keep-clause-added
returns-in-Ok-keep-clause-added g c =
    let P : Option Dropped → Type 0 = λ o. AddsDropped c.args.names.now (g.F.Files.view c.args.files.now) (g.F.Files.view c.write_dropped.new.files) c.args.outputs.now c.write_dropped.new.outputs c.args.class o in
    subst P (sym c.in-Some.is) c.in-Ok.ensures.added

pub returns-in-Err-keep-clause-stopped : goal.returns-in-Err-keep-clause-stopped
returns-in-Err-keep-clause-stopped g c =
    let P : Option Dropped → Type 0 = λ o. StopsDropped c.args.names.now (g.F.Files.view c.args.files.now) (g.F.Files.view c.write_dropped.new.files) c.args.outputs.now c.args.class o in
    let same = c.in-Ok.ensures.only.same in
    subst P (sym c.in-Some.is)
    (λ ds ts h. fronts_files same.departures same.fates (fronts_of_texts (c.in-Ok.ensures.added.wrote ds ts h)))
