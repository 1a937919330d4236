use Rattle.std.proofs.Common.{inr, ap}
use Rattle.std.specs.Prelude.{Err}
use Rattle.input_files.proofs.RecordLemmas.{stays_same, told_last}
use Rattle.input_files.proofs.records.told_after.Goals as goal

pub returns-in-Ok-take_rest-clause-stays : goal.returns-in-Ok-take_rest-clause-stays
returns-in-Ok-take_rest-clause-stays g c = stays_same (g.F.Files.view c.args.files.now) (g.F.Files.view c.take_rest.new.files) c.args.file c.args.fault

pub returns-in-Err-Failed-clause-stays : goal.returns-in-Err-Failed-clause-stays
returns-in-Err-Failed-clause-stays g c = inr (c.in-Err-Failed.ensures.failed (ap Err c.in-Err-Failed.field-0-is))

pub returns-in-Ok-take_rest-clause-last : goal.returns-in-Ok-take_rest-clause-last
returns-in-Ok-take_rest-clause-last g c =
    told_last (g.F.Files.view c.args.files.now) (g.F.Files.view c.take_rest.new.files) c.args.file c.args.fault c.in-Ok-take_rest.ensures.out
