use Rattle.std.proofs.Common.{All, []}
use Rattle.std.proofs.lemmas.List.Elements.{All-nil}
use Rattle.std.proofs.lemmas.Result.{IfOk-at_ok}
use Rattle.conf_tree.proofs.MetersFit.{HasMeters, IsMetered, reading_fits}
use Rattle.conf_tree.proofs.laws.meters_fit.Goals as goal

pub returns : goal.returns
returns c = λ statements interfaces read. IfOk-at_ok (All IsMetered) read (reading_fits [] statements (All-nil HasMeters))
