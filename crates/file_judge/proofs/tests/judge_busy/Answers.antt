use Rattle.std.proofs.Common.{[], length}
use Rattle.std.proofs.lemmas.List.{length-map}
use Rattle.fate_judge.specs.declared.given.Kind.TheVariants as kind
use Rattle.fate_judge.specs.Given.{bare_arrival, bare_arrivals}
use Rattle.given_play.specs.Rights.{allowed_of}
use Rattle.file_judge.proofs.VerdictLemmas.{numbered}
use Rattle.file_judge.proofs.tests.judge_busy.Goals as goal

pub first_idle-requires-clause-numbered : goal.first_idle-requires-clause-numbered
first_idle-requires-clause-numbered c =
    numbered (allowed_of c.args.interface.now) (bare_arrivals c.args.packets.now) (length c.args.packets.now) [] c.args.rows.now
    (length-map c.args.packets.now bare_arrival) (c.requires.passed kind.Reading)
