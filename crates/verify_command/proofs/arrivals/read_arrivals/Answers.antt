-- What is read through files that count the arrivals is read of those behind them.
use Rattle.std.proofs.Common.{rules, subst}
use Rattle.play_base.specs.View.{View}
use Rattle.verify_command.specs.Reading.{ReadOn}
use Rattle.verify_command.proofs.ArrivalLemmas.{read_behind, same_counted}
use Rattle.verify_command.proofs.arrivals.read_arrivals.Goals as goal

pub returns-clause-on : goal.returns-clause-on
returns-clause-on g c =
    let v = g.F.Files.view c.args.files.now in
    let s = c.marked_records.new.files in
    let w = g.F.Files.view s.files.now in
    let y = c.marked_records.ensures.some in
    let same = same_counted v w _ s.files.ghost_name c.args.arrivals.now.file s.file s.taken y in
    let back = read_behind v w _ s.files.ghost_name c.args.arrivals.now.file s.file s.taken y (g.F.Files.told s.files.now) c.requires.there in
    let Q : View → Type 0 = λ u. ReadOn v u c.args.arrivals.now.file in
    subst Q (search rules) back
