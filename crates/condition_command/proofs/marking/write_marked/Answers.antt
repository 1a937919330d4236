-- What is marked through files of which the bytes are counted is marked of those behind them.
use Rattle.std.proofs.Common.{◌≡◌, rules, subst}
use Rattle.play_base.specs.View.{View}
use Rattle.arrivals_source.proofs.CountedLaws.{counted_fixed}
use Rattle.condition_command.specs.Marking.{Marks}
use Rattle.condition_command.proofs.marking.write_marked.Goals as goal

pub returns-clause-marks : goal.returns-clause-marks
returns-clause-marks g c =
    let v = g.F.Files.view c.args.files.now in
    let s = c.mark_given.new.files in
    let w = g.F.Files.view s.files.now in
    let given = c.args.given.now in
    let y = c.mark_given.ensures in
    let fixed = (counted_fixed v w _ s.files.ghost_name c.args.from s.file s.taken _ _ y.stays.keeps).reference in
    let Q : View → Type 0 = λ u. Marks v u c.args.from c.args.to given.rest given.front.items c.args.marker.now c.mark_given.result in
    let k : w ≡ g.F.Files.view c.files-1.given.0 = search rules in
    subst Q k y.marks
