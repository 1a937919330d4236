-- What is marked through a source is marked of the files behind it.
use Rattle.std.proofs.Common.{◌≡◌, ◌∙◌, List, ℕ, rules, subst}
use Rattle.play_base.specs.View.{View}
use Rattle.condition_command.specs.Marking.{Marks, Stays}
use Rattle.condition_command.proofs.MovingLemmas.{marks_source, source_reference, stays_source}
use Rattle.condition_command.proofs.marking.mark_given.Goals as goal

pub returns-clause-marks : goal.returns-clause-marks
returns-clause-marks g c =
    let v = g.F.Files.view c.args.files.now in
    let s = c.mark_file.new.files in
    let w = g.F.Files.view s.files.now in
    let from = c.args.from in
    let to = c.args.to in
    let m = c.args.marker.now in
    let r = c.mark_file.result in
    let front = c.new.result in
    let rest = c.args.given.now.rest in
    let way = c.way_by-way.result in
    let y = c.mark_file.ensures in
    let fixed = source_reference v w _ s.files.ghost_name from s.file to front s.front s.way.now m r way y.stays in
    let back = marks_source v w _ s.files.ghost_name from s.file to front s.front s.way.now m r way y.stays rest c.way_by-way.ensures c.new.ensures.rest y.marks in
    let B : List ℕ → Type 0 = λ l. Marks v w from to rest l m r in
    let Q : View → Type 0 = λ u. Marks v u from to rest c.args.given.now.front.items m r in
    let k : w ≡ g.F.Files.view c.files-1.given.0 = search rules in
    subst Q k (subst B (c.new.ensures.bytes ∙ c.as_slice.ensures.value) back)

pub returns-clause-stays : goal.returns-clause-stays
returns-clause-stays g c =
    let v = g.F.Files.view c.args.files.now in
    let s = c.mark_file.new.files in
    let w = g.F.Files.view s.files.now in
    let from = c.args.from in
    let to = c.args.to in
    let m = c.args.marker.now in
    let r = c.mark_file.result in
    let way = c.way_by-way.result in
    let y = c.mark_file.ensures in
    let fixed = source_reference v w _ s.files.ghost_name from s.file to c.new.result s.front s.way.now m r way y.stays in
    let back = stays_source v w _ s.files.ghost_name from s.file to c.new.result s.front s.way.now m r way y.stays in
    let Q : View → Type 0 = λ u. Stays v u from to in
    subst Q (search rules) back
