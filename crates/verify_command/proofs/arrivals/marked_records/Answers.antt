-- What is read through a source is read of the files behind it.
use Rattle.std.proofs.Common.{◌∙◌, Err, ap, rules, subst, sym}
use Rattle.input_files.specs.Records.{AreRecords, HasFault}
use Rattle.play_base.specs.View.{View}
use Rattle.run_outcomes.specs.declared.outcome.Failure.{Failure}
use Rattle.verify_command.specs.Reading.{AreNotHad, ReadSome}
use Rattle.verify_command.proofs.ArrivalLemmas.{of_source, same_files, some_back, why_of}
use Rattle.verify_command.proofs.arrivals.marked_records.Goals as goal

pub returns-in-Ok-read_records-clause-whole : goal.returns-in-Ok-read_records-clause-whole
returns-in-Ok-read_records-clause-whole g c =
    of_source (g.F.Files.view c.args.files.now) c.args.arrivals.now c.args.interface.now c.new.result c.in-Ok.way
    (λ bytes. AreRecords bytes c.in-Ok-read_records.records) c.in-Ok.ensures.shows c.new.ensures.rest (c.new.ensures.bytes ∙ c.as_slice.ensures.value)
    c.in-Ok-read_records.ensures.whole

pub returns-in-Ok-read_records-clause-some : goal.returns-in-Ok-read_records-clause-some
returns-in-Ok-read_records-clause-some g c =
    let v = g.F.Files.view c.args.files.now in
    let s = c.read_records.new.files in
    let w = g.F.Files.view s.files.now in
    let y = c.read_records.ensures.some in
    let same = same_files v w _ s.files.ghost_name c.args.arrivals.now.file s.file c.new.result s.front c.in-Ok.way s.way.now y in
    let back = some_back v w _ s.files.ghost_name c.args.arrivals.now.file s.file c.new.result s.front c.in-Ok.way s.way.now y in
    let Q : View → Type 0 = λ u. ReadSome v u c.args.arrivals.now.file in
    subst Q (search rules) back

pub returns-clause-some : goal.returns-clause-some
returns-clause-some g c =
    let v = g.F.Files.view c.args.files.now in
    let s = c.read_records.new.files in
    let w = g.F.Files.view s.files.now in
    let y = c.read_records.ensures.some in
    let same = same_files v w _ s.files.ghost_name c.args.arrivals.now.file s.file c.new.result s.front c.in-Ok.way s.way.now y in
    let back = some_back v w _ s.files.ghost_name c.args.arrivals.now.file s.file c.new.result s.front c.in-Ok.way s.way.now y in
    let Q : View → Type 0 = λ u. ReadSome v u c.args.arrivals.now.file in
    subst Q (search rules) back

pub returns-clause-why : goal.returns-clause-why
returns-clause-why g c =
    let v = g.F.Files.view c.args.files.now in
    let i = c.args.interface.now in
    let x = c.args.arrivals.now in
    let s = c.read_records.new.files in
    let w = g.F.Files.view s.files.now in
    let y = c.read_records.ensures.some in
    let same = same_files v w _ s.files.ghost_name x.file s.file c.new.result s.front c.in-Ok.way s.way.now y in
    let of = of_source v x i c.new.result c.in-Ok.way (λ bytes. HasFault bytes c.in-Err.fault) c.in-Ok.ensures.shows c.new.ensures.rest
    (c.new.ensures.bytes ∙ c.as_slice.ensures.value) c.in-Err.ensures.fault in
    let P : Failure → Type 0 = λ f. AreNotHad v w i x f in
    let Q : View → Type 0 = λ u. AreNotHad v u i x c.capture_failure.result in
    let told : Q w = subst P (sym c.capture_failure.ensures) (why_of v w i x c.in-Err.fault of (λ is. c.in-Err.ensures.read (ap Err is))) in
    subst Q (search rules) told
