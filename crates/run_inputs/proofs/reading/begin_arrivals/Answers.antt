use Rattle.std.proofs.Common.{Err, ap, sym, subst}
use Rattle.std.specs.Prelude.{Result}
use Rattle.file_plans.specs.declared.part.Part.TheVariants as part
use Rattle.play_base.specs.declared.trouble.Trouble.{Trouble}
use Rattle.run_inputs.specs.declared.inputs.Unready.{Unready}
use Rattle.run_inputs.specs.Reading.{IsUnbegun}
use Rattle.run_inputs.proofs.BeginLemmas.{is_begun, is_unbegun, unread_arrivals}
use Rattle.run_inputs.proofs.OpenLemmas.{alone_none, alone_took, cannot_open}
use Rattle.run_inputs.proofs.reading.begin_arrivals.Goals as goal

pub returns-in-Err-clause-alone : goal.returns-in-Err-clause-alone
returns-in-Err-clause-alone g c = alone_none _ _ _ c.in-Err.ensures.refused

pub returns-in-Err-clause-unbegun : goal.returns-in-Err-clause-unbegun
returns-in-Err-clause-unbegun g c =
    let old = g.F.Files.view c.args.files.now in
    let new = g.F.Files.view c.open_next.new.files in
    let P : Unready → Type 0 = λ u. IsUnbegun old new c.args.name.now u in
    subst P (sym c.unread.ensures)
    (unread_arrivals c.args.name.now old new c.in-Err.trouble
    (λ h. cannot_open part.Arrivals c.args.name.now old new c.in-Err.ensures.refused
    (c.in-Err.ensures.failed (ap {B = Result _ Trouble} (λ (x : Trouble). Err x) h))))

pub returns-in-Ok-given_arrivals-clause-alone : goal.returns-in-Ok-given_arrivals-clause-alone
returns-in-Ok-given_arrivals-clause-alone g c =
    let t = c.in-Ok-given_arrivals.ensures.took in
    alone_took part.Arrivals _ c.in-Ok.file t.0 _ _ _ c.in-Ok.ensures.came c.in-Ok.ensures.said t.1

pub returns-in-Ok-given_arrivals-clause-begun : goal.returns-in-Ok-given_arrivals-clause-begun
returns-in-Ok-given_arrivals-clause-begun g c =
    let y = c.in-Ok-given_arrivals.ensures in
    is_begun c.args.name.now c.in-Ok.file c.in-Ok-given_arrivals.given _ _ _ c.in-Ok.ensures.came c.in-Ok.ensures.ready y.given y.begun y.few y.took

pub returns-in-Err-given_arrivals-clause-alone : goal.returns-in-Err-given_arrivals-clause-alone
returns-in-Err-given_arrivals-clause-alone g c =
    let t = c.in-Err-given_arrivals.ensures.took in
    alone_took part.Arrivals _ c.in-Ok.file t.0 _ _ _ c.in-Ok.ensures.came c.in-Ok.ensures.said t.1

pub returns-in-Err-given_arrivals-clause-unbegun : goal.returns-in-Err-given_arrivals-clause-unbegun
returns-in-Err-given_arrivals-clause-unbegun g c =
    let old = g.F.Files.view c.args.files.now in
    let mid = g.F.Files.view c.open_next.new.files in
    let new = g.F.Files.view c.given_arrivals.new.files in
    let P : Unready → Type 0 = λ u. IsUnbegun old new c.args.name.now u in
    subst P (sym c.unbegun.ensures)
    (is_unbegun c.args.name.now c.in-Ok.file c.in-Err-given_arrivals.fault old mid new c.in-Ok.ensures.came c.in-Ok.ensures.ready
    c.in-Err-given_arrivals.ensures.refused)
