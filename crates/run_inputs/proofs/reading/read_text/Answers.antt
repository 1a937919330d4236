use Rattle.std.proofs.Common.{Err, ap, sym, subst, arith}
use Rattle.std.proofs.lemmas.Grind.{common_steps}
use Rattle.std.specs.Prelude.{Result}
use Rattle.file_plans.specs.declared.part.Part.TheVariants as part
use Rattle.file_plans.specs.Plan.{read_place}
use Rattle.play_base.specs.declared.trouble.Trouble.{Trouble}
use Rattle.run_inputs.specs.declared.inputs.Unready.{Unready}
use Rattle.run_inputs.specs.Had.{IsUnready, asked_of}
use Rattle.std.specs.Prelude.{None}
use Rattle.run_inputs.proofs.OpenLemmas.{alone_none, alone_took, at_end, cannot_open, cannot_take, few_none, few_took, long, unread_text, whole}
use Rattle.run_inputs.proofs.reading.read_text.Goals as goal

pub returns-in-Err-clause-alone : goal.returns-in-Err-clause-alone
returns-in-Err-clause-alone g c = alone_none _ _ _ c.in-Err.ensures.refused

pub returns-in-Err-clause-few : goal.returns-in-Err-clause-few
returns-in-Err-clause-few g c = few_none _ (g.F.Files.view c.args.files.now) (g.F.Files.view c.open_next.new.files) c.in-Err.ensures.refused

pub returns-in-Err-clause-unready : goal.returns-in-Err-clause-unready
returns-in-Err-clause-unready g c =
    let old = g.F.Files.view c.args.files.now in
    let new = g.F.Files.view c.open_next.new.files in
    let q = asked_of c.args.asking.now None in
    let P : Unready → Type 0 = λ u. IsUnready q old new u in
    subst P (sym c.unread.ensures)
    (unread_text q old new c.in-Err.trouble
    (λ h. cannot_open part.Configuration q.config old new c.in-Err.ensures.refused (c.in-Err.ensures.failed (ap {B = Result _ Trouble} (λ (x : Trouble). Err x) h)))
    (alone_none (read_place part.Configuration q.config) old new c.in-Err.ensures.refused).along)

pub returns-in-Err-take_to-clause-alone : goal.returns-in-Err-take_to-clause-alone
returns-in-Err-take_to-clause-alone g c =
    let t = c.in-Err-take_to.ensures.took in alone_took part.Configuration _ c.in-Ok.file t.bytes _ _ _ c.in-Ok.ensures.came c.in-Ok.ensures.said t.took

pub returns-in-Err-take_to-clause-few : goal.returns-in-Err-take_to-clause-few
returns-in-Err-take_to-clause-few g c = few_took _ c.in-Ok.file _ _ _ c.in-Ok.ensures.came c.in-Ok.ensures.ready c.in-Err-take_to.ensures.took

pub returns-in-Err-take_to-clause-unready : goal.returns-in-Err-take_to-clause-unready
returns-in-Err-take_to-clause-unready g c =
    let old = g.F.Files.view c.args.files.now in
    let mid = g.F.Files.view c.open_next.new.files in
    let new = g.F.Files.view c.take_to.new.files in
    let q = asked_of c.args.asking.now None in
    let t = c.in-Err-take_to.ensures.took in
    let P : Unready → Type 0 = λ u. IsUnready q old new u in
    subst P (sym c.unread-in-Err-take_to.ensures)
    (unread_text q old new c.in-Err-take_to.trouble
    (λ h. cannot_take part.Configuration q.config c.in-Ok.file old mid new c.in-Ok.ensures.came
    (c.in-Err-take_to.ensures.failed (ap {B = Result _ Trouble} (λ (x : Trouble). Err x) h)))
    (alone_took part.Configuration q.config c.in-Ok.file t.bytes old mid new c.in-Ok.ensures.came c.in-Ok.ensures.said t.took).along)

pub returns-then-len-gt-MOST-clause-alone : goal.returns-then-len-gt-MOST-clause-alone
returns-then-len-gt-MOST-clause-alone g c =
    let t = c.in-Ok-take_to.ensures.took in alone_took part.Configuration _ c.in-Ok.file t.bytes _ _ _ c.in-Ok.ensures.came c.in-Ok.ensures.said t.took

pub returns-then-len-gt-MOST-clause-few : goal.returns-then-len-gt-MOST-clause-few
returns-then-len-gt-MOST-clause-few g c = few_took _ c.in-Ok.file _ _ _ c.in-Ok.ensures.came c.in-Ok.ensures.ready c.in-Ok-take_to.ensures.took

pub returns-then-len-gt-MOST-clause-unready : goal.returns-then-len-gt-MOST-clause-unready
returns-then-len-gt-MOST-clause-unready g c =
    let old = g.F.Files.view c.args.files.now in
    let mid = g.F.Files.view c.open_next.new.files in
    let new = g.F.Files.view c.take_to.new.files in
    let q = asked_of c.args.asking.now None in
    let t = c.in-Ok-take_to.ensures.took in (
      long q c.in-Ok.file _ c.take_to.new.taken.items old mid new c.in-Ok.ensures.ready c.new-bytes.ensures.items c.in-Ok-take_to.ensures.gained
          (grind (arith, common_steps)),
      (alone_took part.Configuration q.config c.in-Ok.file t.bytes old mid new c.in-Ok.ensures.came c.in-Ok.ensures.said t.took).along,
    )

pub returns-clause-alone : goal.returns-clause-alone
returns-clause-alone g c =
    let t = c.in-Ok-take_to.ensures.took in alone_took part.Configuration _ c.in-Ok.file t.bytes _ _ _ c.in-Ok.ensures.came c.in-Ok.ensures.said t.took

pub returns-clause-few : goal.returns-clause-few
returns-clause-few g c = few_took _ c.in-Ok.file _ _ _ c.in-Ok.ensures.came c.in-Ok.ensures.ready c.in-Ok-take_to.ensures.took

pub returns-clause-whole : goal.returns-clause-whole
returns-clause-whole g c =
    let old = g.F.Files.view c.args.files.now in
    let mid = g.F.Files.view c.open_next.new.files in
    let new = g.F.Files.view c.take_to.new.files in
    whole (asked_of c.args.asking.now None) c.in-Ok.file _ c.take_to.new.taken old mid new c.in-Ok.ensures.came c.in-Ok.ensures.ready c.new-bytes.ensures.items
    c.in-Ok-take_to.ensures.gained
    (at_end new c.in-Ok.file _ c.take_to.new.taken.items c.in-Ok-take_to.ensures.enough (grind (arith, common_steps))) (grind (arith, common_steps))
