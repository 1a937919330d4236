use Rattle.std.proofs.Common.{◌∙◌, ap, sym, subst, Bool}
use Rattle.std.specs.Prelude.{None, option_copied}
use Rattle.run_inputs.specs.Had.{asked_of}
use Rattle.run_inputs.specs.Reading.{HasAsked}
use Rattle.run_inputs.proofs.TextLemmas.{asked_next, asked_sole}
use Rattle.run_inputs.proofs.reading.has_asked.Goals as goal

pub returns-in_default-next : goal.returns-in_default-next
returns-in_default-next c =
    asked_sole (asked_of c.args.asking.now None) c.args.conf.now c.in-Some.field-0.now (sym (ap option_copied c.in-Some.is) ∙ c.interface.ensures)
    (ap option_copied c.in_default-next.is)

pub returns : goal.returns
returns c =
    let P : Bool → Type 0 = λ b. HasAsked (asked_of c.args.asking.now None) c.args.conf.now b in
    subst P (sym c.is_some.ensures)
    (asked_next (asked_of c.args.asking.now None) c.args.conf.now c.in-Some.field-0.now c.in-Some-next.name.now c.interface-2.result
    (sym (ap option_copied c.in-Some.is) ∙ c.interface.ensures) (ap option_copied c.in-Some-next.is) c.interface-2.ensures)
