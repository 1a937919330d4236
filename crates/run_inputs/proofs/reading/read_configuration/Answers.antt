use Rattle.std.proofs.Common.{List, ℕ, subst}
use Rattle.std.specs.Prelude.{None}
use Rattle.run_inputs.specs.Had.{asked_of}
use Rattle.run_inputs.specs.Reading.{IsText}
use Rattle.run_inputs.proofs.HadLemmas.{have_alone}
use Rattle.run_inputs.proofs.reading.read_configuration.Goals as goal

pub returns-in-Err-clause-came : goal.returns-in-Err-clause-came
returns-in-Err-clause-came g c = have_alone c.args.asking.now _ _ c.in-Err.ensures.alone c.in-Err.ensures.few

pub returns-in-Ok-conf_of-clause-came : goal.returns-in-Ok-conf_of-clause-came
returns-in-Ok-conf_of-clause-came g c = have_alone c.args.asking.now _ _ c.in-Ok.ensures.alone c.in-Ok.ensures.few

pub returns-in-Ok-conf_of-clause-had : goal.returns-in-Ok-conf_of-clause-had
returns-in-Ok-conf_of-clause-had g c =
    let old = g.F.Files.view c.args.files.now in
    let w = c.in-Ok.ensures.whole in
    let P : List ℕ → Type 0 = λ text. IsText (asked_of c.args.asking.now None) text c.in-Ok-conf_of.conf in
    let t = subst P c.as_slice.ensures.value c.in-Ok-conf_of.ensures.accepted in
    record { configured = t.0; accepted = t.1 old w.at; came = w.came; taken = w.taken }
