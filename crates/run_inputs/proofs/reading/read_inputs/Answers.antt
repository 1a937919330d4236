use Rattle.run_inputs.proofs.HadLemmas.{had_both, have_both, have_more, unready_both, unready_more}
use Rattle.run_inputs.proofs.reading.read_inputs.Goals as goal

pub returns-in-Err-clause-came : goal.returns-in-Err-clause-came
returns-in-Err-clause-came g c = have_more c.args.asking.now c.args.arrivals.now _ _ c.in-Err.ensures.came

pub returns-in-Err-clause-unready : goal.returns-in-Err-clause-unready
returns-in-Err-clause-unready g c =
    unready_more c.args.asking.now c.args.arrivals.now (g.F.Files.view c.args.files.now) (g.F.Files.view c.read_configuration.new.files) c.in-Err.unready
    c.in-Err.ensures.unready

pub returns-in-Ok-begin_arrivals-clause-came : goal.returns-in-Ok-begin_arrivals-clause-came
returns-in-Ok-begin_arrivals-clause-came g c =
    have_both c.args.asking.now c.args.arrivals.now _ _ _ c.in-Ok.conf c.in-Ok.ensures.came c.in-Ok.ensures.had c.in-Ok-begin_arrivals.ensures.alone

pub returns-in-Ok-begin_arrivals-clause-had : goal.returns-in-Ok-begin_arrivals-clause-had
returns-in-Ok-begin_arrivals-clause-had g c =
    let y = c.in-Ok-begin_arrivals.ensures in
    had_both c.args.asking.now c.args.arrivals.now _ _ _ c.in-Ok.conf c.in-Ok-begin_arrivals.arrivals c.in-Ok.ensures.came c.in-Ok.ensures.had y.alone y.begun

pub returns-in-Err-begin_arrivals-clause-came : goal.returns-in-Err-begin_arrivals-clause-came
returns-in-Err-begin_arrivals-clause-came g c =
    have_both c.args.asking.now c.args.arrivals.now _ _ _ c.in-Ok.conf c.in-Ok.ensures.came c.in-Ok.ensures.had c.in-Err-begin_arrivals.ensures.alone

pub returns-in-Err-begin_arrivals-clause-unready : goal.returns-in-Err-begin_arrivals-clause-unready
returns-in-Err-begin_arrivals-clause-unready g c =
    let y = c.in-Err-begin_arrivals.ensures in
    unready_both c.args.asking.now c.args.arrivals.now _ (g.F.Files.view c.read_configuration.new.files) _ c.in-Ok.conf c.in-Err-begin_arrivals.unready
    c.in-Ok.ensures.came c.in-Ok.ensures.had y.alone y.unbegun
