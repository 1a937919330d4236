use Rattle.std.proofs.Common.{List}
use Rattle.altq_model.specs.Arrivals.{Captured}
use Rattle.altq_model.specs.History.{DrawnWords, LabelledEvent}
use Rattle.play_core.specs.declared.state.Progress.{Progress}
use Rattle.play_core.proofs.GoingLemmas.{Going, Goes, goes_by, state}
use Rattle.play_core.proofs.ReadLemmas as lemma
use Rattle.play_core.proofs.laws.plays_go_on.Given.{Over}
use Rattle.play_core.proofs.laws.plays_go_on.Goals as goal

abbrev goes : (g : Over) (d : g.row.D.Denot) {arrived : List Captured} {w : DrawnWords} {x : Progress} {h : List LabelledEvent} → Going (state g.D.Discipline d w x) arrived h
    → Goes (state g.D.Discipline d w x) arrived h
goes g d y = goes_by g.D.Discipline d g.met.D.Discipline.lawful g.met.D.Discipline.steady g.met.D.Discipline.distinct y

pub returns-clause-read : goal.returns-clause-read
returns-clause-read g c = λ arrived more w h o rise few y. lemma.read_more more o rise few (goes g c.args.discipline.now y)

pub returns-clause-finished : goal.returns-clause-finished
returns-clause-finished g c = λ arrived w h held d y. lemma.finished (goes g c.args.discipline.now y) held d

pub returns-clause-stopped : goal.returns-clause-stopped
returns-clause-stopped g c = λ arrived w h cut y. lemma.stopped (goes g c.args.discipline.now y) cut
