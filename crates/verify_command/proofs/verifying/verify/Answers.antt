-- File by file: how far it went, and how it ends there.
use Rattle.std.proofs.Common.{◌∙◌, List, ℕ, Err, subst, sym}
use Rattle.fate_timely.specs.declared.given.Late.{Late}
use Rattle.file_judge.specs.Verdict.{AreVerified, IsUnverified}
use Rattle.play_base.specs.View.{Said}
use Rattle.run_outcomes.specs.declared.outcome.Failure.{Failure}
use Rattle.command_form.specs.Names.{given_names_read}
use Rattle.verify_command.specs.Lines.{verdict_text}
use Rattle.verify_command.specs.Verifying.{VerifyEnds}
use Rattle.verify_command.proofs.EndLemmas.{AreJudged, AtArrivals, AtDepartures, AtFates, arrivals_fail, at_arrivals, at_departures, departures_fail, fates_fail, found_fits, refuted, said, starved, unready, unsaid, went_far}
use Rattle.verify_command.proofs.verifying.verify.Given.{Over}
use Rattle.verify_command.proofs.verifying.verify.Goals.{In-Ok-read_arrivals, In-Ok-read_departures, In-Ok-read_fates}
use Rattle.verify_command.proofs.verifying.verify.Goals as goal

pub returns-in-Err : goal.returns-in-Err
returns-in-Err g c =
    let u = g.F.Files.view c.args.files.now in
    let a = g.F.Files.view c.read_inputs.new.files in
    let n = given_names_read c.args.words.now in
    let P : Failure → Type 0 = λ f. VerifyEnds u a n (Err f) in
    subst P (sym c.unready_failure.ensures) (unready n u a c.in-Err.unready c.in-Err.ensures.came c.in-Err.ensures.unready)

pub read_arrivals-requires-clause-fits : goal.read_arrivals-requires-clause-fits
read_arrivals-requires-clause-fits g c =
    found_fits c.configurations_fit.ensures (given_names_read c.args.words.now)
    (record { come = c.in-Ok.ensures.came; had = c.in-Ok.ensures.had; found = c.found-interface.ensures })

pub returns-in-Err-read_arrivals : goal.returns-in-Err-read_arrivals
returns-in-Err-read_arrivals g c =
    let x = c.in-Err-read_arrivals.ensures in
    arrivals_fail c.configurations_fit.ensures (given_names_read c.args.words.now)
    (record { come = c.in-Ok.ensures.came; had = c.in-Ok.ensures.had; found = c.found-interface.ensures }) _ _ x.on x.why.cause

arrivals_had : (g : Over) (c : In-Ok-read_arrivals g)
    → AtArrivals (given_names_read c.args.words.now) (g.F.Files.view c.args.files.now) (g.F.Files.view c.read_arrivals.new.files) c.found-interface.result.now
    c.in-Ok-read_arrivals.records
arrivals_had g c =
    let x = c.in-Ok-read_arrivals.ensures in
    at_arrivals c.configurations_fit.ensures (given_names_read c.args.words.now)
    (record { come = c.in-Ok.ensures.came; had = c.in-Ok.ensures.had; found = c.found-interface.ensures }) _ _ x.whole x.on c.in-Ok.ensures.counts x.counts

pub returns-in-Err-read_departures : goal.returns-in-Err-read_departures
returns-in-Err-read_departures g c =
    let x = c.in-Err-read_departures.ensures in
    let at = goal.at.returns-in-Err-read_departures g c in
    departures_fail c.configurations_fit.ensures _ (arrivals_had g at.In-Ok-read_arrivals) _ x.tried x.why

departures_had : (g : Over) (c : In-Ok-read_departures g)
    → AtArrivals (given_names_read c.args.words.now) (g.F.Files.view c.args.files.now) (g.F.Files.view c.read_arrivals.new.files) c.found-interface.result.now
    c.in-Ok-read_arrivals.records
    → AtDepartures (given_names_read c.args.words.now) (g.F.Files.view c.args.files.now) (g.F.Files.view c.read_departures.new.files)
    c.found-interface.result.now c.in-Ok-read_arrivals.records c.in-Ok-read_departures.departures.items
departures_had g c at =
    let x = c.in-Ok-read_departures.ensures in
    at_departures c.configurations_fit.ensures _ at _ x.read x.whole x.counts

pub read_fates-requires : goal.read_fates-requires
read_fates-requires g c = record {
  fits = found_fits c.configurations_fit.ensures (given_names_read c.args.words.now)
      (record { come = c.in-Ok.ensures.came; had = c.in-Ok.ensures.had; found = c.found-interface.ensures });
}

pub returns-in-Err-read_fates : goal.returns-in-Err-read_fates
returns-in-Err-read_fates g c =
    let x = c.in-Err-read_fates.ensures in
    let at = goal.at.returns-in-Err-read_fates g c in
    fates_fail c.configurations_fit.ensures _ (departures_had g at.In-Ok-read_departures (arrivals_had g at.In-Ok-read_arrivals)) _ x.tried x.why

-- once all four files are read
all_had : (g : Over) (c : In-Ok-read_fates g)
    → AtDepartures (given_names_read c.args.words.now) (g.F.Files.view c.args.files.now) (g.F.Files.view c.read_departures.new.files)
    c.found-interface.result.now c.in-Ok-read_arrivals.records c.in-Ok-read_departures.departures.items
    → AtFates (given_names_read c.args.words.now) (g.F.Files.view c.args.files.now) (g.F.Files.view c.read_fates.new.files) c.found-interface.result.now
    c.in-Ok-read_arrivals.records c.in-Ok-read_departures.departures.items c.in-Ok-read_fates.fates
all_had g c at =
    let x = c.in-Ok-read_fates.ensures in
    went_far c.configurations_fit.ensures _ at _ x.read x.whole x.counts

pub judge-requires-clause-interface : goal.judge-requires-clause-interface
judge-requires-clause-interface g c =
    found_fits c.configurations_fit.ensures (given_names_read c.args.words.now)
    (record { come = c.in-Ok.ensures.came; had = c.in-Ok.ensures.had; found = c.found-interface.ensures })

pub returns-in-Err-judge : goal.returns-in-Err-judge
returns-in-Err-judge g c =
    let at = goal.at.returns-in-Err-judge g c in
    let far = all_had g at.In-Ok-read_fates (departures_had g at.In-Ok-read_departures (arrivals_had g at.In-Ok-read_arrivals)) in
    let J : List ℕ → Type 0 =
    λ l. AreJudged c.found-interface.result.now c.in-Ok-read_arrivals.records l c.in-Ok-read_fates.fates (λ j. IsUnverified j c.in-Err-judge.why) in
    let P : Failure → Type 0 =
    λ f. VerifyEnds (g.F.Files.view c.args.files.now) (g.F.Files.view c.read_fates.new.files) (given_names_read c.args.words.now) (Err f) in
    subst P (sym c.refutation.ensures)
    (refuted c.configurations_fit.ensures far c.in-Err-judge.why (subst J c.deref.ensures.value c.in-Err-judge.ensures.refuted))

pub returns-in_default : goal.returns-in_default
returns-in_default g c =
    let at = goal.at.returns-in_default g c in
    starved c.configurations_fit.ensures
    (all_had g at.In-Ok-read_fates (departures_had g at.In-Ok-read_departures (arrivals_had g at.In-Ok-read_arrivals)))

pub returns-in-Ok-say_answer : goal.returns-in-Ok-say_answer
returns-in-Ok-say_answer g c =
    let at = goal.at.returns-in-Ok-say_answer g c in
    let far = all_had g at.In-Ok-read_fates (departures_had g at.In-Ok-read_departures (arrivals_had g at.In-Ok-read_arrivals)) in
    let J : List ℕ → Type 0 =
    λ l. AreJudged c.found-interface.result.now c.in-Ok-read_arrivals.records l c.in-Ok-read_fates.fates (λ j. AreVerified j c.in-Ok-judge.late.items) in
    let S : List ℕ → Type 0 = λ l. Said (g.F.Files.view c.read_fates.new.files) (g.F.Files.view c.say_answer.new.files) l in
    let text = c.as_bytes.ensures.value ∙ c.in-Ok-verdict_text.ensures in
    let K : List Late → Type 0 = λ l. S (verdict_text c.found-interface.result.now l) in
    said c.configurations_fit.ensures far _ c.in-Ok-judge.late.items (subst J c.deref.ensures.value c.in-Ok-judge.ensures.verified)
    (subst K c.deref-2.ensures.value (subst S text c.in-Ok-say_answer.ensures.said)) c.in-Ok-say_answer.ensures.counts

pub returns : goal.returns
returns g c =
    let at = goal.at.returns g c in
    let far = all_had g at.In-Ok-read_fates (departures_had g at.In-Ok-read_departures (arrivals_had g at.In-Ok-read_arrivals)) in
    let J : List ℕ → Type 0 =
    λ l. AreJudged c.found-interface.result.now c.in-Ok-read_arrivals.records l c.in-Ok-read_fates.fates (λ j. AreVerified j c.in-Ok-judge.late.items) in
    unsaid c.configurations_fit.ensures far _ c.in-Ok-judge.late.items (subst J c.deref.ensures.value c.in-Ok-judge.ensures.verified)
    c.in-Err-say_answer.failure c.in-Err-say_answer.ensures.refused c.in-Err-say_answer.ensures.why
